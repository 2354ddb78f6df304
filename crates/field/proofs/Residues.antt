-- The residues modulo 257 keep the laws of a field.
use Rattle.std.proofs.Common.{◌≡◌, ℕ, ◌+◌, ◌*◌, ◌%◌, ◌<◌, sym, refl, ap, ◌∙◌, mod-eq_of_lt, mul_assoc, mul_comm, one-mul, mul-add, arith}
use native.Mathlib.Nat.{add-mod}
use Rattle.std.proofs.lemmas.Nat.{mod_below, mul-mod_first, mul-mod_second}
use Rattle.std.proofs.lemmas.Bool.{ne_eqb}
use Rattle.field.specs.Arith.{Laws, Coding, power}
use Rattle.field.specs.Residues.{residue_product, residue_arith}
use Rattle.field.specs.declared.residue.Residue.{Residue}
use Rattle.field.proofs.Codes.{Code, same_code}
use Rattle.field.specs.Product.{Monoid}
use Rattle.field.proofs.Powers.{power_below, by_halves, by_halves_is, inverts_at}

product_assoc : (x y z : ℕ) → residue_product (residue_product x y) z ≡ residue_product x (residue_product y z)
product_assoc x y z = mul-mod_first (x * y) z 257 ∙ ap (λ n. n % 257) (mul_assoc x y z) ∙ sym (mul-mod_second x (y * z) 257)

product_comm : (x y : ℕ) → residue_product x y ≡ residue_product y x
product_comm x y = ap (λ n. n % 257) (mul_comm x y)

product_one : (x : ℕ) → x < 257 → residue_product 1 x ≡ x
product_one x h = ap (λ n. n % 257) (one-mul x) ∙ mod-eq_of_lt h

product_below : (x y : ℕ) → residue_product x y < 257
product_below x y = mod_below (x * y) 257 (omega arith)

pub residue_monoid : Monoid residue_product 257
residue_monoid = record {
  one_below = omega arith;
  closed = λ x y hx hy. product_below x y;
  assoc = λ x y z hx hy hz. product_assoc x y z;
  one_left = product_one;
  one_right = λ x h. product_comm x 1 ∙ product_one x h;
}

power_inverse : (x : ℕ) → x < 257 → (x ≡ 0 → ⊥) → residue_product x (power residue_product x 255) ≡ 1
unfolding by_halves
power_inverse x h nonzero =
    ap (residue_product x) (sym (by_halves_is residue_monoid x h 8 255 (omega arith))) ∙ inverts_at residue_product 257 (λ y. by_halves residue_product 8 y 255) refl x h nonzero

pub residue_laws : Laws residue_arith
residue_laws = record {
  order_least = omega arith;
  order_most = omega arith;
  mark_fits = omega arith;
  sum_below = λ x y hx hy. mod_below (x + y) 257 (omega arith);
  negative_below = λ x h. omega arith;
  product_below = λ x y hx hy. product_below x y;
  sum_assoc = λ x y z hx hy hz. omega arith;
  sum_comm = λ x y hx hy. omega arith;
  sum_zero = λ x h. omega arith;
  sum_negative = λ x h. omega arith;
  product_assoc = λ x y z hx hy hz. product_assoc x y z;
  product_comm = λ x y hx hy. product_comm x y;
  product_one = product_one;
  distributes = λ x y z hx hy hz. mul-mod_second x (y + z) 257 ∙ ap (λ n. n % 257) (mul-add x y z) ∙ add-mod (x * y) (x * z) 257;
  inverse_zero = refl;
  inverse_else = λ x h nonzero. (power residue_product x 255, rw (ne_eqb x 0 nonzero), power_below residue_monoid x h 255, power_inverse x h nonzero);
}

pub residue_coding : Coding residue_arith (λ (x : Residue). x.value)
residue_coding = record {
  below = λ x. x.ok;
  apart = λ x y e. ap (λ (p : Code residue_arith). record { value = p.0; ok = p.1 }) (same_code residue_arith (x.value, x.ok) (y.value, y.ok) e);
  each = λ c h. (record { value = c; ok = h }, refl);
}
