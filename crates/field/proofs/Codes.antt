-- The codes below the order of a lawful field, each with the proof that it is below, form a ring with laws that ask nothing.
use Rattle.std.proofs.Common.{◌≡◌, ℕ, ◌<◌, ap, inl, inr, ⊎_elim, arith}
use mathlib.Core.HLevel.{Σ_prop_path}
use native.Mathlib.Bridge.{le_prop}
use Rattle.std.proofs.lemmas.Bool.{cases_eq}
use Rattle.field.specs.Arith.{Arith, Laws}
use Rattle.field.proofs.Ring.{Ring, Field}

abbrev pub Code : Arith → Type 0
Code A = (c : ℕ) × (c < A.order)

pub same_code : (A : Arith) (x y : Code A) → x.0 ≡ y.0 → x ≡ y
same_code A x y e = Σ_prop_path (λ (c : ℕ). le_prop) e

module _ (A : Arith) (L : Laws A) where
  abbrev pub codes : Ring (Code A)
  codes = record {
    zero = (0, omega (arith, L.order_least));
    one = (1, omega (arith, L.order_least));
    add = λ x y. (A.sum x.0 y.0, L.sum_below x.0 y.0 x.1 y.1);
    mul = λ x y. (A.product x.0 y.0, L.product_below x.0 y.0 x.1 y.1);
    neg = λ x. (A.negative x.0, L.negative_below x.0 x.1);
    add_assoc = λ x y z. same_code A _ _ (L.sum_assoc x.0 y.0 z.0 x.1 y.1 z.1);
    add_comm = λ x y. same_code A _ _ (L.sum_comm x.0 y.0 x.1 y.1);
    zero_add = λ x. same_code A _ _ (L.sum_zero x.0 x.1);
    add_neg = λ x. same_code A _ _ (L.sum_negative x.0 x.1);
    mul_assoc = λ x y z. same_code A _ _ (L.product_assoc x.0 y.0 z.0 x.1 y.1 z.1);
    mul_comm = λ x y. same_code A _ _ (L.product_comm x.0 y.0 x.1 y.1);
    one_mul = λ x. same_code A _ _ (L.product_one x.0 x.1);
    mul_add = λ x y z. same_code A _ _ (L.distributes x.0 y.0 z.0 x.1 y.1 z.1);
  }

  -- and with the inverses a field
  abbrev pub codes_field : Field (Code A)
  codes_field = record {
    ring = codes;
    zero_or_not = λ x. ⊎_elim (λ e. inl (same_code A x codes.zero e)) (λ ne. inr (λ e. ne (ap (λ (c : Code A). c.0) e))) (cases_eq x.0 0);
    inverse = λ x nonzero.
        let (y, found, below, unit) = L.inverse_else x.0 x.1 (λ e. nonzero (same_code A x codes.zero e)) in
        ((y, below), same_code A _ _ unit);
  }
