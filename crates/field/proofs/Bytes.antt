-- The bytes keep the laws of a field. Their product is additive in each factor, so that most laws need be checked at powers of two alone.
use Rattle.std.proofs.Common.{◌≡◌, ℕ, zero, suc, ◌+◌, ◌*◌, ◌/◌, ◌%◌, ◌^◌, ◌<◌, Bool, true, eqb, ltb, sym, refl, ap, ◌∙◌, arith}
use lib.Bits.{bit_xor, xor_zero_l, xor_assoc, xor_comm, xor_self, xor_shr, xor_mod, xor_lt}
use Rattle.std.specs.Int.{bit_at}
use Rattle.std.proofs.lemmas.Bool.{eqb-true, ltb-true, ne_eqb, agree_below, agree_below_at}
use Rattle.field.specs.Arith.{Laws, Coding, power}
use Rattle.field.specs.Bytes.{carryless, remainder, Congruent, byte_product, byte_arith}
use Rattle.field.specs.declared.byte.Byte.{Byte}
use Rattle.field.proofs.Codes.{Code, same_code}
use Rattle.field.specs.Product.{Monoid}
use Rattle.field.proofs.Powers.{power_below, by_halves, by_halves_is, inverts_at}
use Rattle.field.proofs.Xor.{Additive, by_bits, additive_zero, agree, additive_below, xor_swap, bit_additive, shift_additive, bit_times, times_bits}

-- a bit of x times c, as a map of x
bit_multiple : (n c : ℕ) → Additive (λ x. bit_at x n * c)
bit_multiple n c x y = ap (λ m. m * c) (bit_additive n x y) ∙ times_bits c (bit_at x n) (bit_at y n) (omega arith) (omega arith)

carryless_left : (n b : ℕ) → Additive (λ a. carryless n a b)
unfolding carryless
carryless_left zero b x y = refl
carryless_left (suc n) b x y =
    ap (λ m. bit_xor m (bit_at b n * (bit_xor x y * 2 ^ n))) (carryless_left n b x y)
    ∙ ap (bit_xor (bit_xor (carryless n x b) (carryless n y b)))
    (ap (λ m. bit_at b n * m) (shift_additive n x y) ∙ bit_times (bit_at b n) (omega arith) (x * 2 ^ n) (y * 2 ^ n))
    ∙ xor_swap (carryless n x b) (carryless n y b) (bit_at b n * (x * 2 ^ n)) (bit_at b n * (y * 2 ^ n))

carryless_right : (n a : ℕ) → Additive (λ b. carryless n a b)
unfolding carryless
carryless_right zero a x y = refl
carryless_right (suc n) a x y =
    ap (λ m. bit_xor m (bit_at (bit_xor x y) n * (a * 2 ^ n))) (carryless_right n a x y)
    ∙ ap (bit_xor (bit_xor (carryless n a x) (carryless n a y))) (bit_multiple n (a * 2 ^ n) x y)
    ∙ xor_swap (carryless n a x) (carryless n a y) (bit_at x n * (a * 2 ^ n)) (bit_at y n * (a * 2 ^ n))

remainder_additive : (n : ℕ) → Additive (remainder n)
unfolding remainder
remainder_additive zero x y = refl
remainder_additive (suc n) x y =
    let c = 0x11b * 2 ^ n in
    ap (remainder n) (ap (bit_xor (bit_xor x y)) (bit_multiple (n + 8) c x y) ∙ xor_swap x y (bit_at x (n + 8) * c) (bit_at y (n + 8) * c))
    ∙ remainder_additive n (bit_xor x (bit_at x (n + 8) * c)) (bit_xor y (bit_at y (n + 8) * c))

product_left : (b : ℕ) → Additive (λ a. byte_product a b)
unfolding byte_product
product_left b x y = ap (remainder 7) (carryless_left 8 b x y) ∙ remainder_additive 7 (carryless 8 x b) (carryless 8 y b)

product_right : (a : ℕ) → Additive (λ b. byte_product a b)
unfolding byte_product
product_right a x y = ap (remainder 7) (carryless_right 8 a x y) ∙ remainder_additive 7 (carryless 8 a x) (carryless 8 a y)

pub product_zero : (a : ℕ) → byte_product a 0 ≡ 0
product_zero a = additive_zero (byte_product a) (product_right a)

-- a test of every pair of powers of two below 256
abbrev pairs : (ℕ → ℕ → Bool) → Bool
pairs p = agree_below (λ i. agree_below (λ j. p (2 ^ i) (2 ^ j)) (λ j. true) 8) (λ i. true) 8

pairs_at : (p : ℕ → ℕ → Bool) → pairs p ≡ true → (i j : ℕ) → i < 8 → j < 8 → p (2 ^ i) (2 ^ j) ≡ true
pairs_at p passed i j hi hj =
    agree_below_at (λ m. p (2 ^ i) (2 ^ m)) (λ m. true) 8 j (agree_below_at (λ n. agree_below (λ m. p (2 ^ n) (2 ^ m)) (λ m. true) 8) (λ n. true) 8 i passed hi) hj

-- what the test finds of a map that is additive in each factor
module _ (f : ℕ → ℕ → ℕ) (left : (b : ℕ) → Additive (λ a. f a b)) (right : (a : ℕ) → Additive (f a)) (a b : ℕ) (ha : a < 256) (hb : b < 256) where
  below_by_pairs : (m : ℕ) → pairs (λ x y. ltb (f x y) (2 ^ m)) ≡ true → f a b < 2 ^ m
  below_by_pairs m passed =
      additive_below (λ x. f x b) (left b) m 8
      (λ i hi. additive_below (f (2 ^ i)) (right (2 ^ i)) m 8 (λ j hj. ltb-true (f (2 ^ i) (2 ^ j)) (2 ^ m) (pairs_at (λ x y. ltb (f x y) (2 ^ m)) passed i j hi hj)) b hb)
      a ha

  same_by_pairs : (g : ℕ → ℕ → ℕ) → ((b : ℕ) → Additive (λ a. g a b)) → ((a : ℕ) → Additive (g a)) → pairs (λ x y. eqb (f x y) (g x y)) ≡ true → f a b ≡ g a b
  same_by_pairs g g_left g_right passed =
      agree (λ x. f x b) (λ x. g x b) (left b) (g_left b) 8
      (λ i hi. agree (f (2 ^ i)) (g (2 ^ i)) (right (2 ^ i)) (g_right (2 ^ i)) 8 (λ j hj. eqb-true (f (2 ^ i) (2 ^ j)) (g (2 ^ i) (2 ^ j)) (pairs_at (λ x y. eqb (f x y) (g x y)) passed i j hi hj)) b hb)
      a ha

product_below : (a b : ℕ) → a < 256 → b < 256 → byte_product a b < 256
unfolding byte_product carryless remainder
product_below a b ha hb = below_by_pairs byte_product product_left product_right a b ha hb 8 refl

-- the quotient of the long division whose remainder is defined
quotient : ℕ → ℕ → ℕ
quotient zero r = 0
quotient (suc n) r = bit_at r (n + 8) * 2 ^ n + quotient n (bit_xor r (bit_at r (n + 8) * (0x11b * 2 ^ n)))

division : (n : ℕ) → n < 2 ^ 15 → Congruent n (remainder 7 n)
unfolding quotient carryless remainder
division =
    by_bits (λ n. Congruent n (remainder 7 n))
    (0, sym (additive_zero (λ n. bit_xor (carryless 7 0x11b n) (remainder 7 n)) (λ x y. both x y x y)))
    (λ x y p q. (bit_xor p.0 q.0, ap (λ n. bit_xor n y) p.1 ∙ ap (bit_xor (bit_xor (carryless 7 0x11b p.0) (remainder 7 x))) q.1 ∙ sym (both p.0 q.0 x y)))
    15
    (λ i hi. (quotient 7 (2 ^ i), eqb-true (2 ^ i) (bit_xor (carryless 7 0x11b (quotient 7 (2 ^ i))) (remainder 7 (2 ^ i))) (agree_below_at (λ j. eqb (2 ^ j) (bit_xor (carryless 7 0x11b (quotient 7 (2 ^ j))) (remainder 7 (2 ^ j)))) (λ j. true) 15 i refl hi)))
  where
    both : (p q x y : ℕ) → bit_xor (carryless 7 0x11b (bit_xor p q)) (remainder 7 (bit_xor x y)) ≡ bit_xor (bit_xor (carryless 7 0x11b p) (remainder 7 x)) (bit_xor (carryless 7 0x11b q) (remainder 7 y))
    both p q x y =
        ap (λ n. bit_xor n (remainder 7 (bit_xor x y))) (carryless_right 7 0x11b p q)
        ∙ ap (bit_xor (bit_xor (carryless 7 0x11b p) (carryless 7 0x11b q))) (remainder_additive 7 x y)
        ∙ xor_swap (carryless 7 0x11b p) (carryless 7 0x11b q) (remainder 7 x) (remainder 7 y)

degree : (a b : ℕ) → a < 256 → b < 256 → carryless 8 a b < 2 ^ 15
unfolding carryless
degree a b ha hb = below_by_pairs (carryless 8) (carryless_left 8) (carryless_right 8) a b ha hb 15 refl

pub product_congruent : (a b : ℕ) → a < 256 → b < 256 → Congruent (carryless 8 a b) (byte_product a b)
unfolding byte_product
product_congruent a b ha hb = division (carryless 8 a b) (degree a b ha hb)

product_comm : (a b : ℕ) → a < 256 → b < 256 → byte_product a b ≡ byte_product b a
unfolding byte_product carryless remainder
product_comm a b ha hb = same_by_pairs byte_product product_left product_right a b ha hb (λ x y. byte_product y x) product_right product_left refl

-- additive maps after one another
composed : (f g : ℕ → ℕ) → Additive f → Additive g → Additive (λ x. f (g x))
composed f g f_add g_add x y = ap f (g_add x y) ∙ f_add (g x) (g y)

product_assoc : (a b c : ℕ) → a < 256 → b < 256 → c < 256 → byte_product (byte_product a b) c ≡ byte_product a (byte_product b c)
unfolding byte_product carryless remainder
product_assoc a b c ha hb =
    agree (byte_product (byte_product a b)) (λ z. byte_product a (byte_product b z))
    (product_right (byte_product a b)) (composed (byte_product a) (byte_product b) (product_right a) (product_right b)) 8
    (λ k hk.
    let r = 2 ^ k in
    same_by_pairs (λ x y. byte_product (byte_product x y) r)
    (λ y. composed (λ x. byte_product x r) (λ x. byte_product x y) (product_left r) (product_left y))
    (λ x. composed (λ y. byte_product y r) (byte_product x) (product_left r) (product_right x)) a b ha hb
    (λ x y. byte_product x (byte_product y r))
    (λ y. product_left (byte_product y r))
    (λ x. composed (byte_product x) (λ y. byte_product y r) (product_right x) (product_left r))
    (agree_below_at (λ n. pairs (λ x y. eqb (byte_product (byte_product x y) (2 ^ n)) (byte_product x (byte_product y (2 ^ n))))) (λ n. true) 8 k refl hk))
    c

product_one : (a : ℕ) → a < 256 → byte_product 1 a ≡ a
unfolding byte_product carryless remainder
product_one =
    agree (byte_product 1) (λ x. x) (product_right 1) (λ x y. refl) 8
    (λ i hi. eqb-true (byte_product 1 (2 ^ i)) (2 ^ i) (agree_below_at (λ n. eqb (byte_product 1 (2 ^ n)) (2 ^ n)) (λ n. true) 8 i refl hi))

pub byte_monoid : Monoid byte_product 256
byte_monoid = record {
  one_below = omega arith;
  closed = product_below;
  assoc = product_assoc;
  one_left = product_one;
  one_right = λ x h. product_comm x 1 h (omega arith) ∙ product_one x h;
}

power_inverse : (x : ℕ) → x < 256 → (x ≡ 0 → ⊥) → byte_product x (power byte_product x 254) ≡ 1
unfolding by_halves byte_product carryless remainder
power_inverse x h nonzero =
    ap (byte_product x) (sym (by_halves_is byte_monoid x h 8 254 (omega arith))) ∙ inverts_at byte_product 256 (λ y. by_halves byte_product 8 y 254) refl x h nonzero

pub byte_laws : Laws byte_arith
byte_laws = record {
  order_least = omega arith;
  order_most = omega arith;
  mark_fits = omega arith;
  sum_below = λ x y hx hy. xor_lt 8 x y hx hy;
  negative_below = λ x h. h;
  product_below = product_below;
  sum_assoc = λ x y z hx hy hz. xor_assoc x y z;
  sum_comm = λ x y hx hy. xor_comm x y;
  sum_zero = λ x h. xor_zero_l x;
  sum_negative = λ x h. xor_self x;
  product_assoc = product_assoc;
  product_comm = product_comm;
  product_one = product_one;
  distributes = λ x y z hx hy hz. product_right x y z;
  inverse_zero = refl;
  inverse_else = λ x h nonzero. (power byte_product x 254, rw (ne_eqb x 0 nonzero), power_below byte_monoid x h 254, power_inverse x h nonzero);
}

pub byte_coding : Coding byte_arith (λ (x : Byte). x.value)
byte_coding = record {
  below = λ x. x.ok;
  apart = λ x y e. ap (λ (p : Code byte_arith). record { value = p.0; ok = p.1 }) (same_code byte_arith (x.value, x.ok) (y.value, y.ok) e);
  each = λ c h. (record { value = c; ok = h }, refl);
}

-- The steps of the code: what a product with x does to the bits, and one step of shift and add.
pub times_x : (a : ℕ) → a < 256 → bit_xor (a * 2 % 256) (27 * (a / 128)) ≡ byte_product a 2
unfolding byte_product carryless remainder
times_x a h = eqb-true (bit_xor (a * 2 % 256) (27 * (a / 128))) (byte_product a 2) (agree_below_at (λ n. eqb (bit_xor (n * 2 % 256) (27 * (n / 128))) (byte_product n 2)) (λ n. true) 256 a refl h)

shift_add : ℕ → ℕ → ℕ
shift_add a b = bit_xor (b % 2 * a) (byte_product (byte_product a 2) (b / 2))

shift_add_left : (b : ℕ) → Additive (λ a. shift_add a b)
unfolding shift_add
shift_add_left b x y =
    ap (λ m. bit_xor m (byte_product (byte_product (bit_xor x y) 2) (b / 2))) (bit_times (b % 2) (omega arith) x y)
    ∙ ap (bit_xor (bit_xor (b % 2 * x) (b % 2 * y))) (composed (λ a. byte_product a (b / 2)) (λ a. byte_product a 2) (product_left (b / 2)) (product_left 2) x y)
    ∙ xor_swap (b % 2 * x) (b % 2 * y) (byte_product (byte_product x 2) (b / 2)) (byte_product (byte_product y 2) (b / 2))

shift_add_right : (a : ℕ) → Additive (shift_add a)
unfolding shift_add
shift_add_right a x y =
    ap (λ m. bit_xor m (byte_product (byte_product a 2) (bit_xor x y / 2))) (ap (λ m. m * a) (xor_mod x y 1) ∙ times_bits a (x % 2) (y % 2) (omega arith) (omega arith))
    ∙ ap (bit_xor (bit_xor (x % 2 * a) (y % 2 * a))) (ap (byte_product (byte_product a 2)) (xor_shr x y 1) ∙ product_right (byte_product a 2) (x / 2) (y / 2))
    ∙ xor_swap (x % 2 * a) (y % 2 * a) (byte_product (byte_product a 2) (x / 2)) (byte_product (byte_product a 2) (y / 2))

pub step : (a b : ℕ) → a < 256 → b < 256 → byte_product a b ≡ bit_xor (b % 2 * a) (byte_product (byte_product a 2) (b / 2))
unfolding shift_add byte_product carryless remainder
step a b ha hb = same_by_pairs byte_product product_left product_right a b ha hb shift_add shift_add_left shift_add_right refl
