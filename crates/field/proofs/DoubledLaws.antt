-- The arithmetic of a doubled field keeps the laws of a field.
use Rattle.std.proofs.Common.{◌≡◌, ℕ, ◌+◌, ◌*◌, ◌<◌, ◌≤◌, [], ◌∷◌, Some, None, sym, refl, ap, ◌∙◌, add-zero, mod-lt, mod-eq_of_lt, mul_comm, div-lt_iff_lt-mul, mul-le-mul, add_comm, mul-zero, zero-add, mul-one, arith}
use native.Mathlib.Nat.{mod-add-div, div-eq_of_lt, add-mul-mod_self_left, add-mul-div_left}
use lib.Arith.{digits_lt}
use Rattle.std.specs.Option.{option_map}
use Rattle.field.specs.Arith.{Arith, Laws, Coding}
use Rattle.field.specs.Doubled.{Rootless, pair, low, high, pair_over, pair_inverse, doubled, doubled_code, Extends}
use Rattle.field.specs.declared.doubled.Doubled.{Doubled}
use Rattle.field.proofs.Codes.{Code, same_code, codes, codes_field}
use Rattle.field.proofs.Pairs.{pairs, constant, w, constant_sum, constant_product, square, element, norm, norm_of, over, over_inverts, norm_zero}
use Rattle.field.proofs.Ring.{Ring}
use Rattle.field.proofs.Solve.{#0, ring}

-- A pair of codes and the code of the pair.
module _ (A : Arith) (least : 2 ≤ A.order) where
  positive : 0 < A.order
  positive = omega (arith, least)

  pub low_pair : (a b : ℕ) → a < A.order → low A (pair A a b) ≡ a
  low_pair a b h = add-mul-mod_self_left a A.order b ∙ mod-eq_of_lt h

  pub high_pair : (a b : ℕ) → a < A.order → high A (pair A a b) ≡ b
  high_pair a b h = add-mul-div_left a b positive ∙ ap (λ n. n + b) (div-eq_of_lt h) ∙ zero-add b

  pub pair_parts : (x : ℕ) → pair A (low A x) (high A x) ≡ x
  pair_parts x = mod-add-div x A.order

  pub pair_below : (a b : ℕ) → a < A.order → b < A.order → pair A a b < A.order * A.order
  pair_below a b ha hb = rw (add_comm a (A.order * b) ∙ ap (λ n. n + a) (mul_comm A.order b)) (digits_lt hb ha)

  pub low_below : (x : ℕ) → low A x < A.order
  low_below x = mod-lt x positive

  pub high_below : (x : ℕ) → x < A.order * A.order → high A x < A.order
  high_below x h = (div-lt_iff_lt-mul positive).1 h

module _ (A : Arith) (L : Laws A) (d e : ℕ) (hd : d < A.order) (he : e < A.order) where
  abbrev Pair : Type 0
  Pair = Code A × Code A

  abbrev D : Arith
  D = doubled A d e

  abbrev R : Ring (Code A)
  R = codes A L

  abbrev δ : Code A
  δ = (d, hd)

  abbrev ε : Code A
  ε = (e, he)

  abbrev P : Ring Pair
  P = pairs R δ ε

  abbrev of : Pair → ℕ
  of p = pair A p.0.0 p.1.0

  of_below : (p : Pair) → of p < D.order
  of_below p = pair_below A L.order_least p.0.0 p.1.0 p.0.1 p.1.1

  abbrev parts : (x : ℕ) → x < D.order → Pair
  parts x h = ((low A x, low_below A L.order_least x), (high A x, high_below A L.order_least x h))

  of_parts : (x : ℕ) (h : x < D.order) → of (parts x h) ≡ x
  of_parts x h = pair_parts A L.order_least x

  parts_of : (p : Pair) → parts (of p) (of_below p) ≡ p
  parts_of p =
      let (a, ha) = p.0 in
      let b = p.1.0 in
      ap {A = Code A} {B = Pair} (λ c. (c, (parts (of p) (of_below p)).1)) (same_code A _ _ (low_pair A L.order_least a b ha))
      ∙ ap {A = Code A} {B = Pair} (λ c. (p.0, c)) (same_code A _ _ (high_pair A L.order_least a b ha))

  constant_code : (a : Code A) → of (constant R δ ε a) ≡ a.0
  constant_code a = ap (λ n. a.0 + n) (mul-zero A.order) ∙ add-zero a.0

  w_code : of (w R δ ε) ≡ A.order
  w_code = zero-add (A.order * 1) ∙ mul-one A.order

  -- an operation on the parts of a pair's code is one on the pair
  left : (op : Pair → Pair → Pair) (p q : Pair) → of (op (parts (of p) (of_below p)) q) ≡ of (op p q)
  left op p q = ap (λ r. of (op r q)) (parts_of p)

  right : (op : Pair → Pair → Pair) (p q : Pair) → of (op p (parts (of q) (of_below q))) ≡ of (op p q)
  right op p q = ap (λ r. of (op p r)) (parts_of q)

  sum_of : {x y : ℕ} (p q : Pair) → of p ≡ x → of q ≡ y → of (P.add p q) ≡ D.sum x y
  sum_of {x} {y} p q ex ey = sym (left P.add p (parts (of q) (of_below q)) ∙ right P.add p q) ∙ ap (λ n. D.sum n (of q)) ex ∙ ap (D.sum x) ey

  product_of : {x y : ℕ} (p q : Pair) → of p ≡ x → of q ≡ y → of (P.mul p q) ≡ D.product x y
  product_of {x} {y} p q ex ey = sym (left P.mul p (parts (of q) (of_below q)) ∙ right P.mul p q) ∙ ap (λ n. D.product n (of q)) ex ∙ ap (D.product x) ey

  pub doubled_extends : Extends A d e
  doubled_extends =
      let c = constant R δ ε in
      let W = w R δ ε in
      record {
        lower_sum = λ a b ha hb.
            sym (sum_of (c (a, ha)) (c (b, hb)) (constant_code (a, ha)) (constant_code (b, hb)))
            ∙ ap of (constant_sum R δ ε (a, ha) (b, hb))
            ∙ constant_code (R.add (a, ha) (b, hb));
        lower_product = λ a b ha hb.
            sym (product_of (c (a, ha)) (c (b, hb)) (constant_code (a, ha)) (constant_code (b, hb)))
            ∙ ap of (constant_product R δ ε (a, ha) (b, hb))
            ∙ constant_code (R.mul (a, ha) (b, hb));
        square =
            sym (product_of W W w_code w_code)
            ∙ ap of (square R δ ε)
            ∙ sum_of (P.mul (c δ) W) (c ε) (product_of (c δ) W (constant_code δ) w_code) (constant_code ε);
        element = λ a b ha hb.
            sym (sum_of (c (a, ha)) (P.mul (c (b, hb)) W) (constant_code (a, ha)) (product_of (c (b, hb)) W (constant_code (b, hb)) w_code))
            ∙ ap of (element R δ ε (a, ha) (b, hb));
      }

  inverse_zero : D.inverse 0 ≡ None
  inverse_zero =
      ap D.inverse (sym (constant_code R.zero))
      ∙ ap (λ (p : Pair). pair_inverse A d e p.0.0 p.1.0) (parts_of P.zero)
      ∙ ap (λ (n : Code A). option_map (pair_over A d e 0 0) (A.inverse n.0)) (ring R (δ ∷ ε ∷ []) (norm_of (#0, #0)) #0 refl)
      ∙ ap (option_map (pair_over A d e 0 0)) L.inverse_zero

  module _ (rootless : Rootless A d e) where
    nonzero_norm : (p : Pair) → (of p ≡ 0 → ⊥) → (norm R δ ε p.0 p.1).0 ≡ 0 → ⊥
    nonzero_norm (a, b) nonzero none =
        let no_root = λ (z : Code A) (root : R.mul z z ≡ R.add (R.mul δ z) ε). rootless z.0 z.1 (ap (λ (c : Code A). c.0) root) in
        let (a_zero, b_zero) = norm_zero (codes_field A L) δ ε no_root a b (same_code A (norm R δ ε a b) R.zero none) in
        nonzero (ap (λ c. of (c, b)) a_zero ∙ ap (λ c. of (R.zero, c)) b_zero ∙ constant_code R.zero)

    over_unit : (x : ℕ) (h : x < D.order) (n : Code A) → R.mul (norm R δ ε (parts x h).0 (parts x h).1) n ≡ R.one → D.product x (of (over R δ ε (parts x h).0 (parts x h).1 n)) ≡ 1
    over_unit x h n unit =
        let (a, b) = parts x h in
        right P.mul (a, b) (over R δ ε a b n) ∙ ap of (over_inverts R δ ε a b n unit) ∙ constant_code R.one

    inverse_else : (x : ℕ) → x < D.order → (x ≡ 0 → ⊥) → (y : ℕ) × (D.inverse x ≡ Some y) × (y < D.order) × (D.product x y ≡ 1)
    inverse_else x h nonzero =
        let (a, b) = parts x h in
        let (N, N_below) = norm R δ ε a b in
        let (n, found, below, unit) = L.inverse_else N N_below (nonzero_norm (a, b) (λ none. nonzero (sym (of_parts x h) ∙ none))) in
        let y = over R δ ε a b (n, below) in
        (of y, ap (option_map (pair_over A d e a.0 b.0)) found, of_below y, over_unit x h (n, below) (same_code A (R.mul (N, N_below) (n, below)) R.one unit))

    pub doubled_laws : A.order ≤ 65536 → A.mark < 16 → Laws D
    doubled_laws order mark = record {
      order_least = mul-le-mul {m₁ = 1} L.order_least (omega (arith, L.order_least));
      order_most = mul-le-mul order order;
      mark_fits = omega (arith, mark);
      sum_below = λ x y hx hy. of_below (P.add (parts x hx) (parts y hy));
      negative_below = λ x h. of_below (P.neg (parts x h));
      product_below = λ x y hx hy. of_below (P.mul (parts x hx) (parts y hy));
      sum_assoc = λ x y z hx hy hz.
          let X = parts x hx in
          let Y = parts y hy in
          let Z = parts z hz in
          left P.add (P.add X Y) Z ∙ ap of (P.add_assoc X Y Z) ∙ sym (right P.add X (P.add Y Z));
      sum_comm = λ x y hx hy. ap of (P.add_comm (parts x hx) (parts y hy));
      sum_zero = λ x h. ap (λ n. D.sum n x) (sym (constant_code R.zero)) ∙ left P.add P.zero (parts x h) ∙ ap of (P.zero_add (parts x h)) ∙ of_parts x h;
      sum_negative = λ x h. right P.add (parts x h) (P.neg (parts x h)) ∙ ap of (P.add_neg (parts x h)) ∙ constant_code R.zero;
      product_assoc = λ x y z hx hy hz.
          let X = parts x hx in
          let Y = parts y hy in
          let Z = parts z hz in
          left P.mul (P.mul X Y) Z ∙ ap of (P.mul_assoc X Y Z) ∙ sym (right P.mul X (P.mul Y Z));
      product_comm = λ x y hx hy. ap of (P.mul_comm (parts x hx) (parts y hy));
      product_one = λ x h. ap (λ n. D.product n x) (sym (constant_code R.one)) ∙ left P.mul P.one (parts x h) ∙ ap of (P.one_mul (parts x h)) ∙ of_parts x h;
      distributes = λ x y z hx hy hz.
          let X = parts x hx in
          let Y = parts y hy in
          let Z = parts z hz in
          right P.mul X (P.add Y Z)
          ∙ ap of (P.mul_add X Y Z)
          ∙ sum_of (P.mul X Y) (P.mul X Z) refl refl;
      inverse_zero = inverse_zero;
      inverse_else = inverse_else;
    }

pub doubled_coding : {E : Type 0} {A : Arith} {code : E → ℕ} (d e : ℕ) → 2 ≤ A.order → Coding A code → Coding (doubled A d e) (doubled_code A code)
doubled_coding {E} {A} {code} d e least C = record {
  below = λ x. pair_below A least (code x.low) (code x.high) (C.below x.low) (C.below x.high);
  apart = λ x y same.
      let low_same : code x.low ≡ code y.low =
      sym (low_pair A least (code x.low) (code x.high) (C.below x.low)) ∙ ap (low A) same ∙ low_pair A least (code y.low) (code y.high) (C.below y.low) in
      let high_same : code x.high ≡ code y.high =
      sym (high_pair A least (code x.low) (code x.high) (C.below x.low)) ∙ ap (high A) same ∙ high_pair A least (code y.low) (code y.high) (C.below y.low) in
      ap {B = Doubled E} (λ a. record { low = a; high = x.high }) (C.apart x.low y.low low_same)
      ∙ ap {B = Doubled E} (λ b. record { low = y.low; high = b }) (C.apart x.high y.high high_same);
  each = λ c h.
      let (a, a_code) = C.each (low A c) (low_below A least c) in
      let (b, b_code) = C.each (high A c) (high_below A least c h) in
      (record { low = a; high = b }, ap (λ n. pair A n (code b)) a_code ∙ ap (pair A (low A c)) b_code ∙ pair_parts A least c);
}
