-- Horner's rule for codes, carried over from the ring that the codes of a lawful field form.
use Rattle.std.proofs.Common.{◌≡◌, ℕ, zero, suc, ◌+◌, ◌*◌, ◌<◌, ◌≤◌, List, [], ◌∷◌, map, length, get_or, take, drop, sym, refl, ap, ◌∙◌, ⊎_elim, arith}
use mathlib.Core.Path.{fun_ext}
use Rattle.std.specs.List.{AllByRecursion}
use Rattle.std.proofs.ByRecursion.{All-get_or}
use Rattle.std.proofs.lemmas.List.FromFn.{get_or-map-range_with_len, length-map-range_with_len}
use Rattle.std.proofs.lemmas.List.{get_or_past}
use Rattle.std.proofs.lemmas.Bool.{cases_lt}
use Rattle.field.specs.Arith.{Arith, Laws, Coding, power}
use Rattle.field.proofs.Codes.{Code, codes}
use Rattle.polynomial.specs.PairKey.{pair_key}
use Rattle.polynomial.specs.Polynomial.{sum_over, product_over, evaluation}
use Rattle.polynomial.proofs.Reading.{length_part, part_at}
use Rattle.polynomial.proofs.Sums.{sums, products, powers, value_at, horner_rule}

-- the codes of elements are below the order
pub codes_below : {A : Arith} {E : Type 0} {code : E → ℕ} → Coding A code → (xs : List E) → AllByRecursion (λ c. c < A.order) (map code xs)
codes_below coding [] = tt
codes_below coding (x ∷ xs) = (coding.below x, codes_below coding xs)

module _ (A : Arith) (L : Laws A) where
  pub sums_code : (n : ℕ) (f : ℕ → Code A) → (sums (codes A L) n f).0 ≡ sum_over A n (λ j. (f j).0)
  unfolding sum_over
  sums_code zero f = refl
  sums_code (suc n) f = ap (λ s. A.sum s (f n).0) (sums_code n f)

  pub products_code : (n : ℕ) (f : ℕ → Code A) → (products (codes A L) n f).0 ≡ product_over A n (λ j. (f j).0)
  unfolding product_over
  products_code zero f = refl
  products_code (suc n) f = ap (λ p. A.product p (f n).0) (products_code n f)

  powers_code : (x : Code A) (n : ℕ) → (powers (codes A L) x n).0 ≡ power A.product x.0 n
  unfolding power
  powers_code x zero = refl
  powers_code x (suc n) = ap (A.product x.0) (powers_code x n)

  pub value_code : (n : ℕ) (c : ℕ → Code A) (x : Code A) → (value_at (codes A L) n c x).0 ≡ sum_over A n (λ j. A.product (c j).0 (power A.product x.0 j))
  value_code n c x =
      sums_code n (λ j. (codes A L).mul (c j) (powers (codes A L) x j))
      ∙ ap (sum_over A n) (fun_ext (λ j. ap (A.product (c j).0) (powers_code x j)))

  pub code_below : (cs : List ℕ) → AllByRecursion (λ c. c < A.order) cs → (j : ℕ) → get_or cs j 0 < A.order
  code_below cs below j =
      ⊎_elim (λ h. All-get_or (λ c. c < A.order) cs j 0 h below)
      (λ h. let e = get_or_past cs j 0 h in omega (arith, L.order_least))
      (cases_lt j (length cs))

  -- the code at each place of a list, zero past its end
  abbrev pub code_at : (cs : List ℕ) → AllByRecursion (λ c. c < A.order) cs → ℕ → Code A
  code_at cs below j = (get_or cs j 0, code_below cs below j)

  pub evaluation_cons : (c : ℕ) (cs : List ℕ) (x : ℕ) → c < A.order → AllByRecursion (λ d. d < A.order) cs → x < A.order →
      evaluation A (c ∷ cs) x ≡ A.sum (A.product (evaluation A cs x) x) c
  unfolding evaluation
  evaluation_cons c cs x c_below cs_below x_below =
      let point : Code A = (x, x_below) in
      let all = code_at (c ∷ cs) (c_below, cs_below) in
      sym (value_code (suc (length cs)) all point)
      ∙ ap (λ (d : Code A). d.0) (horner_rule (codes A L) (length cs) all point)
      ∙ ap (λ v. A.sum (A.product v x) c) (value_code (length cs) (λ j. all (suc j)) point)

  pub evaluation_nil : (x : ℕ) → evaluation A [] x ≡ 0
  unfolding evaluation sum_over
  evaluation_nil x = refl

-- sums and products are equal where what they are made from is
pub sum_over_same : (A : Arith) (n : ℕ) (f g : ℕ → ℕ) → ((j : ℕ) → j < n → f j ≡ g j) → sum_over A n f ≡ sum_over A n g
unfolding sum_over
sum_over_same A zero f g same = refl
sum_over_same A (suc n) f g same =
    ap (λ s. A.sum s (f n)) (sum_over_same A n f g (λ j h. same j (omega arith))) ∙ ap (A.sum (sum_over A n g)) (same n (omega arith))

pub product_over_same : (A : Arith) (n : ℕ) (f g : ℕ → ℕ) → ((j : ℕ) → j < n → f j ≡ g j) → product_over A n f ≡ product_over A n g
unfolding product_over
product_over_same A zero f g same = refl
product_over_same A (suc n) f g same =
    ap (λ p. A.product p (f n)) (product_over_same A n f g (λ j h. same j (omega arith))) ∙ ap (A.product (product_over A n g)) (same n (omega arith))

-- a code of a pair key is the value, at the other kiosk's number, of the polynomial that a lane of the share has for its coefficients
pub pair_key_lane : (A : Arith) (t m : ℕ) (share : List ℕ) (v lane : ℕ) → lane < m → lane * (t + 1) + (t + 1) ≤ length share →
    get_or (pair_key A t m share v) lane 0 ≡ evaluation A (take (t + 1) (drop (lane * (t + 1)) share)) v
unfolding pair_key evaluation
pair_key_lane A t m share v lane inside enough =
    let codes = take (t + 1) (drop (lane * (t + 1)) share) in
    let long : length codes ≡ t + 1 = length_part share (lane * (t + 1)) (t + 1) enough in
    get_or-map-range_with_len (λ l. sum_over A (t + 1) (λ j. A.product (get_or share (l * (t + 1) + j) 0) (power A.product v j))) 0 m lane lane 0 inside (omega arith)
    ∙ sum_over_same A (t + 1) (λ j. A.product (get_or share (lane * (t + 1) + j) 0) (power A.product v j)) (λ j. A.product (get_or codes j 0) (power A.product v j))
    (λ j h. ap (λ c. A.product c (power A.product v j)) (sym (part_at share (lane * (t + 1)) (t + 1) j h)))
    ∙ ap (λ n. sum_over A n (λ j. A.product (get_or codes j 0) (power A.product v j))) (sym long)

pub length_pair_key : (A : Arith) (t m : ℕ) (share : List ℕ) (v : ℕ) → length (pair_key A t m share v) ≡ m
unfolding pair_key
length_pair_key A t m share v = length-map-range_with_len (λ l. sum_over A (t + 1) (λ j. A.product (get_or share (l * (t + 1) + j) 0) (power A.product v j))) 0 m
