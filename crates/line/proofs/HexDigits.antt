-- Hex digits: what a byte that writes one tells, and numbers of any count of digits, written and read from the last digit on.
use Rattle.std.proofs.Common.{◌≡◌, ℕ, zero, suc, ◌+◌, ◌*◌, ◌/◌, ◌%◌, ◌^◌, ◌<◌, ◌≤◌, List, [], ◌∷◌, ◌++◌, length, get_or, take, Some, unwrap_or, sym, refl, ap, ◌∙◌, inl, inr, pow-suc, add-one, arith, below_more}
use native.Mathlib.Nat.{div-div-eq-div-mul, pow-le-pow_right}
use lib.Arith.{digits_div, digits_mod}
use Rattle.std.proofs.lemmas.List.{get_or_past, length_push, get_or_append_left, get_or_push}
use Rattle.std.proofs.Math.Seq.{take-suc}
use Rattle.std.proofs.lemmas.Bool.{cases_lt}
use Rattle.std.proofs.lemmas.Bool.Decides.{nat_tests}
use Rattle.line.specs.Digits.{digit, digit_value, eight, value_after}

-- A byte that writes a digit

pub digit_small : (b d : ℕ) → digit_value b ≡ Some d → d < 16
digit_small b d e = grind (arith, nat_tests)

pub digit_back : (b d : ℕ) → digit_value b ≡ Some d → digit d ≡ b
digit_back b d e = grind (arith, nat_tests)

pub digit_value_digit : (d : ℕ) → d < 16 → digit_value (digit d) ≡ Some d
digit_value_digit d l = grind (arith, nat_tests)

-- past the text's end no digit stands
pub digit_within : (text : List ℕ) (place d : ℕ) → digit_value (get_or text place 0) ≡ Some d → place < length text
digit_within text place d e =
    elim (cases_lt place (length text)) [
      | inl l ↦ l
      | inr g ↦ let e' = rw (get_or_past text place 0 g) at e in absurd cc
    ]

-- Numbers of any count of digits

pub value_after_push : (n : ℕ) (bs : List ℕ) (b : ℕ) → value_after n (bs ++ (b ∷ [])) ≡ value_after n bs * 16 + unwrap_or (digit_value b) 0
value_after_push n [] b = refl
value_after_push n (c ∷ bs) b = value_after_push (n * 16 + unwrap_or (digit_value c) 0) bs b

-- the last k digits of a number
abbrev pub last_digits : ℕ → ℕ → List ℕ
last_digits zero n = []
last_digits (suc k) n = last_digits k (n / 16) ++ (digit (n % 16) ∷ [])

pub eight_is : (n : ℕ) → eight n ≡ last_digits 8 n
unfolding eight
eight_is n = simp div-div-eq-div-mul

pub length_last_digits : (k n : ℕ) → length (last_digits k n) ≡ k
length_last_digits zero n = refl
length_last_digits (suc k) n = length_push (last_digits k (n / 16)) (digit (n % 16)) ∙ omega (arith, length_last_digits k (n / 16))

-- a number is read from its digits
pub value_last_digits : (k n : ℕ) → n < 16 ^ k → value_after 0 (last_digits k n) ≡ n
value_last_digits zero n l = omega arith
value_last_digits (suc k) n l =
    let small : n / 16 < 16 ^ k = let p : 16 ^ suc k ≡ 16 ^ k * 16 = pow-suc 16 k in omega arith in
    let e = value_last_digits k (n / 16) small in
    let v : digit_value (digit (n % 16)) ≡ Some (n % 16) = digit_value_digit (n % 16) (omega arith) in
    value_after_push 0 (last_digits k (n / 16)) (digit (n % 16)) ∙ simp (e, v) (omega arith)

-- one digit more is read
pub value_more : (xs : List ℕ) (i d : ℕ) → digit_value (get_or xs i 0) ≡ Some d → value_after 0 (take (suc i) xs) ≡ value_after 0 (take i xs) * 16 + d
value_more xs i d e =
    ap (value_after 0) (take-suc xs i 0 (digit_within xs i d e))
    ∙ value_after_push 0 (take i xs) (get_or xs i 0)
    ∙ ap (λ o. value_after 0 (take i xs) * 16 + unwrap_or o 0) e

-- digits stand at the first n places
abbrev pub Hexes : List ℕ → ℕ → Type 0
Hexes xs n = (k : ℕ) → k < n → (d : ℕ) × (digit_value (get_or xs k 0) ≡ Some d)

pub value_small : (xs : List ℕ) (n : ℕ) → Hexes xs n → value_after 0 (take n xs) < 16 ^ n
value_small xs zero h = omega arith
value_small xs (suc n) h =
    let (d, e) = h n (omega arith) in
    omega (arith, pow-suc 16 n, digit_small (get_or xs n 0) d e, value_more xs n d e, value_small xs n (λ k l. h k (omega arith)))

-- and their number is v
abbrev pub Digits : List ℕ → ℕ → ℕ → Type 0
Digits xs n v = Hexes xs n × (v ≡ value_after 0 (take n xs))

pub digit_more : (xs : List ℕ) (n v d : ℕ) → Digits xs n v → digit_value (get_or xs n 0) ≡ Some d → Digits xs (n + 1) (v * 16 + d)
digit_more xs n v d digits e = (below_more _ _ digits.0 (d, e), rw (add-one n) (ap (λ m. m * 16 + d) digits.1 ∙ sym (value_more xs n d e)))

-- eight digits fit 32 bits
pub digits_fit : (xs : List ℕ) (n v : ℕ) → n ≤ 8 → Digits xs n v → v < 2 ^ 32
digits_fit xs n v few digits =
    let most : 16 ^ n ≤ 16 ^ 8 = pow-le-pow_right (omega arith) few in omega (arith, value_small xs n digits.0, digits.1)

-- the digits that were read are those that write the number
pub last_digits_value : (xs : List ℕ) (n : ℕ) → Hexes xs n → last_digits n (value_after 0 (take n xs)) ≡ take n xs
last_digits_value xs zero h = refl
last_digits_value xs (suc n) h =
    let (d, e) = h n (omega arith) in
    let small = digit_small (get_or xs n 0) d e in
    let v = value_after 0 (take n xs) in
    ap (last_digits (suc n)) (value_more xs n d e)
    ∙ ap (λ m. last_digits n m ++ (digit ((v * 16 + d) % 16) ∷ [])) (digits_div v small)
    ∙ ap (λ r. last_digits n v ++ (digit r ∷ [])) (digits_mod v small)
    ∙ ap (λ b. last_digits n v ++ (b ∷ [])) (digit_back (get_or xs n 0) d e)
    ∙ ap (λ bs. bs ++ (get_or xs n 0 ∷ [])) (last_digits_value xs n (λ k l. h k (omega arith)))
    ∙ sym (take-suc xs n 0 (digit_within xs n d e))

-- where digits are written, digits stand
pub hexes_last_digits : (k n : ℕ) → Hexes (last_digits k n) k
hexes_last_digits zero n = λ i l. absurd (omega arith)
hexes_last_digits (suc k) n = λ i l.
    elim (cases_lt i k) [
      | inl below ↦
          let h = hexes_last_digits k (n / 16) i below in
          (h.0, ap digit_value (get_or_append_left (last_digits k (n / 16)) (digit (n % 16) ∷ []) 0 i (omega (arith, length_last_digits k (n / 16)))) ∙ h.1)
      | inr above ↦
          (n % 16, ap digit_value (get_or_push (last_digits k (n / 16)) (digit (n % 16)) 0 i (omega (arith, length_last_digits k (n / 16)))) ∙ digit_value_digit (n % 16) (omega arith))
    ]
