-- Numbers in eight digits: when the digit reader finds a fault, what stands in the text where it finds none, and back.
use Rattle.std.proofs.Common.{◌≡◌, ℕ, ◌+◌, ◌^◌, ◌<◌, List, ◌++◌, length, get_or, take, drop, Some, None, sym, ap, ◌∙◌, subst, inl, inr}
use Rattle.std.proofs.lemmas.List.{get_or-drop, get_or_append_left, take-append-drop, take_at, drop-drop}
use Rattle.std.proofs.lemmas.Option.{none-some}
use Rattle.line.specs.Digits.{digit_value, eight, value_after, number_at, digit_fault, digits_fault}
use Rattle.line.proofs.Checks.{either, counted_none, counted_some, counted_each}
use Rattle.line.proofs.HexDigits.{Hexes, last_digits, eight_is, length_last_digits, hexes_last_digits, value_last_digits, last_digits_value, value_small}

pub digit_fault_none : (line place d : ℕ) (text : List ℕ) → digit_value (get_or text place 0) ≡ Some d → digit_fault line text place ≡ None
unfolding digit_fault
digit_fault_none line place d text e = rw (e, digit_fault)

pub digit_fault_some : (line place : ℕ) (text : List ℕ) → digit_value (get_or text place 0) ≡ None → digit_fault line text place ≡ Some (record { line = line; place = place })
unfolding digit_fault
digit_fault_some line place text e = rw (e, digit_fault)

-- the digit reader finds no fault where digits stand
digits_before : (line place n : ℕ) (text : List ℕ) → Hexes (drop place text) n → (k : ℕ) → k < n → digit_fault line text (place + k) ≡ None
digits_before line place n text h k l =
    digit_fault_none line (place + k) (h k l).0 text (ap digit_value (sym (get_or-drop place text k 0)) ∙ (h k l).1)

pub digits_fault_none : (line place : ℕ) (text : List ℕ) → Hexes (drop place text) 8 → digits_fault line text place ≡ None
unfolding digits_fault
digits_fault_none line place text h =
    counted_none (λ i. digit_fault line text (place + i)) 8 (digits_before line place 8 text h)

-- it finds its fault at the first byte that is no digit
pub digits_fault_some : (line place i at : ℕ) (text : List ℕ) → place + i ≡ at → i < 8 → Hexes (drop place text) i → digit_value (get_or text at 0) ≡ None → digits_fault line text place ≡ Some (record { line = line; place = at })
unfolding digits_fault
digits_fault_some line place i at text is l h e =
    counted_some (λ j. digit_fault line text (place + j)) 8 i (record { line = line; place = at }) l
    (digits_before line place i text h)
    (ap (digit_fault line text) is ∙ digit_fault_some line at text e)

-- where it finds no fault, eight digits stand
hexes_from : (line place : ℕ) (text : List ℕ) → digits_fault line text place ≡ None → Hexes (drop place text) 8
unfolding digits_fault
hexes_from line place text e k l =
    elim (either (digit_value (get_or text (place + k) 0))) [
      | inl found ↦ (found.0, ap digit_value (get_or-drop place text k 0) ∙ found.1)
      | inr no_digit ↦
          absurd
          (none-some (record { line = line; place = place + k })
          (sym (counted_each (λ i. digit_fault line text (place + i)) 8 e k l) ∙ digit_fault_some line (place + k) text no_digit))
    ]

pub number_at_small : (line place : ℕ) (text : List ℕ) → digits_fault line text place ≡ None → number_at text place < 2 ^ 32
unfolding number_at
number_at_small line place text e = value_small (drop place text) 8 (hexes_from line place text e)

-- where it finds no fault, the text has the digits of the number that is read
pub digits_stand : (line place : ℕ) (text : List ℕ) → digits_fault line text place ≡ None → drop place text ≡ eight (number_at text place) ++ drop (place + 8) text
unfolding number_at
digits_stand line place text e =
    sym
    (ap (λ bs. bs ++ drop (place + 8) text) (eight_is (number_at text place) ∙ last_digits_value (drop place text) 8 (hexes_from line place text e))
    ∙ ap (λ bs. take 8 (drop place text) ++ bs) (sym (drop-drop 8 place text))
    ∙ take-append-drop 8 (drop place text))

pub length_eight : (n : ℕ) → length (eight n) ≡ 8
length_eight n = ap length (eight_is n) ∙ length_last_digits 8 n

-- Where the digits of a number stand, the digit reader finds no fault, and reads the number.
module _ (place n : ℕ) (text rest : List ℕ) (stands : drop place text ≡ eight n ++ rest) where
  hexes_stand : Hexes (drop place text) 8
  hexes_stand k l =
      let h = hexes_last_digits 8 n k l in (
        h.0,
        ap digit_value
            (ap (λ bs. get_or bs k 0) (stands ∙ ap (λ bs. bs ++ rest) (eight_is n))
            ∙ get_or_append_left (last_digits 8 n) rest 0 k (subst (λ m. k < m) (sym (length_last_digits 8 n)) l))
            ∙ h.1,
      )

  pub digits_read : (line : ℕ) → digits_fault line text place ≡ None
  digits_read line = digits_fault_none line place text hexes_stand

  pub number_read : n < 2 ^ 32 → number_at text place ≡ n
  unfolding number_at
  number_read l =
      ap (λ bs. value_after 0 (take 8 bs)) stands
      ∙ ap (value_after 0) (take_at (eight n) rest 8 (length_eight n))
      ∙ ap (value_after 0) (eight_is n)
      ∙ value_last_digits 8 n l
