-- The checks that a line is made of. A check answers the fault that it finds, if it finds one.
-- Past the text's end `slice_index` reads 0, which no line has: where a text ends early, the cause is what was missing there.
use Rattle.std.specs.Prelude.{◌≡◌, ℕ, ◌+◌, ◌*◌, ◌/◌, ◌<◌, ◌≤◌, cond, ◌&&◌, List, [], ◌∷◌, map, length, Some, None, Option, ◌==◌, nat_le, nat_lt, slice_index}
use Rattle.std.specs.List.{range_with_len}
use Rattle.std.specs.Option.{option_map}
use Rattle.std.specs.Result.{result_ok}
use Rattle.line.specs.declared.refusal.Cause.{Cause}
use Rattle.line.specs.declared.refusal.Cause.TheVariants.{NoTab, OutOfRange, BytesAfter}
use Rattle.line.specs.declared.refusal.LineFault.{LineFault}
use Rattle.line.specs.declared.steps.Bounds.{Bounds}
use Rattle.line.specs.Faults.{first, unless, no_digit}
use Rattle.line.specs.Digits.{number_at, digits_fault}

abbrev pub fault : ℕ → ℕ → Cause → LineFault
fault line place cause = record { line = line; place = place; cause = cause }

-- this byte stands at this place
unfoldable pub byte_fault : ℕ → List ℕ → ℕ → ℕ → Cause → Option LineFault
byte_fault line text place byte cause = cond (slice_index text place == byte) None (Some (fault line place cause))

-- nothing stands from this place on
unfoldable pub end_fault : ℕ → List ℕ → ℕ → Option LineFault
end_fault line text place = cond (nat_lt place (length text)) (Some (fault line place BytesAfter)) None

-- a value lies in its range, which is judged once its digits are read
unfoldable pub bounds_fault : ℕ → ℕ → Bounds → ℕ → Option LineFault
bounds_fault line place bounds n =
    cond (nat_le bounds.least n && nat_lt n bounds.below) None (Some (fault line place bounds.cause))

-- eight digits from this place on, of a value in its range
unfoldable pub value_fault : ℕ → List ℕ → ℕ → Bounds → Option LineFault
value_fault line text place bounds =
    first (option_map no_digit (digits_fault line text place) ∷ bounds_fault line place bounds (number_at text place) ∷ [])

-- a tab, then a value
unfoldable pub field_fault : ℕ → List ℕ → ℕ → Bounds → Option LineFault
field_fault line text place bounds =
    first (byte_fault line text place 9 NoTab ∷ value_fault line text (place + 1) bounds ∷ [])

-- codes below the order, unparted, from this place on
unfoldable pub codes_fault : ℕ → List ℕ → ℕ → ℕ → ℕ → Option LineFault
codes_fault line text place count order =
    first (map (λ i. value_fault line text (place + 8 * i) (record { least = 0; below = order; cause = OutOfRange })) (range_with_len 0 count))

-- the codes that stand unparted in a part of a line
unfoldable pub codes_in : List ℕ → List ℕ
codes_in part = map (λ i. number_at part (8 * i)) (range_with_len 0 (length part / 8))

-- the code with this index, if the part has one there in form
abbrev pub code_at : List ℕ → ℕ → Option ℕ
code_at part index =
    cond (nat_lt index (length part / 8)) (result_ok (unless (digits_fault 1 part (8 * index)) (number_at part (8 * index)))) None

-- each code of the part is read by its index
abbrev pub Readable : List ℕ → Type 0
Readable part = (i : ℕ) → i < length (codes_in part) → code_at part i ≡ Some (slice_index (codes_in part) i)

-- A fault that is found names the line that was read, and a place in its text or at its end.
pub record Found (line : ℕ) (text : List ℕ) (fault : LineFault) : Type 0 where
  pub line_is : fault.line ≡ line
  pub place_within : fault.place ≤ length text
