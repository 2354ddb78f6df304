-- What derivation answers, and what it leaves in the buffer, for any text, any number and any buffer.
use Rattle.std.specs.Prelude.{ℕ, Bool, true, false, ◌||◌, List, [], ◌∷◌, ◌++◌, length, drop, Some, None, Option, Result, ◌==◌, nat_le, nat_lt}
use Rattle.std.specs.Option.{option_map}
use Rattle.field.specs.Arith.{Arith}
use Rattle.polynomial.specs.PairKey.{pair_key}
use Rattle.line.specs.declared.refusal.Refusal.{Refusal}
use Rattle.line.specs.declared.refusal.Refusal.TheVariants.{NoSuchKiosk, BufferTooShort, OutOfForm, OwnNumber}
use Rattle.line.specs.Faults.{first, unless}
use Rattle.line.specs.Steps.{codes_in}
use Rattle.line.specs.KioskLine.{kiosk_fault, kiosk_head, kiosk_codes}

-- a refusal, where its cause is met
abbrev pub when : Bool → Refusal → Option Refusal
when true refusal = Some refusal
when false refusal = None

-- The checks of a derivation, in their order: the line's form, the other kiosk's number, that it is not the line's own, and room for the key.
abbrev pub refusal : Arith → List ℕ → ℕ → ℕ → Option Refusal
refusal A text other room =
    first
    (option_map OutOfForm (kiosk_fault 1 A.mark A.order text)
    ∷ when (other == 0 || nat_le A.order other) NoSuchKiosk
    ∷ when (other == (kiosk_head text).number.0) OwnNumber
    ∷ when (nat_lt room (kiosk_head text).lanes) BufferTooShort
    ∷ [])

-- the key that the line's kiosk shares with the other
abbrev pub key_of : Arith → List ℕ → ℕ → List ℕ
key_of A text other = pair_key A (kiosk_head text).degree (kiosk_head text).lanes (codes_in (kiosk_codes text)) other

-- the number of codes in the key, unless refused
abbrev pub answer : Arith → List ℕ → ℕ → List ℕ → Result ℕ Refusal
answer A text other buffer = unless (refusal A text other (length buffer)) (kiosk_head text).lanes

-- the key, with nothing changed behind it, or if refused, the buffer as it was
abbrev pub left_in : Arith → List ℕ → ℕ → List ℕ → List ℕ
left_in A text other buffer =
    elim (refusal A text other (length buffer))
    [ None ↦ key_of A text other ++ drop (kiosk_head text).lanes buffer | Some r ↦ buffer ]
