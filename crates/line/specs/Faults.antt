-- What can be wrong with a line, and the numbers by which causes and refusals are known.
use Rattle.std.specs.Prelude.{ℕ, List, [], ◌∷◌, Some, None, Ok, Err, Option, Result}
use Rattle.line.specs.declared.refusal.Cause.{Cause}
use Rattle.line.specs.declared.refusal.Cause.TheVariants.{WrongLetter, NoTab, NoHexDigit, NoLineFeed, OutOfRange, OtherMark, BytesAfter}
use Rattle.line.specs.declared.refusal.DigitFault.{DigitFault}
use Rattle.line.specs.declared.refusal.LineFault.{LineFault}
use Rattle.line.specs.declared.refusal.Refusal.{Refusal}
use Rattle.line.specs.declared.refusal.Refusal.TheVariants.{WrongPhase, NumbersOutOfRange, DrawLength, DrawCode, ScratchTooShort, NoSuchKiosk, RollFull, BufferTooShort, JournalFull, NoSuchSeat, TooFewSeatsDealt, OutOfForm, OtherTour, TooFewLines, SeatRepeated, Disagrees, OwnNumber}

abbrev pub cause_number : Cause → ℕ
cause_number WrongLetter = 1
cause_number NoTab = 2
cause_number NoHexDigit = 3
cause_number NoLineFeed = 4
cause_number OutOfRange = 5
cause_number OtherMark = 6
cause_number BytesAfter = 7

abbrev pub refusal_number : Refusal → ℕ
refusal_number WrongPhase = 1
refusal_number NumbersOutOfRange = 2
refusal_number DrawLength = 3
refusal_number (DrawCode index) = 4
refusal_number ScratchTooShort = 5
refusal_number NoSuchKiosk = 6
refusal_number RollFull = 7
refusal_number BufferTooShort = 8
refusal_number JournalFull = 9
refusal_number NoSuchSeat = 10
refusal_number TooFewSeatsDealt = 11
refusal_number (OutOfForm fault) = 12
refusal_number (OtherTour line) = 13
refusal_number TooFewLines = 14
refusal_number (SeatRepeated line) = 15
refusal_number (Disagrees line) = 16
refusal_number OwnNumber = 17

-- the line reader's fault for the digit reader's
abbrev pub no_digit : DigitFault → LineFault
no_digit d = record { line = d.line; place = d.place; cause = NoHexDigit }

-- of checks in their order, the first that finds a fault decides
abbrev pub first : {X : Type 0} → List (Option X) → Option X
first [] = None
first (Some x ∷ checks) = Some x
first (None ∷ checks) = first checks

-- the answer x, unless a fault was found
abbrev pub unless : {X F : Type 0} → Option F → X → Result X F
unless None x = Ok x
unless (Some fault) x = Err fault
