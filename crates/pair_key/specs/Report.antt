-- What is printed: a line for each of the other kiosks, with the key that it shares with the kiosk of the line.
use Rattle.std.specs.Prelude.{◌≡◌, ℕ, List, [], ◌∷◌, ◌++◌, map, Some, None, Ok, Err, string_bytes, codes, decimal, Option, Result, String}
use Rattle.std.specs.List.{flat_map}
use Rattle.std.specs.Option.{option_map}
use Rattle.std.specs.declared.alloc.Global.{Global}
use Rattle.field.specs.Arith.{Arith}
use Rattle.line.specs.declared.kiosk_line.KioskHead.{KioskHead}
use Rattle.line.specs.declared.number.KioskNumber.{KioskNumber}
use Rattle.line.specs.declared.refusal.Refusal.{Refusal}
use Rattle.line.specs.declared.refusal.Refusal.TheVariants.{OutOfForm}
use Rattle.line.specs.Digits.{eight}
use Rattle.line.specs.Faults.{first}
use Rattle.line.specs.KioskLine.{kiosk_fault, kiosk_head}
use Rattle.kiosk.specs.Derivation.{refusal, key_of}
use Rattle.pair_key.specs.declared.report.Failure.{Failure}
use Rattle.pair_key.specs.declared.report.Failure.TheVariants.{Refused, Memory}

-- kiosk 2 and kiosk 3 of tour 9:
abbrev pub line_start : KioskHead → ℕ → List ℕ
line_start head other =
    codes "kiosk " ++ (decimal head.number.0 ++ (codes " and kiosk " ++ (decimal other ++ (codes " of tour " ++ (decimal head.tour ++ codes ":")))))

abbrev pub blank_code : ℕ → List ℕ
blank_code code = 32 ∷ eight code

-- kiosk 2 and kiosk 3 of tour 9: 0000006a, a blank before each code and a line feed at the end
unfoldable pub key_line : KioskHead → ℕ → List ℕ → List ℕ
key_line head other key = line_start head other ++ (flat_map blank_code key ++ (10 ∷ []))

-- the first refusal: of the line, then of each derivation, into a buffer of 16 codes
unfoldable pub first_refusal : Arith → List ℕ → List KioskNumber → Option Refusal
first_refusal A text others =
    first (option_map OutOfForm (kiosk_fault 1 A.mark A.order text) ∷ map (λ (v : KioskNumber). refusal A text v.0 16) others)

-- the line of the key that is shared with one of the others
unfoldable pub line_of : Arith → List ℕ → KioskNumber → List ℕ
line_of A text other = key_line (kiosk_head text) other.0 (key_of A text other.0)

-- one line more, unless its derivation is refused
abbrev pub Appended : Arith → List ℕ → KioskNumber → List ℕ → List ℕ → Result (Unit {0}) Failure → Type 0
Appended A text other was now (Ok _) = (refusal A text other.0 16 ≡ None) × (now ≡ was ++ line_of A text other)
Appended A text other was now (Err (Refused cause)) = refusal A text other.0 16 ≡ Some cause
Appended A text other was now (Err Memory) = Unit {0}

-- The lines of all keys if nothing is refused, else the first refusal; want of memory says nothing.
abbrev pub Reported : Arith → List ℕ → List KioskNumber → Result (String Global) Failure → Type 0
Reported A text others (Ok printed) = (first_refusal A text others ≡ None) × (string_bytes printed ≡ flat_map (line_of A text) others)
Reported A text others (Err (Refused cause)) = first_refusal A text others ≡ Some cause
Reported A text others (Err Memory) = Unit {0}
