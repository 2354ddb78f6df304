-- Which field a line is read over: that of its mark, where there is one.
use Rattle.std.specs.Prelude.{ℕ, Bool, true, false, cond, List, Some, None}
use Rattle.field.specs.Arith.{Arith}
use Rattle.field.specs.Bytes.{byte_arith}
use Rattle.field.specs.DoubledFields.{doubled_bytes, doubled_residues}
use Rattle.field.specs.Residues.{residue_arith}
use Rattle.line.specs.declared.refusal.Cause.{Cause}
use Rattle.line.specs.declared.refusal.Cause.TheVariants.{WrongLetter, NoTab, NoHexDigit, NoLineFeed, OutOfRange, OtherMark, BytesAfter}
use Rattle.line.specs.KioskLine.{kiosk_fault}

abbrev pub names_another : Cause → Bool
names_another WrongLetter = false
names_another NoTab = false
names_another NoHexDigit = false
names_another NoLineFeed = false
names_another OutOfRange = false
names_another OtherMark = true
names_another BytesAfter = false

-- the reader over this field finds another field's mark
abbrev pub of_another_field : Arith → List ℕ → Bool
of_another_field A text = elim (kiosk_fault 1 A.mark A.order text) [ None ↦ false | Some fault ↦ names_another fault.cause ]

-- this field, or where it finds another's mark, the next
abbrev pub tried : Arith → List ℕ → Arith → Arith
tried A text next = cond (of_another_field A text) next A

-- The fields are tried in turn. The last stands where no field has that mark.
abbrev pub field_of : List ℕ → Arith
field_of text = tried byte_arith text (tried residue_arith text (tried doubled_bytes text doubled_residues))
