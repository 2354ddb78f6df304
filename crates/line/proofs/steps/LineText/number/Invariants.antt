-- The digit loop: digits stand at the places passed, and the number is theirs.
use Rattle.std.proofs.Common.{◌-◌, drop}
use Rattle.line.proofs.HexDigits.{Digits}
use Rattle.line.proofs.steps.LineText.number.Given as goal

abbrev pub invariant-loop-at : goal.invariant-loop-at
invariant-loop-at l = Digits (drop l.place l.self.bytes.now) (l.at - l.place) l.number
