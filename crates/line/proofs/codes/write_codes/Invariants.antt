-- The code loop: the codes passed stand in front, and the rest of the buffer is as it was.
use Rattle.std.proofs.Common.{◌≡◌, ◌*◌, ◌++◌, take, drop}
use Rattle.std.specs.List.{flat_map}
use Rattle.line.specs.Digits.{eight}
use Rattle.line.proofs.codes.write_codes.Given as goal

abbrev pub invariant-loop-i : goal.invariant-loop-i
invariant-loop-i l = l.buffer ≡ flat_map eight (take l.i l.codes) ++ drop (8 * l.i) l.initial.buffer
