use Rattle.std.proofs.Common.{subst, sym}
use Rattle.std.specs.Str.{IsUtf8}
use Rattle.pair_key.proofs.HexDigits.{eight_utf8}
use Rattle.pair_key.proofs.report.CodeDisplay.fmt.Goals as goal

pub from_utf8_unchecked-requires : goal.from_utf8_unchecked-requires
from_utf8_unchecked-requires g c = subst IsUtf8 (sym c.hex-digits.ensures) (eight_utf8 _)
