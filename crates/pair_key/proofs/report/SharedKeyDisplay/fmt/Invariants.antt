use Rattle.std.proofs.Common.{take}
use Rattle.std.specs.Fmt.{HasWritten, IsPlainFormatter}
use Rattle.std.specs.List.{flat_map}
use Rattle.pair_key.specs.Report.{blank_code}
use Rattle.pair_key.proofs.report.SharedKeyDisplay.fmt.Given as goal

-- the codes so far are written, each behind a blank
abbrev pub invariant-loop-code : goal.invariant-loop-code
invariant-loop-code g l =
    IsPlainFormatter l.initial.f → HasWritten g.W.Write.write_str_gives l.initial.f (flat_map blank_code (take l.code-index l.self.codes.now)) l.f
