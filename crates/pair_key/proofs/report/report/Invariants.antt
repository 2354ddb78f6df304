use Rattle.std.proofs.Common.{◌≡◌, take, None, string_bytes}
use Rattle.std.specs.List.{flat_map, AllByRecursion}
use Rattle.line.specs.declared.number.KioskNumber.{KioskNumber}
use Rattle.kiosk.specs.Derivation.{refusal}
use Rattle.pair_key.specs.Report.{line_of}
use Rattle.pair_key.proofs.report.report.Given as goal

-- nothing was refused so far, and the lines so far are there
abbrev pub invariant-loop-other : goal.invariant-loop-other
invariant-loop-other g l =
    let A = g.F.Field.arith in
    (string_bytes l.lines ≡ flat_map (line_of A l.text) (take l.other-index l.others))
    × AllByRecursion (λ (v : KioskNumber). refusal A l.text v.0 16 ≡ None) (take l.other-index l.others)
