use Rattle.std.proofs.Common.{◌≡◌}
use lib.Seq.{paste}
use Rattle.polynomial.specs.PairKey.{pair_key}
use Rattle.line.specs.Steps.{codes_in}
use Rattle.kiosk.proofs.Share.write_key.Given as goal

-- the codes of the key up to this lane
abbrev pub invariant-loop-lane : goal.invariant-loop-lane
invariant-loop-lane g l =
    let field = g.F.Field in
    let head = l.self.line.head in
    l.code-items ≡ paste l.initial.code-items 0 (pair_key field.arith head.degree head.lanes (codes_in l.self.line.codes.text.now) (field.code l.point)) l.lane
