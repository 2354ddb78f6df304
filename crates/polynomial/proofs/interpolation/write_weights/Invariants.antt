use Rattle.std.proofs.Common.{◌≡◌, map}
use lib.Seq.{paste}
use Rattle.polynomial.specs.Interpolation.{weights}
use Rattle.polynomial.proofs.interpolation.write_weights.Given as goal

-- the weights up to this index, and behind them the buffer as it was
abbrev pub invariant-loop-i : goal.invariant-loop-i
invariant-loop-i g l =
    let field = g.F.Field in
    map field.code l.into ≡ paste (map field.code l.initial.into) 0 (weights field.arith l.points (field.code l.x)) l.i
