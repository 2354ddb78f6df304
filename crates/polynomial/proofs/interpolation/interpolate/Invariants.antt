use Rattle.std.proofs.Common.{◌≡◌, map, length, get_or, take}
use Rattle.polynomial.specs.Polynomial.{sum_over, Codes}
use Rattle.polynomial.proofs.interpolation.interpolate.Given as goal

-- the sum of the values so far, which are codes, each times its weight
abbrev pub invariant-loop-weight : goal.invariant-loop-weight
invariant-loop-weight g l =
    let field = g.F.Field in
    (field.code l.sum ≡ sum_over field.arith (length l.yielded) (λ k. field.arith.product (get_or l.values k 0) (get_or (map field.code l.weights) k 0)))
    × Codes field.arith (take (length l.yielded) l.values)
