use Rattle.std.proofs.Common.{◌≡◌, get_or, take}
use Rattle.polynomial.specs.Interpolation.{factor}
use Rattle.polynomial.specs.Polynomial.{product_over, Codes}
use Rattle.polynomial.proofs.interpolation.weight_of.Given as goal

-- the product of the factors of the points so far, which are codes
abbrev pub invariant-loop-point : goal.invariant-loop-point
invariant-loop-point g l =
    let field = g.F.Field in
    (field.code l.product ≡ product_over field.arith l.point-index (λ k. factor field.arith (field.code l.s) (field.code l.x) (get_or l.points k 0)))
    × Codes field.arith (take l.point-index l.points)
