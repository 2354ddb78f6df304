use Rattle.std.proofs.Common.{◌≡◌}
use Rattle.field.specs.Arith.{power}
use Rattle.field.proofs.power.power.Given as goal

-- What is left to multiply by is a power of the next square.
abbrev pub invariant-loop-rest : goal.invariant-loop-rest
invariant-loop-rest g l =
    let product = g.M.Multiply.product in
    let square = g.M.Multiply.number l.square in
    product (g.M.Multiply.number l.power) (power product (product square square) l.rest) ≡ power product (g.M.Multiply.number l.fn.x) l.fn.exponent

abbrev pub decreases-loop-rest : goal.decreases-loop-rest
decreases-loop-rest g l = l.rest
