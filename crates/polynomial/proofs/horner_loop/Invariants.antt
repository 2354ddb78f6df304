use Rattle.std.proofs.Common.{◌+◌, ◌-◌}
use Rattle.polynomial.specs.Polynomial.{EvaluatesBy}
use Rattle.polynomial.proofs.horner_loop.Given as goal

-- the value so far is that of the polynomial that has the coefficients from this power on
abbrev pub invariant-loop-power : goal.invariant-loop-power
invariant-loop-power g l =
    let field = g.F.Field in
    EvaluatesBy field.arith field.code (λ i. goal.C-post g l.coefficient (i + l.power)) (l.count - l.power) (field.code l.point) l.value
