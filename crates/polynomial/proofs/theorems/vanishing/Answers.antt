use Rattle.polynomial.proofs.Determined.{polynomial_vanishes}
use Rattle.polynomial.proofs.theorems.vanishing.Goals as goal

pub returns : goal.returns
returns g c = polynomial_vanishes g.F.Field.arith c.laws.ensures.arithmetic
