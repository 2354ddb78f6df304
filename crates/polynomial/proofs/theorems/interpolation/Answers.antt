use Rattle.polynomial.proofs.Lagrange.{interpolates}
use Rattle.polynomial.proofs.theorems.interpolation.Goals as goal

pub returns : goal.returns
returns g c = interpolates g.F.Field.arith c.laws.ensures.arithmetic
