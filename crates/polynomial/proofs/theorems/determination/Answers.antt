use Rattle.polynomial.proofs.Determined.{determines}
use Rattle.polynomial.proofs.theorems.determination.Goals as goal

pub returns : goal.returns
returns g c = determines g.F.Field.arith c.laws.ensures.arithmetic
