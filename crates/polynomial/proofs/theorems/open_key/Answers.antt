use Rattle.polynomial.proofs.Paired.{open_key}
use Rattle.polynomial.proofs.theorems.open_key.Goals as goal

pub returns : goal.returns
returns g c = open_key g.F.Field.arith c.laws.ensures.arithmetic
