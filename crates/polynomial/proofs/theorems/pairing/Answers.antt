use Rattle.polynomial.proofs.Paired.{pairing}
use Rattle.polynomial.proofs.theorems.pairing.Goals as goal

pub returns : goal.returns
returns g c = pairing g.F.Field.arith c.laws.ensures.arithmetic
