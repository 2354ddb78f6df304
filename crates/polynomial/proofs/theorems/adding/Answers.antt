use Rattle.polynomial.proofs.Added.{adding}
use Rattle.polynomial.proofs.theorems.adding.Goals as goal

pub returns : goal.returns
returns g c = adding g.F.Field.arith c.laws.ensures.arithmetic
