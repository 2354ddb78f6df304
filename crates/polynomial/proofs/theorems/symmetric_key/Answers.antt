use Rattle.polynomial.proofs.Symmetry.{symmetric_key, of_master}
use Rattle.polynomial.proofs.theorems.symmetric_key.Goals as goal

pub returns : goal.returns
returns g c = record { symmetric = symmetric_key g.F.Field.arith c.laws.ensures.arithmetic; of_master = of_master g.F.Field.arith }
