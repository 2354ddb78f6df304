use Rattle.polynomial.proofs.Restored.{restores}
use Rattle.polynomial.proofs.theorems.restoring.Goals as goal

pub returns : goal.returns
returns g c = restores g.F.Field.arith c.laws.ensures.arithmetic
