use Rattle.polynomial.proofs.Shift.{unseen_shift}
use Rattle.polynomial.proofs.theorems.unseen_shift.Goals as goal

pub returns : goal.returns
returns g c = unseen_shift g.F.Field.arith c.laws.ensures.arithmetic
