use Rattle.field.proofs.Residues.{residue_monoid}
use Rattle.field.proofs.residue.arithmetic.ResidueMultiply.laws.Goals as goal

pub returns-clause-monoid : goal.returns-clause-monoid
returns-clause-monoid c = residue_monoid
