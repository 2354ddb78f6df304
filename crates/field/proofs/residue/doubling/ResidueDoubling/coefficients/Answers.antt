use Rattle.field.proofs.Roots.{residue_rootless}
use Rattle.field.proofs.residue.doubling.ResidueDoubling.coefficients.Goals as goal

pub returns-clause-rootless : goal.returns-clause-rootless
returns-clause-rootless c = residue_rootless
