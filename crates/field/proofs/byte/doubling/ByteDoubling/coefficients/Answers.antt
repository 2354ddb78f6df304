use Rattle.field.proofs.Roots.{byte_rootless}
use Rattle.field.proofs.byte.doubling.ByteDoubling.coefficients.Goals as goal

pub returns-clause-rootless : goal.returns-clause-rootless
returns-clause-rootless c = byte_rootless
