use Rattle.std.proofs.Common.{arith}
use Rattle.std.proofs.lemmas.Grind.{common_steps}
use Rattle.pair_key.specs.Report.{key_line}
use Rattle.pair_key.proofs.report.SharedKeyDisplay.fmt.Goals as goal

pub returns-clause-writes : goal.returns-clause-writes
unfolding key_line
returns-clause-writes g c = grind (arith, common_steps)
