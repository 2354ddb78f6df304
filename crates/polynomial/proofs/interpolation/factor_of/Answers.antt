use Rattle.std.proofs.Common.{rules}
use Rattle.polynomial.proofs.Weights.{factor_none}
use Rattle.polynomial.proofs.interpolation.factor_of.Goals as goal

pub returns-in-None : goal.returns-in-None
returns-in-None g c = search (rules, factor_none)
