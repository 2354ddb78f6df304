use Rattle.std.proofs.Common.{rules}
use Rattle.polynomial.proofs.Evaluation.{evaluation_cons}
use Rattle.polynomial.proofs.horner.Goals as goal

pub returns-clause-evaluates : goal.returns-clause-evaluates
returns-clause-evaluates g c = search (rules, evaluation_cons)
