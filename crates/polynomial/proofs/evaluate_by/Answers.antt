use Rattle.std.proofs.Common.{rules}
use Rattle.polynomial.proofs.Rules.{weaker_rule}
use Rattle.polynomial.proofs.evaluate_by.Goals as goal

pub returns : goal.returns
returns g c = weaker_rule g.F.Field.arith g.F.Field.code _ _ (λ power answer below called. search rules) c.horner_loop.ensures
