-- The byte at the place decides.
use Rattle.std.proofs.Common.{rules, tests}
use Rattle.line.specs.Steps.{byte_fault}
use Rattle.line.proofs.steps.LineText.byte.Goals as goal

pub returns-then-eq : goal.returns-then-eq
unfolding byte_fault
returns-then-eq c = let set = c.args.wanted.set in search (rules, tests)

pub returns-else-eq : goal.returns-else-eq
unfolding byte_fault
returns-else-eq c = let set = c.args.wanted.set in search (rules, tests)
