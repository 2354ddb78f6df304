-- The length of the text decides.
use Rattle.std.proofs.Common.{rules}
use Rattle.line.specs.Steps.{end_fault}
use Rattle.line.proofs.steps.LineText.end.Goals as goal

pub returns-then-place-self : goal.returns-then-place-self
unfolding end_fault
returns-then-place-self c = search rules

pub returns-else-place-self : goal.returns-else-place-self
unfolding end_fault
returns-else-place-self c = search rules
