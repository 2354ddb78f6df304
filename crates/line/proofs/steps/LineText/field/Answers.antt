-- The tab is looked at before the value behind it.
use Rattle.std.proofs.Common.{rules}
use Rattle.line.specs.Steps.{field_fault}
use Rattle.line.proofs.Checks.{first_one, answered}
use Rattle.line.proofs.steps.LineText.field.Goals as goal

pub returns-in_err-byte : goal.returns-in_err-byte
unfolding field_fault
returns-in_err-byte c = search (rules, answered)

pub returns : goal.returns
unfolding field_fault
returns c = search (rules, answered, first_one)
