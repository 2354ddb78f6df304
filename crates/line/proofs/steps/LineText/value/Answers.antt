-- A value is judged once its digits are read.
use Rattle.std.proofs.Common.{rules, arith}
use Rattle.std.proofs.lemmas.Grind.{common_steps}
use Rattle.std.proofs.lemmas.Bool.Decides.{nat_tests}
use Rattle.line.specs.Steps.{bounds_fault, value_fault}
use Rattle.line.proofs.Checks.{answered}
use Rattle.line.proofs.steps.LineText.value.Goals as goal

pub returns-in_err-number : goal.returns-in_err-number
unfolding value_fault
returns-in_err-number c = search (rules, answered)

pub returns-then-wide-bounds : goal.returns-then-wide-bounds
unfolding value_fault bounds_fault
returns-then-wide-bounds c = search (rules, answered)

pub returns-else-bounds-wide : goal.returns-else-bounds-wide
unfolding value_fault bounds_fault
returns-else-bounds-wide c = grind (arith, common_steps, nat_tests, answered)
