-- The checks up to the kiosk's number: each exit answers the fault of its own check, and without a fault every number was read.
use Rattle.std.proofs.Common.{rules}
use Rattle.line.specs.KioskLine.{head_fault}
use Rattle.line.proofs.Checks.{answered}
use Rattle.line.proofs.kiosk_line.head.Goals as goal

pub returns-in_err-byte : goal.returns-in_err-byte
unfolding head_fault
returns-in_err-byte c = search (rules, answered)

pub returns-in_err-mark : goal.returns-in_err-mark
unfolding head_fault
returns-in_err-mark c = search (rules, answered)

pub returns-in_err-tour : goal.returns-in_err-tour
unfolding head_fault
returns-in_err-tour c = search (rules, answered)

pub returns-in_err-degree : goal.returns-in_err-degree
unfolding head_fault
returns-in_err-degree c = search (rules, answered)

pub returns-in_err-lanes : goal.returns-in_err-lanes
unfolding head_fault
returns-in_err-lanes c = search (rules, answered)

pub returns-in_err-number : goal.returns-in_err-number
unfolding head_fault
returns-in_err-number c = search (rules, answered)

pub returns : goal.returns
unfolding head_fault
returns c = search (rules, answered)
