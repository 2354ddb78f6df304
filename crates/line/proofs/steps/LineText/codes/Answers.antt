-- The code loop stops at the first code with a fault.
use Rattle.std.proofs.Common.{◌≡◌, ℕ, ◌+◌, ◌<◌, None, arith, rules, below_more}
use Rattle.line.proofs.Checks.{no_fault, the_fault}
use Rattle.line.proofs.StepLaws.{code_fault, codes_fault_none, codes_fault_some}
use Rattle.line.proofs.steps.LineText.codes.Goals as goal
use Rattle.line.proofs.steps.LineText.codes.Goals.{In_ok-value}

-- the codes up to the one at hand have no fault
passed : (c : In_ok-value) (k : ℕ) → k < c.loop-at.invariant.0 + 1 → code_fault c.args.self.now.line c.args.place c.args.order c.args.self.now.bytes.now k ≡ None
passed c =
    let inv = c.loop-at.invariant in below_more _ _ inv.3 (rw inv.1 at (no_fault _ _ _ c.in_ok-value.ensures))

pub loop-at-preserved : goal.loop-at-preserved
loop-at-preserved c = (c.loop-at.invariant.0 + 1, omega arith, omega arith, passed (goal.at.loop-at-preserved c).In_ok-value)

pub returns-in_err-value : goal.returns-in_err-value
returns-in_err-value c =
    let inv = c.loop-at.invariant in
    let found = codes_fault_some c.args.self.now.line c.args.place c.args.count c.args.order c.args.self.now.bytes.now inv.0 _ (omega arith) inv.3 (rw inv.1 at (the_fault _ _ _ c.in_err-value.ensures)) in
    search rules

pub returns : goal.returns
returns c =
    let none = codes_fault_none c.args.self.now.line c.args.place c.args.count c.args.order c.args.self.now.bytes.now (λ k l. c.loop-at.invariant.3 k (omega arith)) in
    simp none

pub returns-in_ok-value : goal.returns-in_ok-value
returns-in_ok-value c =
    let none = codes_fault_none c.args.self.now.line c.args.place c.args.count c.args.order c.args.self.now.bytes.now (λ k l. passed (goal.at.returns-in_ok-value c).In_ok-value k (omega arith)) in
    simp none
