-- The code loop: it goes from code to code, and those passed have no fault.
use Rattle.std.proofs.Common.{◌≡◌, ℕ, ◌+◌, ◌*◌, ◌<◌, ◌≤◌, None}
use Rattle.line.specs.Steps.{value_fault}
use Rattle.line.proofs.steps.LineText.codes.Given as goal

abbrev pub invariant-loop-at : goal.invariant-loop-at
invariant-loop-at l = (n : ℕ) × (l.at ≡ l.place + 8 * n) × (n ≤ l.count) × ((k : ℕ) → k < n → value_fault l.self.line l.self.bytes.now (l.place + 8 * k) l.bounds ≡ None)
