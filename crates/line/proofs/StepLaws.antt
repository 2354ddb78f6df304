-- The checks that a line is made of: when each finds its fault.
use Rattle.std.proofs.Common.{◌≡◌, ℕ, ◌+◌, ◌*◌, ◌<◌, ◌≤◌, List, Some, None, Option, arith}
use Rattle.std.proofs.lemmas.Bool.Decides.{nat_tests}
use Rattle.line.specs.declared.refusal.Cause.TheVariants.{NoTab, OutOfRange}
use Rattle.line.specs.declared.refusal.DigitFault.{DigitFault}
use Rattle.line.specs.declared.refusal.LineFault.{LineFault}
use Rattle.line.specs.declared.steps.Bounds.{Bounds}
use Rattle.line.specs.Faults.{no_digit}
use Rattle.line.specs.Digits.{number_at, digits_fault}
use Rattle.line.specs.Steps.{byte_fault, bounds_fault, value_fault, field_fault, codes_fault}
use Rattle.line.proofs.Checks.{first_one, counted_none, counted_some, counted_each}

pub bounds_fault_none : (line place n : ℕ) (bounds : Bounds) → bounds.least ≤ n → n < bounds.below → bounds_fault line place bounds n ≡ None
unfolding bounds_fault
bounds_fault_none line place n bounds least below = grind (arith, nat_tests)

module _ (line place : ℕ) (text : List ℕ) (bounds : Bounds) where
  pub value_fault_digits : (d : DigitFault) → digits_fault line text place ≡ Some d → value_fault line text place bounds ≡ Some (no_digit d)
  unfolding value_fault
  value_fault_digits d e = rw (e, value_fault)

  pub value_fault_bounds : digits_fault line text place ≡ None → value_fault line text place bounds ≡ bounds_fault line place bounds (number_at text place)
  unfolding value_fault
  value_fault_bounds e = rw (e, value_fault) (first_one (bounds_fault line place bounds (number_at text place)))

  pub field_fault_value : byte_fault line text place 9 NoTab ≡ None → field_fault line text place bounds ≡ value_fault line text (place + 1) bounds
  unfolding field_fault
  field_fault_value e = rw (e, field_fault) (first_one (value_fault line text (place + 1) bounds))

-- Codes are values one after another.

abbrev pub code_bounds : ℕ → Bounds
code_bounds order = record { least = 0; below = order; cause = OutOfRange }

abbrev pub code_fault : ℕ → ℕ → ℕ → List ℕ → ℕ → Option LineFault
code_fault line place order text i = value_fault line text (place + 8 * i) (code_bounds order)

module _ (line place count order : ℕ) (text : List ℕ) where
  pub codes_fault_none : ((k : ℕ) → k < count → code_fault line place order text k ≡ None) → codes_fault line text place count order ≡ None
  unfolding codes_fault
  codes_fault_none = counted_none (code_fault line place order text) count

  pub codes_fault_some : (i : ℕ) (f : LineFault) → i < count → ((k : ℕ) → k < i → code_fault line place order text k ≡ None) → code_fault line place order text i ≡ Some f → codes_fault line text place count order ≡ Some f
  unfolding codes_fault
  codes_fault_some = counted_some (code_fault line place order text) count

  pub codes_fault_each : codes_fault line text place count order ≡ None → (k : ℕ) → k < count → code_fault line place order text k ≡ None
  unfolding codes_fault
  codes_fault_each = counted_each (code_fault line place order text) count
