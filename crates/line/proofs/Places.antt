-- Where the faults of steps lie: a step that begins in the text or at its end finds its fault there, or ends there itself.
use Rattle.std.proofs.Common.{◌≡◌, ℕ, ◌+◌, ◌*◌, ◌<◌, ◌≤◌, ◌&&◌, eqb, ltb, leb, List, [], ◌∷◌, length, get_or, Some, None, refl, inl, inr, arith}
use Rattle.std.specs.Option.{option_map}
use Rattle.std.proofs.lemmas.Bool.{cond-true, cond_both}
use Rattle.line.specs.declared.refusal.Cause.{Cause}
use Rattle.line.specs.declared.refusal.Cause.TheVariants.{NoTab, NoHexDigit, BytesAfter}
use Rattle.line.specs.declared.refusal.LineFault.{LineFault}
use Rattle.line.specs.declared.steps.Bounds.{Bounds}
use Rattle.line.specs.Faults.{no_digit}
use Rattle.line.specs.Digits.{digit_value, number_at, digit_fault, digits_fault}
use Rattle.line.specs.Steps.{fault, byte_fault, end_fault, bounds_fault, value_fault, field_fault, codes_fault, Found}
use Rattle.line.proofs.Checks.{either, Passes, passes, passes_last, passes_mapped, passes_counted}
use Rattle.line.proofs.HexDigits.{digit_within}
use Rattle.line.proofs.Numbers.{digit_fault_none, digit_fault_some}
use Rattle.line.proofs.Standing.{byte_within}
use Rattle.line.proofs.StepLaws.{code_bounds, code_fault}

-- Steps of several bytes go from place to place as their bytes do, up to any place that may be reached.
module _ (line reach : ℕ) (text : List ℕ) (R : LineFault → Type 0) where
  pub value_passes : (place end : ℕ) (bounds : Bounds) → place + 8 ≡ end → ((k : ℕ) → k < 8 → place + k ≤ reach → Passes (place + (k + 1) ≤ reach) (λ d. R (no_digit d)) (digit_fault line text (place + k))) → (end ≤ reach → Passes (end ≤ reach) R (bounds_fault line place bounds (number_at text place))) → place ≤ reach → Passes (end ≤ reach) R (value_fault line text place bounds)
  unfolding value_fault digits_fault
  value_passes place end bounds long digit judged l =
      passes (option_map no_digit (digits_fault line text place)) (bounds_fault line place bounds (number_at text place) ∷ [])
      (passes_mapped R no_digit (digits_fault line text place)
      (passes_counted (λ k. place + k ≤ reach) (λ d. R (no_digit d)) (λ k. digit_fault line text (place + k)) 8 digit (omega arith)))
      (λ behind. passes_last (bounds_fault line place bounds (number_at text place)) (judged (omega arith)))

  pub field_passes : (place end : ℕ) (bounds : Bounds) → (place ≤ reach → Passes (place + 1 ≤ reach) R (byte_fault line text place 9 NoTab)) → (place + 1 ≤ reach → Passes (end ≤ reach) R (value_fault line text (place + 1) bounds)) → place ≤ reach → Passes (end ≤ reach) R (field_fault line text place bounds)
  unfolding field_fault
  field_passes place end bounds tab value l =
      passes (byte_fault line text place 9 NoTab) (value_fault line text (place + 1) bounds ∷ []) (tab l)
      (λ behind. passes_last (value_fault line text (place + 1) bounds) (value behind))

  pub codes_passes : (place count order : ℕ) → ((k : ℕ) → k < count → place + 8 * k ≤ reach → Passes (place + 8 * (k + 1) ≤ reach) R (code_fault line place order text k)) → place ≤ reach → Passes (place + 8 * count ≤ reach) R (codes_fault line text place count order)
  unfolding codes_fault
  codes_passes place count order code l =
      passes_counted (λ k. place + 8 * k ≤ reach) R (code_fault line place order text) count code (omega arith)

-- Each step, up to the text's end
module _ (line : ℕ) (text : List ℕ) where
  found_at : (place : ℕ) (cause : Cause) → place ≤ length text → Found line text (fault line place cause)
  found_at place cause within = record { line_is = refl; place_within = within }

  pub byte_place : (place byte : ℕ) (cause : Cause) → 0 < byte → place ≤ length text → Passes (place + 1 ≤ length text) (Found line text) (byte_fault line text place byte cause)
  unfolding byte_fault
  byte_place place byte cause some within =
      cond_both (eqb (get_or text place 0) byte) None (Some (fault line place cause)) (Passes (place + 1 ≤ length text) (Found line text))
      (λ e. record { by = omega (arith, byte_within line place byte text cause some (cond-true (eqb (get_or text place 0) byte) None (Some (fault line place cause)) e)) })
      (λ e. record { by = found_at place cause within })

  pub end_place : (place : ℕ) → place ≤ length text → Passes (place ≤ length text) (Found line text) (end_fault line text place)
  unfolding end_fault
  end_place place within =
      cond_both (ltb place (length text)) (Some (fault line place BytesAfter)) None (Passes (place ≤ length text) (Found line text))
      (λ e. record { by = found_at place BytesAfter within })
      (λ e. record { by = within })

  digit_place : (place end : ℕ) → place + 1 ≡ end → place ≤ length text → Passes (end ≤ length text) (λ d. Found line text (no_digit d)) (digit_fault line text place)
  digit_place place end long within =
      elim (either (digit_value (get_or text place 0))) [
        | inl found ↦ rw (digit_fault_none line place found.0 text found.1) (record { by = omega (arith, digit_within text place found.0 found.1) })
        | inr none ↦ rw (digit_fault_some line place text none) (record { by = found_at place NoHexDigit within })
      ]

  pub value_place : (place end : ℕ) (bounds : Bounds) → place + 8 ≡ end → place ≤ length text → Passes (end ≤ length text) (Found line text) (value_fault line text place bounds)
  unfolding bounds_fault
  value_place place end bounds long within =
      value_passes line (length text) text (Found line text) place end bounds long
      (λ k _. digit_place (place + k) (place + (k + 1)) (omega arith))
      (λ behind.
      cond_both (leb bounds.least (number_at text place) && ltb (number_at text place) bounds.below) None (Some (fault line place bounds.cause)) (Passes (end ≤ length text) (Found line text))
      (λ e. record { by = behind })
      (λ e. record { by = found_at place bounds.cause within }))
      within

  pub field_place : (place end : ℕ) (bounds : Bounds) → place + 9 ≡ end → place ≤ length text → Passes (end ≤ length text) (Found line text) (field_fault line text place bounds)
  field_place place end bounds long =
      field_passes line (length text) text (Found line text) place end bounds
      (byte_place place 9 NoTab (omega arith))
      (value_place (place + 1) end bounds (omega arith))

  pub codes_place : (place count order : ℕ) → place ≤ length text → Passes (place + 8 * count ≤ length text) (Found line text) (codes_fault line text place count order)
  codes_place place count order =
      codes_passes line (length text) text (Found line text) place count order
      (λ k _. value_place (place + 8 * k) (place + 8 * (k + 1)) (code_bounds order) (omega arith))
