-- A text that is cut short: a step that finds no fault in the whole text finds none before the cut, and at the cut what is missing there.
use Rattle.std.proofs.Common.{◌≡◌, ℕ, ◌+◌, ◌-◌, ◌*◌, ◌<◌, ◌≤◌, cond, eqb, List, [], ◌∷◌, get_or, take, drop, Some, None, sym, ap, ◌∙◌, subst, inl, inr, arith}
use Rattle.std.proofs.lemmas.List.{length-take, get_or-take, get_or_past, take-take, drop-take}
use Rattle.std.proofs.lemmas.Bool.{cases_lt, cond-false, ne_eqb}
use Rattle.line.specs.declared.refusal.Cause.{Cause}
use Rattle.line.specs.declared.refusal.Cause.TheVariants.{NoTab, NoHexDigit}
use Rattle.line.specs.declared.refusal.LineFault.{LineFault}
use Rattle.line.specs.declared.steps.Bounds.{Bounds}
use Rattle.line.specs.Faults.{no_digit}
use Rattle.line.specs.Digits.{digit_value, value_after, number_at, digit_fault, digits_fault}
use Rattle.line.specs.Steps.{fault, byte_fault, bounds_fault, value_fault, field_fault, codes_fault}
use Rattle.line.proofs.Checks.{all_none, counted_each, Passes}
use Rattle.line.proofs.Numbers.{digit_fault_some, digits_read}
use Rattle.line.proofs.Places.{value_passes, field_passes, codes_passes}
use Rattle.line.proofs.Standing.{value_stands}
use Rattle.line.proofs.StepLaws.{bounds_fault_none, code_bounds, codes_fault_each}

module _ (n : ℕ) (whole : List ℕ) where
  -- from the cut on nothing stands
  past_cut : (place : ℕ) → n ≤ place → get_or (take n whole) place 0 ≡ 0
  past_cut place l = get_or_past (take n whole) place 0 (omega (arith, length-take n whole))

  -- a number before the cut is as it was
  pub number_cut : (place : ℕ) → place + 8 ≤ n → number_at (take n whole) place ≡ number_at whole place
  unfolding number_at
  number_cut place l =
      let split : n ≡ place + (n - place) = omega arith in
      ap (λ m. value_after 0 (take 8 (drop place (take m whole)))) split
      ∙ ap (λ bs. value_after 0 (take 8 bs)) (drop-take place (n - place) whole)
      ∙ ap (value_after 0) (take-take 8 (n - place) (drop place whole) (omega arith))

digit_fault_same : (line place : ℕ) (text other : List ℕ) → get_or text place 0 ≡ get_or other place 0 → digit_fault line text place ≡ digit_fault line other place
unfolding digit_fault
digit_fault_same line place text other e = ap (λ b. elim (digit_value b) [ None ↦ Some (record { line = line; place = place }) | Some d ↦ None ]) e

-- the fault at the cut, if this is the cause of what is missing at each place
abbrev pub AtCut : ℕ → ℕ → (ℕ → Cause) → LineFault → Type 0
AtCut line n cause_at f = f ≡ fault line n (cause_at n)

-- digits are missing from a place up to another
abbrev pub HexBetween : (ℕ → Cause) → ℕ → ℕ → Type 0
HexBetween cause_at place end = (k : ℕ) → place ≤ k → k < end → cause_at k ≡ NoHexDigit

module _ (line n : ℕ) (whole : List ℕ) (cause_at : ℕ → Cause) where
  at_cut : (place : ℕ) (cause : Cause) → cause_at place ≡ cause → place ≤ n → n ≤ place → AtCut line n cause_at (fault line place cause)
  at_cut place cause is l past =
      let same : place ≡ n = omega arith in
      ap (fault line place) (sym is) ∙ ap (λ p. fault line p (cause_at p)) same

  pub byte_cut : (place byte : ℕ) (cause : Cause) → 0 < byte → cause_at place ≡ cause → byte_fault line whole place byte cause ≡ None → place ≤ n → Passes (place + 1 ≤ n) (AtCut line n cause_at) (byte_fault line (take n whole) place byte cause)
  unfolding byte_fault
  byte_cut place byte cause some is none l =
      let found : LineFault = fault line place cause in
      elim (cases_lt place n) [
        | inl before ↦
            subst (Passes (place + 1 ≤ n) (AtCut line n cause_at))
            (sym (ap (λ b. cond (eqb b byte) None (Some found)) (get_or-take n whole place 0 before) ∙ none))
            (record { by = omega arith })
        | inr past ↦
            subst (Passes (place + 1 ≤ n) (AtCut line n cause_at))
            (sym (cond-false (eqb (get_or (take n whole) place 0) byte) None (Some found) (ne_eqb (get_or (take n whole) place 0) byte (λ e. omega (arith, past_cut n whole place past)))))
            (record { by = at_cut place cause is l past })
      ]

  digit_cut : (place end : ℕ) → place + 1 ≡ end → cause_at place ≡ NoHexDigit → digit_fault line whole place ≡ None → place ≤ n → Passes (end ≤ n) (λ d. AtCut line n cause_at (no_digit d)) (digit_fault line (take n whole) place)
  digit_cut place end long is none l =
      elim (cases_lt place n) [
        | inl before ↦
            subst (Passes (end ≤ n) (λ d. AtCut line n cause_at (no_digit d)))
            (sym (digit_fault_same line place (take n whole) whole (get_or-take n whole place 0 before) ∙ none))
            (record { by = omega arith })
        | inr past ↦
            subst (Passes (end ≤ n) (λ d. AtCut line n cause_at (no_digit d)))
            (sym (digit_fault_some line place (take n whole) (ap digit_value (past_cut n whole place past))))
            (record { by = at_cut place NoHexDigit is l past })
      ]

  pub value_cut : (place end : ℕ) (bounds : Bounds) → place + 8 ≡ end → HexBetween cause_at place end → value_fault line whole place bounds ≡ None → place ≤ n → Passes (end ≤ n) (AtCut line n cause_at) (value_fault line (take n whole) place bounds)
  unfolding digits_fault
  value_cut place end bounds long hex none =
      let value = value_stands line place whole bounds none in
      let number = number_at whole place in
      let digits : digits_fault line whole place ≡ None = digits_read place number whole (drop (place + 8) whole) value.stands line in
      value_passes line n (take n whole) (AtCut line n cause_at) place end bounds long
      (λ k l. digit_cut (place + k) (place + (k + 1)) (omega arith) (hex (place + k) (omega arith) (omega arith)) (counted_each (λ i. digit_fault line whole (place + i)) 8 digits k l))
      (λ behind.
      subst (Passes (end ≤ n) (AtCut line n cause_at))
      (sym (ap (bounds_fault line place bounds) (number_cut n whole place (omega arith)) ∙ bounds_fault_none line place number bounds value.range.least value.range.below))
      (record { by = behind }))

  pub field_cut : (place end : ℕ) (bounds : Bounds) → place + 9 ≡ end → cause_at place ≡ NoTab → HexBetween cause_at (place + 1) end → field_fault line whole place bounds ≡ None → place ≤ n → Passes (end ≤ n) (AtCut line n cause_at) (field_fault line (take n whole) place bounds)
  unfolding field_fault
  field_cut place end bounds long tab hex none =
      let each = all_none (byte_fault line whole place 9 NoTab ∷ value_fault line whole (place + 1) bounds ∷ []) none in
      field_passes line n (take n whole) (AtCut line n cause_at) place end bounds
      (byte_cut place 9 NoTab (omega arith) tab each.0)
      (value_cut (place + 1) end bounds (omega arith) hex each.1.0)

  pub codes_cut : (place count order : ℕ) → HexBetween cause_at place (place + 8 * count) → codes_fault line whole place count order ≡ None → place ≤ n → Passes (place + 8 * count ≤ n) (AtCut line n cause_at) (codes_fault line (take n whole) place count order)
  codes_cut place count order hex none =
      codes_passes line n (take n whole) (AtCut line n cause_at) place count order
      (λ k l.
      value_cut (place + 8 * k) (place + 8 * (k + 1)) (code_bounds order) (omega arith)
      (λ i from below. hex i (omega arith) (omega arith))
      (codes_fault_each line place count order whole none k l))
