-- The first refusal of a line and several numbers.
use Rattle.std.proofs.Common.{◌≡◌, ℕ, suc, ◌<◌, List, ◌∷◌, map, length, get_or, take, Some, None, Err, Option, sym, ◌∙◌, subst}
use Rattle.std.proofs.ByRecursion.{All-map}
use Rattle.std.proofs.lemmas.List.{take-map, get_or-map}
use Rattle.std.specs.Option.{option_map}
use Rattle.std.specs.List.{AllByRecursion}
use Rattle.field.specs.Arith.{Arith}
use Rattle.line.proofs.Checks.{first_at, first_all}
use Rattle.line.specs.KioskLine.{kiosk_fault}
use Rattle.line.specs.declared.number.KioskNumber.{KioskNumber}
use Rattle.line.specs.declared.refusal.Refusal.{Refusal}
use Rattle.line.specs.declared.refusal.Refusal.TheVariants.{OutOfForm}
use Rattle.kiosk.specs.Derivation.{refusal}
use Rattle.pair_key.specs.Report.{first_refusal, Appended, Reported}
use Rattle.pair_key.specs.declared.report.Failure.{Failure}
use Rattle.pair_key.specs.declared.report.Failure.TheVariants.{Refused, Memory}

module _ (A : Arith) (text : List ℕ) (others : List KioskNumber) where
  abbrev pub line_refusal : Option Refusal
  line_refusal = option_map OutOfForm (kiosk_fault 1 A.mark A.order text)

  abbrev refusal_of : KioskNumber → Option Refusal
  refusal_of v = refusal A text v.0 16

  abbrev Passed : List KioskNumber → Type 0
  Passed vs = AllByRecursion (λ (v : KioskNumber). refusal A text v.0 16 ≡ None) vs

  pub line_refused : (cause : Refusal) → line_refusal ≡ Some cause → first_refusal A text others ≡ Some cause
  unfolding first_refusal
  line_refused cause e = first_at (line_refusal ∷ map refusal_of others) 0 cause tt e

  pub none_refused : line_refusal ≡ None → Passed others → first_refusal A text others ≡ None
  unfolding first_refusal
  none_refused none passed = first_all (line_refusal ∷ map refusal_of others) (none, All-map (λ o. o ≡ None) refusal_of others passed)

  -- where one derivation fails, so does the whole
  pub one_failed : (i : ℕ) (was after : List ℕ) (failure : Failure) → line_refusal ≡ None → Passed (take i others) → i < length others → Appended A text (get_or others i (record { 0 = 0 })) was after (Err failure) → Reported A text others (Err failure)
  unfolding first_refusal
  one_failed i was after (Refused cause) none passed inside e =
      first_at (line_refusal ∷ map refusal_of others) (suc i) cause
      (none, subst (AllByRecursion (λ o. o ≡ None)) (sym (take-map refusal_of i others)) (All-map (λ o. o ≡ None) refusal_of (take i others) passed))
      (get_or-map refusal_of others i (record { 0 = 0 }) None inside ∙ e)
  one_failed i was after Memory none passed inside e = tt
