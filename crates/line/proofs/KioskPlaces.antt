-- Where the fault of a kiosk line lies: in its text or at its end.
use Rattle.std.proofs.Common.{◌≡◌, ℕ, ◌+◌, ◌*◌, ◌≤◌, List, length, IfErr, Ok, Err, Result, arith}
use Rattle.std.proofs.lemmas.Option.{MatchOption-at_some}
use Rattle.line.specs.declared.refusal.Cause.TheVariants.{WrongLetter, NoTab, NoLineFeed}
use Rattle.line.specs.declared.refusal.LineFault.{LineFault}
use Rattle.line.specs.declared.kiosk_line.KioskLine.{KioskLine}
use Rattle.line.specs.Steps.{Found}
use Rattle.line.specs.KioskLine.{share_size, kiosk_head, head_fault, kiosk_fault, reading, seen}
use Rattle.line.proofs.Checks.{the_fault, Passes, passes, passes_last}
use Rattle.line.proofs.KioskLaws.{mark_bounds, tour_bounds, degree_bounds, lanes_bounds, number_bounds, letter_check, mark_check, tour_check, degree_check, lanes_check, number_check, tab_check, codes_check, line_feed_check, end_check}
use Rattle.line.proofs.Places.{byte_place, end_place, field_place, codes_place}

-- What holds of the fault of a line's checks, if each check hands on the place behind it, up to any place that may be reached.
module _ (line mark order : ℕ) (text : List ℕ) (reach : ℕ) (R : LineFault → Type 0) where
  pub head_passes :
      (0 ≤ reach → Passes (1 ≤ reach) R (letter_check line mark order text))
      → (1 ≤ reach → Passes (10 ≤ reach) R (mark_check line mark order text))
      → (10 ≤ reach → Passes (19 ≤ reach) R (tour_check line mark order text))
      → (19 ≤ reach → Passes (28 ≤ reach) R (degree_check line mark order text))
      → (28 ≤ reach → Passes (37 ≤ reach) R (lanes_check line mark order text))
      → (37 ≤ reach → Passes (46 ≤ reach) R (number_check line mark order text))
      → Passes (46 ≤ reach) R (head_fault line mark order text)
  unfolding head_fault
  head_passes letter own tour degree lanes number =
      passes (letter_check line mark order text) _ (letter (omega arith))
      (λ at_1. passes (mark_check line mark order text) _ (own at_1)
      (λ at_10. passes (tour_check line mark order text) _ (tour at_10)
      (λ at_19. passes (degree_check line mark order text) _ (degree at_19)
      (λ at_28. passes (lanes_check line mark order text) _ (lanes at_28)
      (λ at_37. passes_last (number_check line mark order text) (number at_37))))))

module _ (line mark order : ℕ) (text : List ℕ) where
  head_place : Passes (46 ≤ length text) (Found line text) (head_fault line mark order text)
  head_place =
      head_passes line mark order text (length text) (Found line text)
      (byte_place line text 0 107 WrongLetter (omega arith))
      (field_place line text 1 10 (mark_bounds mark) (omega arith))
      (field_place line text 10 19 tour_bounds (omega arith))
      (field_place line text 19 28 degree_bounds (omega arith))
      (field_place line text 28 37 lanes_bounds (omega arith))
      (field_place line text 37 46 (number_bounds order) (omega arith))

  line_place : Passes (48 + 8 * share_size (kiosk_head text) ≤ length text) (Found line text) (kiosk_fault line mark order text)
  unfolding kiosk_fault
  line_place =
      let size = share_size (kiosk_head text) in
      passes (head_fault line mark order text) _ head_place
      (λ at_46. passes (tab_check line mark order text) _ (byte_place line text 46 9 NoTab (omega arith) at_46)
      (λ at_47. passes (codes_check line mark order text) _ (codes_place line text 47 size order at_47)
      (λ at_feed. passes (line_feed_check line mark order text) _ (byte_place line text (47 + 8 * size) 10 NoLineFeed (omega arith) at_feed)
      (λ at_end. passes_last (end_check line mark order text) (end_place line text (48 + 8 * size) (omega arith))))))

-- what holds of the fault holds of what the reader answers
pub found : (line mark order : ℕ) (text : List ℕ) (r : Result KioskLine LineFault) → seen r ≡ reading line mark order text → IfErr r (Found line text)
found line mark order text (Ok l) e = tt
found line mark order text (Err f) e = MatchOption-at_some _ (Found line text) f (the_fault _ _ _ e) (line_place line mark order text).by
