-- A kiosk line that is cut short is refused at its end, with the cause of what is missing there.
use Rattle.std.proofs.Common.{◌≡◌, ℕ, ◌+◌, ◌*◌, ◌^◌, ◌<◌, ◌≤◌, List, [], ◌∷◌, length, take, drop, Some, None, Err, Option, Result, sym, refl, ap, ◌∙◌, subst, arith}
use Rattle.std.proofs.lemmas.List.{length-drop}
use Rattle.std.proofs.lemmas.Bool.Decides.{nat_tests}
use Rattle.line.specs.declared.refusal.Cause.TheVariants.{WrongLetter, NoTab, NoLineFeed}
use Rattle.line.specs.declared.refusal.LineFault.{LineFault}
use Rattle.line.specs.Faults.{first}
use Rattle.line.specs.Steps.{fault, byte_fault, codes_fault, end_fault}
use Rattle.line.specs.KioskLine.{share_size, kiosk_line, kiosk_head, head_fault, kiosk_fault, Read, reading, missing, CutShort}
use Rattle.line.proofs.Checks.{no_fault, was_read, Passes, passes}
use Rattle.line.proofs.Cut.{AtCut, number_cut, byte_cut, field_cut, codes_cut}
use Rattle.line.proofs.KioskLaws.{mark_bounds, tour_bounds, degree_bounds, lanes_bounds, number_bounds, head_each, tab_check, line_each}
use Rattle.line.proofs.KioskPlaces.{head_passes}
use Rattle.line.proofs.KioskReadsBack.{reads_back}
use Rattle.line.proofs.Standing.{end_stands}

-- Of a text in which no fault is found, the first n bytes
module _ (line mark order n : ℕ) (whole : List ℕ) (none : kiosk_fault line mark order whole ≡ None) where
  abbrev size : ℕ
  size = share_size (kiosk_head whole)

  head_cut : Passes (46 ≤ n) (AtCut line n (missing size)) (head_fault line mark order (take n whole))
  unfolding missing
  head_cut =
      let each = head_each line mark order whole (line_each line mark order whole none).0 in
      head_passes line mark order (take n whole) n (AtCut line n (missing size))
      (byte_cut line n whole (missing size) 0 107 WrongLetter (omega arith) refl each.0)
      (field_cut line n whole (missing size) 1 10 (mark_bounds mark) (omega arith) refl (λ k from below. grind (arith, nat_tests)) each.1.0)
      (field_cut line n whole (missing size) 10 19 tour_bounds (omega arith) refl (λ k from below. grind (arith, nat_tests)) each.1.1.0)
      (field_cut line n whole (missing size) 19 28 degree_bounds (omega arith) refl (λ k from below. grind (arith, nat_tests)) each.1.1.1.0)
      (field_cut line n whole (missing size) 28 37 lanes_bounds (omega arith) refl (λ k from below. grind (arith, nat_tests)) each.1.1.1.1.0)
      (field_cut line n whole (missing size) 37 46 (number_bounds order) (omega arith) refl (λ k from below. grind (arith, nat_tests)) each.1.1.1.1.1.0)

  -- the cut is behind the numbers, so they are read as in the whole text
  head_same : 46 ≤ n → kiosk_head (take n whole) ≡ kiosk_head whole
  head_same l =
      simp (number_cut n whole 2 (omega arith), number_cut n whole 11 (omega arith), number_cut n whole 20 (omega arith), number_cut n whole 29 (omega arith), number_cut n whole 38 (omega arith))

  length_most : length whole ≤ 48 + 8 * size
  length_most =
      let end : drop (48 + 8 * size) whole ≡ [] = end_stands line (48 + 8 * size) whole (line_each line mark order whole none).1.1.1.1.0 in
      omega (arith, length-drop (48 + 8 * size) whole, ap length end)

  line_cut : n < length whole → Passes ⊥ (AtCut line n (missing size)) (kiosk_fault line mark order (take n whole))
  unfolding kiosk_fault missing
  line_cut short =
      let each = line_each line mark order whole none in
      let text = take n whole in
      passes (head_fault line mark order text) _ head_cut
      (λ at_46. passes (tab_check line mark order text) _ (byte_cut line n whole (missing size) 46 9 NoTab (omega arith) refl each.1.0 at_46)
      (λ at_47.
      subst (λ s. Passes ⊥ (AtCut line n (missing size)) (first (codes_fault line text 47 s order ∷ byte_fault line text (47 + 8 * s) 10 NoLineFeed ∷ end_fault line text (48 + 8 * s) ∷ [])))
      (sym (ap share_size (head_same at_46)))
      (passes (codes_fault line text 47 size order) _ (codes_cut line n whole (missing size) 47 size order (λ k from below. grind (arith, nat_tests)) each.1.1.0 at_47)
      (λ at_feed. passes (byte_fault line text (47 + 8 * size) 10 NoLineFeed) _ (byte_cut line n whole (missing size) (47 + 8 * size) 10 NoLineFeed (omega arith) (grind (arith, nat_tests)) each.1.1.1.0 at_feed)
      (λ at_end. absurd (omega (arith, length_most)))))))

-- a fault must be found, and it is this one
found_is : {X : Type 0} (o : Option X) (x : X) → Passes ⊥ (λ y. y ≡ x) o → o ≡ Some x
found_is None x passed = absurd passed.by
found_is (Some y) x passed = ap Some passed.by

pub cut_short : (line mark order : ℕ) (text : List ℕ) (answer : Result Read LineFault) → mark < 2 ^ 32 → answer ≡ reading line mark order text → CutShort line mark order text answer
cut_short line mark order text answer mark_fits e head codes n order_fits form short is =
    let whole = kiosk_line head codes in
    let back = (reads_back head codes (omega (arith, form.mark_is)) line mark order order_fits form).0 in
    let fine = no_fault _ _ _ (sym back) in
    let read = was_read _ _ _ (sym back) in
    let found : kiosk_fault line mark order (take n whole) ≡ Some (fault line n (missing (share_size (kiosk_head whole)) n)) = found_is (kiosk_fault line mark order (take n whole)) (fault line n (missing (share_size (kiosk_head whole)) n)) (line_cut line mark order n whole fine short) in
    let head_is : head ≡ kiosk_head whole = ap (λ (r : Read). r.head) read in
    e ∙ rw (is, found) (ap (λ h. Err (fault line n (missing (share_size h) n))) (sym head_is))
