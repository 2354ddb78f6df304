-- The kiosk line: its bytes, and its checks taken together.
use Rattle.std.proofs.Common.{◌≡◌, ℕ, ◌+◌, ◌*◌, ◌^◌, List, [], ◌∷◌, ◌++◌, length, drop, None, Option, ap, ◌∙◌, arith}
use Rattle.std.specs.List.{AllByRecursion, flat_map}
use Rattle.line.specs.declared.refusal.Cause.TheVariants.{WrongLetter, NoTab, NoLineFeed, OutOfRange, OtherMark}
use Rattle.line.specs.declared.refusal.LineFault.{LineFault}
use Rattle.std.proofs.lemmas.List.{append_assoc, length-append}
use Rattle.line.specs.declared.steps.Bounds.{Bounds}
use Rattle.line.specs.declared.kiosk_line.KioskHead.{KioskHead}
use Rattle.line.specs.Digits.{eight}
use Rattle.line.specs.Steps.{byte_fault, field_fault, codes_fault, end_fault}
use Rattle.line.specs.KioskLine.{share_size, kiosk_front, kiosk_line, kiosk_head, head_fault, kiosk_fault, line_length}
use Rattle.line.proofs.Checks.{all_none}
use Rattle.line.proofs.Numbers.{length_eight}
use Rattle.line.proofs.Written.{Front, length_codes}

-- the bytes before the codes, with what stands behind them
pub front_then : (head : KioskHead) (rest : List ℕ) → kiosk_front head ++ rest ≡ 107 ∷ 9 ∷ (eight head.mark ++ (9 ∷ (eight head.tour ++ (9 ∷ (eight head.degree ++ (9 ∷ (eight head.lanes ++ (9 ∷ (eight head.number.0 ++ (9 ∷ rest))))))))))
unfolding kiosk_front
front_then head rest = simp append_assoc

pub length_front : (head : KioskHead) → length (kiosk_front head) ≡ 47
unfolding kiosk_front
length_front head =
    simp length-append
    (omega (arith, length_eight head.mark, length_eight head.tour, length_eight head.degree, length_eight head.lanes, length_eight head.number.0))

pub length_line : (head : KioskHead) (codes : List ℕ) → length (kiosk_line head codes) ≡ line_length codes
unfolding kiosk_line
length_line head codes =
    length-append (kiosk_front head) (flat_map eight codes ++ (10 ∷ []))
    ∙ omega (arith, length_front head, length-append (flat_map eight codes) (10 ∷ []), length_codes codes)

-- a buffer into which the front, the codes and a line feed were written holds the line
pub line_holds : (head : KioskHead) (codes was after : List ℕ) → Front ((kiosk_front head ++ flat_map eight codes) ++ (10 ∷ [])) (47 + 8 * length codes + 1) was after → after ≡ kiosk_line head codes ++ drop (line_length codes) was
unfolding kiosk_line
line_holds head codes was after front =
    let end : 47 + 8 * length codes + 1 ≡ line_length codes = omega arith in
    front.holds
    ∙ ap (λ bs. bs ++ drop (47 + 8 * length codes + 1) was) (append_assoc (kiosk_front head) (flat_map eight codes) (10 ∷ []))
    ∙ ap (λ n. kiosk_line head codes ++ drop n was) end

-- The ranges of the numbers

abbrev pub mark_bounds : ℕ → Bounds
mark_bounds mark = record { least = mark; below = mark + 1; cause = OtherMark }

abbrev pub tour_bounds : Bounds
tour_bounds = record { least = 1; below = 2 ^ 32; cause = OutOfRange }

abbrev pub degree_bounds : Bounds
degree_bounds = record { least = 1; below = 10; cause = OutOfRange }

abbrev pub lanes_bounds : Bounds
lanes_bounds = record { least = 1; below = 17; cause = OutOfRange }

abbrev pub number_bounds : ℕ → Bounds
number_bounds order = record { least = 1; below = order; cause = OutOfRange }

-- The checks of a kiosk line, one by one
module _ (line mark order : ℕ) (text : List ℕ) where
  abbrev pub letter_check : Option LineFault
  letter_check = byte_fault line text 0 107 WrongLetter

  abbrev pub mark_check : Option LineFault
  mark_check = field_fault line text 1 (mark_bounds mark)

  abbrev pub tour_check : Option LineFault
  tour_check = field_fault line text 10 tour_bounds

  abbrev pub degree_check : Option LineFault
  degree_check = field_fault line text 19 degree_bounds

  abbrev pub lanes_check : Option LineFault
  lanes_check = field_fault line text 28 lanes_bounds

  abbrev pub number_check : Option LineFault
  number_check = field_fault line text 37 (number_bounds order)

  abbrev pub head_checks : List (Option LineFault)
  head_checks = letter_check ∷ mark_check ∷ tour_check ∷ degree_check ∷ lanes_check ∷ number_check ∷ []

  pub head_each : head_fault line mark order text ≡ None → AllByRecursion (λ c. c ≡ None) head_checks
  unfolding head_fault
  head_each e = all_none head_checks e

  abbrev pub tab_check : Option LineFault
  tab_check = byte_fault line text 46 9 NoTab

  abbrev pub codes_check : Option LineFault
  codes_check = codes_fault line text 47 (share_size (kiosk_head text)) order

  abbrev pub line_feed_check : Option LineFault
  line_feed_check = byte_fault line text (47 + 8 * share_size (kiosk_head text)) 10 NoLineFeed

  abbrev pub end_check : Option LineFault
  end_check = end_fault line text (48 + 8 * share_size (kiosk_head text))

  abbrev pub line_checks : List (Option LineFault)
  line_checks = head_fault line mark order text ∷ tab_check ∷ codes_check ∷ line_feed_check ∷ end_check ∷ []

  pub line_each : kiosk_fault line mark order text ≡ None → AllByRecursion (λ c. c ≡ None) line_checks
  unfolding kiosk_fault
  line_each e = all_none line_checks e
