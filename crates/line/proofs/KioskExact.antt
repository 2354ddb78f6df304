-- Whatever text is read as a kiosk line is the line written from what was read.
use Rattle.std.proofs.Common.{◌≡◌, ℕ, ◌+◌, ◌*◌, ◌<◌, ◌≤◌, List, [], ◌∷◌, ◌++◌, length, take, drop, None, sym, ap, ◌∙◌, subst, mul-le-mul, arith, IfOk, Ok, Err, Result}
use Rattle.std.specs.List.{flat_map, AllByRecursion}
use Rattle.std.proofs.lemmas.List.FromFn.{length-map-range_with_len}
use Rattle.std.proofs.lemmas.List.{take_at}
use Rattle.line.specs.declared.refusal.Cause.TheVariants.{WrongLetter, NoTab, NoLineFeed}
use Rattle.line.specs.declared.refusal.LineFault.{LineFault}
use Rattle.line.specs.declared.kiosk_line.KioskLine.{KioskLine}
use Rattle.line.proofs.Checks.{no_fault, was_read}
use Rattle.line.specs.Digits.{eight, number_at}
use Rattle.line.specs.Steps.{codes_in, Readable}
use Rattle.line.specs.KioskLine.{share_size, kiosk_front, kiosk_line, kiosk_head, head_fault, kiosk_fault, Read, reading, seen, Exact}
use Rattle.line.proofs.Written.{length_codes}
use Rattle.line.proofs.Standing.{Field, byte_stands, end_stands, field_stands, codes_from, codes_stand, codes_in_joined, codes_readable}
use Rattle.line.proofs.KioskLaws.{front_then, mark_bounds, tour_bounds, degree_bounds, lanes_bounds, number_bounds, head_each, line_each}

-- what stands where the checks up to the kiosk's number find no fault
pub record Head (mark order : ℕ) (text : List ℕ) : Type 0 where
  pub letter : text ≡ 107 ∷ drop 1 text
  pub own : Field 1 (number_at text 2) text (mark_bounds mark)
  pub tour : Field 10 (number_at text 11) text tour_bounds
  pub degree : Field 19 (number_at text 20) text degree_bounds
  pub lanes : Field 28 (number_at text 29) text lanes_bounds
  pub number : Field 37 (number_at text 38) text (number_bounds order)

pub head_stands : (line mark order : ℕ) (text : List ℕ) → head_fault line mark order text ≡ None → Head mark order text
head_stands line mark order text e =
    let each = head_each line mark order text e in
    record {
      letter = byte_stands line 0 107 text WrongLetter (omega arith) each.0;
      own = field_stands line 1 text (mark_bounds mark) each.1.0;
      tour = field_stands line 10 text tour_bounds each.1.1.0;
      degree = field_stands line 19 text degree_bounds each.1.1.1.0;
      lanes = field_stands line 28 text lanes_bounds each.1.1.1.1.0;
      number = field_stands line 37 text (number_bounds order) each.1.1.1.1.1.0;
    }

front_stands : (mark order : ℕ) (text : List ℕ) → Head mark order text → drop 46 text ≡ 9 ∷ drop 47 text → text ≡ kiosk_front (kiosk_head text) ++ drop 47 text
front_stands mark order text head tab =
    head.letter ∙ ap (λ bs. 107 ∷ bs)
    (head.own.stands ∙ ap (λ bs. 9 ∷ (eight (number_at text 2) ++ bs))
    (head.tour.stands ∙ ap (λ bs. 9 ∷ (eight (number_at text 11) ++ bs))
    (head.degree.stands ∙ ap (λ bs. 9 ∷ (eight (number_at text 20) ++ bs))
    (head.lanes.stands ∙ ap (λ bs. 9 ∷ (eight (number_at text 29) ++ bs))
    (head.number.stands ∙ ap (λ bs. 9 ∷ (eight (number_at text 38) ++ bs)) tab)))))
    ∙ sym (front_then (kiosk_head text) (drop 47 text))

-- so a line has few codes
pub size_most : (line mark order : ℕ) (text : List ℕ) → head_fault line mark order text ≡ None → share_size (kiosk_head text) ≤ 160
size_most line mark order text e =
    let head = head_stands line mark order text e in
    let rows : number_at text 29 ≤ 16 = omega (arith, head.lanes.range.below) in
    let each : number_at text 20 + 1 ≤ 10 = omega (arith, head.degree.range.below) in
    mul-le-mul rows each

pub exact : (line mark order : ℕ) (text : List ℕ) → kiosk_fault line mark order text ≡ None → Exact mark order text (kiosk_head text) (take (8 * share_size (kiosk_head text)) (drop 47 text))
unfolding kiosk_line
exact line mark order text e =
    let each = line_each line mark order text e in
    let size = share_size (kiosk_head text) in
    let head = head_stands line mark order text each.0 in
    let tab : drop 46 text ≡ 9 ∷ drop 47 text = byte_stands line 46 9 text NoTab (omega arith) each.1.0 in
    let found = codes_stand line 47 size order text each.1.1.0 in
    let codes = codes_from text 47 size in
    let feed : drop (47 + 8 * size) text ≡ 10 ∷ drop (47 + 8 * size + 1) text = byte_stands line (47 + 8 * size) 10 text NoLineFeed (omega arith) each.1.1.1.0 in
    let next : 47 + 8 * size + 1 ≡ 48 + 8 * size = omega arith in
    let end : drop (47 + 8 * size + 1) text ≡ [] = ap (λ p. drop p text) next ∙ end_stands line (48 + 8 * size) text each.1.1.1.1.0 in
    let count : length codes ≡ size = length-map-range_with_len (λ i. number_at text (47 + 8 * i)) 0 size in
    let part_is : take (8 * size) (drop 47 text) ≡ flat_map eight codes = ap (take (8 * size)) found.stand ∙ take_at (flat_map eight codes) (drop (47 + 8 * size) text) (8 * size) (length_codes codes ∙ ap (λ n. 8 * n) count) in
    let codes_are : codes_in (take (8 * size) (drop 47 text)) ≡ codes = ap codes_in part_is ∙ codes_in_joined codes found.fit in
    record {
      written =
          front_stands mark order text head tab
          ∙ ap (λ bs. kiosk_front (kiosk_head text) ++ bs) (found.stand ∙ ap (λ bs. flat_map eight codes ++ bs) (feed ∙ ap (λ bs. 10 ∷ bs) end))
          ∙ ap (kiosk_line (kiosk_head text)) (sym codes_are);
      in_form = record {
        mark_is = omega (arith, head.own.range.least, head.own.range.below);
        tour_least = head.tour.range.least;
        tour_fits = head.tour.range.fits;
        degree_least = head.degree.range.least;
        degree_most = omega (arith, head.degree.range.below);
        lanes_least = head.lanes.range.least;
        lanes_most = omega (arith, head.lanes.range.below);
        number_least = head.number.range.least;
        number_below = head.number.range.below;
        count = ap length codes_are ∙ count;
        codes_below = subst (AllByRecursion (λ c. c < order)) (sym codes_are) found.below;
      };
      readable = subst Readable (sym part_is) (codes_readable codes found.fit);
    }

-- so what a reader hands out is exact
pub exact_read : (line mark order : ℕ) (text : List ℕ) (r : Result KioskLine LineFault) → seen r ≡ reading line mark order text → IfOk r (λ l. Exact mark order text l.head l.codes.text.now)
exact_read line mark order text (Err f) e = tt
exact_read line mark order text (Ok l) e =
    subst (λ (r : Read). Exact mark order text r.head r.part) (sym (was_read _ _ _ e)) (exact line mark order text (no_fault _ _ _ e))
