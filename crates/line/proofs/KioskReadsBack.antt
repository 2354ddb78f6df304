-- Every kiosk line written, of numbers and codes in form, reads back as its numbers and codes.
use Rattle.std.proofs.Common.{◌≡◌, ℕ, ◌+◌, ◌*◌, ◌^◌, ◌<◌, ◌≤◌, List, [], ◌∷◌, ◌++◌, length, take, drop, None, sym, refl, ap, ◌∙◌, arith}
use Rattle.std.specs.List.{flat_map, AllByRecursion}
use Rattle.std.proofs.ByRecursion.{All-weaker}
use Rattle.std.proofs.lemmas.List.{take_at}
use Rattle.line.specs.declared.refusal.Cause.TheVariants.{WrongLetter, NoTab, NoLineFeed}
use Rattle.line.specs.declared.kiosk_line.KioskHead.{KioskHead}
use Rattle.line.specs.Digits.{eight}
use Rattle.line.specs.Steps.{codes_fault, byte_fault, end_fault}
use Rattle.line.specs.KioskLine.{share_size, InForm, kiosk_line, kiosk_head, head_fault, kiosk_fault, ReadsBack}
use Rattle.line.proofs.Checks.{first_all}
use Rattle.line.proofs.Written.{length_codes}
use Rattle.line.proofs.Standing.{InRange, behind, byte_read, end_read, field_behind, field_number, field_read, codes_behind, codes_read, codes_in_joined}
use Rattle.line.proofs.KioskLaws.{front_then, mark_bounds, tour_bounds, degree_bounds, lanes_bounds, number_bounds, head_checks, line_checks}

module _ (line mark order : ℕ) (head : KioskHead) (codes : List ℕ) (mark_fits : head.mark < 2 ^ 32) (order_fits : order ≤ 2 ^ 32) (form : InForm mark order head codes) where
  text : List ℕ
  text = kiosk_line head codes

  -- what stands behind the last number, and behind each number before it
  after_number : List ℕ
  after_number = 9 ∷ (flat_map eight codes ++ (10 ∷ []))

  after_lanes : List ℕ
  after_lanes = 9 ∷ (eight head.number.0 ++ after_number)

  after_degree : List ℕ
  after_degree = 9 ∷ (eight head.lanes ++ after_lanes)

  after_tour : List ℕ
  after_tour = 9 ∷ (eight head.degree ++ after_degree)

  after_mark : List ℕ
  after_mark = 9 ∷ (eight head.tour ++ after_tour)

  after_letter : List ℕ
  after_letter = 9 ∷ (eight head.mark ++ after_mark)

  at_0 : drop 0 text ≡ 107 ∷ after_letter
  unfolding text after_letter after_mark after_tour after_degree after_lanes after_number kiosk_line
  at_0 = front_then head (flat_map eight codes ++ (10 ∷ []))

  at_1 : drop 1 text ≡ 9 ∷ (eight head.mark ++ after_mark)
  unfolding after_letter
  at_1 = behind 0 text after_letter 1 (107 ∷ []) refl at_0

  at_10 : drop 10 text ≡ 9 ∷ (eight head.tour ++ after_tour)
  unfolding after_mark
  at_10 = field_behind 1 head.mark text after_mark at_1

  at_19 : drop 19 text ≡ 9 ∷ (eight head.degree ++ after_degree)
  unfolding after_tour
  at_19 = field_behind 10 head.tour text after_tour at_10

  at_28 : drop 28 text ≡ 9 ∷ (eight head.lanes ++ after_lanes)
  unfolding after_degree
  at_28 = field_behind 19 head.degree text after_degree at_19

  at_37 : drop 37 text ≡ 9 ∷ (eight head.number.0 ++ after_number)
  unfolding after_lanes
  at_37 = field_behind 28 head.lanes text after_lanes at_28

  at_46 : drop 46 text ≡ 9 ∷ (flat_map eight codes ++ (10 ∷ []))
  unfolding after_number
  at_46 = field_behind 37 head.number.0 text after_number at_37

  at_47 : drop 47 text ≡ flat_map eight codes ++ (10 ∷ [])
  at_47 = behind 46 text (flat_map eight codes ++ (10 ∷ [])) 1 (9 ∷ []) refl at_46

  mark_range : InRange head.mark (mark_bounds mark)
  mark_range = record { fits = mark_fits; least = omega (arith, form.mark_is); below = omega (arith, form.mark_is) }

  tour_range : InRange head.tour tour_bounds
  tour_range = record { fits = form.tour_fits; least = form.tour_least; below = form.tour_fits }

  degree_range : InRange head.degree degree_bounds
  degree_range = record { fits = omega (arith, form.degree_most); least = form.degree_least; below = omega (arith, form.degree_most) }

  lanes_range : InRange head.lanes lanes_bounds
  lanes_range = record { fits = omega (arith, form.lanes_most); least = form.lanes_least; below = omega (arith, form.lanes_most) }

  number_range : InRange head.number.0 (number_bounds order)
  number_range = record { fits = omega (arith, form.number_below); least = form.number_least; below = form.number_below }

  codes_fit : AllByRecursion (λ c. c < 2 ^ 32) codes
  codes_fit = All-weaker (λ c. c < order) (λ c. c < 2 ^ 32) (λ c l. omega arith) codes form.codes_below

  head_is : kiosk_head text ≡ head
  head_is =
      simp (
        field_number 1 head.mark text after_mark at_1 mark_fits,
        field_number 10 head.tour text after_tour at_10 form.tour_fits,
        field_number 19 head.degree text after_degree at_19 degree_range.fits,
        field_number 28 head.lanes text after_lanes at_28 lanes_range.fits,
        field_number 37 head.number.0 text after_number at_37 number_range.fits,
      )

  size_is : share_size (kiosk_head text) ≡ length codes
  size_is = ap share_size head_is ∙ sym form.count

  head_read : head_fault line mark order text ≡ None
  unfolding head_fault
  head_read =
      first_all (head_checks line mark order text) (
        byte_read 0 text after_letter line 107 WrongLetter at_0,
        (
          field_read 1 head.mark text after_mark at_1 line (mark_bounds mark) mark_range,
          (
            field_read 10 head.tour text after_tour at_10 line tour_bounds tour_range,
            (
              field_read 19 head.degree text after_degree at_19 line degree_bounds degree_range,
              (
                field_read 28 head.lanes text after_lanes at_28 line lanes_bounds lanes_range,
                (
                  field_read 37 head.number.0 text after_number at_37 line (number_bounds order) number_range,
                  tt,
                ),
              ),
            ),
          ),
        ),
      )

  at_feed : drop (47 + 8 * length codes) text ≡ 10 ∷ []
  at_feed = codes_behind 47 text codes (10 ∷ []) at_47

  at_end : drop (48 + 8 * length codes) text ≡ []
  at_end =
      let next : 47 + 8 * length codes + 1 ≡ 48 + 8 * length codes = omega arith in
      ap (λ p. drop p text) (sym next) ∙ behind (47 + 8 * length codes) text [] 1 (10 ∷ []) refl at_feed

  line_read : kiosk_fault line mark order text ≡ None
  unfolding kiosk_fault
  line_read =
      first_all (line_checks line mark order text) (
        head_read,
        (
          byte_read 46 text (flat_map eight codes ++ (10 ∷ [])) line 9 NoTab at_46,
          (
            ap (λ n. codes_fault line text 47 n order) size_is ∙ codes_read 47 text codes (10 ∷ []) at_47 line order codes_fit form.codes_below,
            (
              ap (λ n. byte_fault line text (47 + 8 * n) 10 NoLineFeed) size_is ∙ byte_read (47 + 8 * length codes) text [] line 10 NoLineFeed at_feed,
              (
                ap (λ n. end_fault line text (48 + 8 * n)) size_is ∙ end_read line (48 + 8 * length codes) text at_end,
                tt,
              ),
            ),
          ),
        ),
      )

  part_is : take (8 * share_size (kiosk_head text)) (drop 47 text) ≡ flat_map eight codes
  part_is =
      ap (λ n. take (8 * n) (drop 47 text)) size_is ∙ ap (take (8 * length codes)) at_47
      ∙ take_at (flat_map eight codes) (10 ∷ []) (8 * length codes) (length_codes codes)

pub reads_back : (head : KioskHead) (codes : List ℕ) → head.mark < 2 ^ 32 → ReadsBack head codes (kiosk_line head codes)
unfolding text
reads_back head codes mark_fits line mark order order_fits form =
    let none = line_read line mark order head codes mark_fits order_fits form in
    let is = head_is line mark order head codes mark_fits order_fits form in
    let part = part_is line mark order head codes mark_fits order_fits form in (
      rw (none, part, is),
      codes_in_joined codes (codes_fit line mark order head codes mark_fits order_fits form),
    )
