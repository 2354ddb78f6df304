-- Through different points goes one polynomial, and the Lagrange sum on codes gives its values.
use Rattle.std.proofs.Common.{◌≡◌, ℕ, ◌<◌, cond, eqb, List, map, length, get_or, Option, unwrap_or, sym, refl, ap, ◌∙◌, subst, ⊎_elim, arith}
use Rattle.std.specs.List.{range_with_len, swap}
use Rattle.std.specs.List.Sorted.{IsPermutation}
use Rattle.std.proofs.lemmas.List.FromFn.{length-map-range_with_len}
use Rattle.std.proofs.ByRecursion.{All-get_or, All-from_get_or}
use Rattle.std.proofs.lemmas.List.Edits.{length-swap, swapped_from_swap}
use Rattle.std.proofs.lemmas.List.{ext_get_or, get_or-map, length-map}
use Rattle.std.proofs.lemmas.List.Sorted.{IsPermutation-keeps}
use Rattle.std.proofs.lemmas.Bool.{cases_eq, ne_eqb, eq-eqb, cond-true, cond-false, cond_both}
use Rattle.std.proofs.lemmas.Bool.Decides.{nat_tests}
use Rattle.field.specs.Arith.{Arith, Laws}
use Rattle.field.proofs.Codes.{Code, codes, codes_field, same_code}
use Rattle.field.proofs.Ring.{Ring, equal, neg_zero, add_zero}
use Rattle.polynomial.specs.Interpolation.{difference, quotient, factor, weight, weights, weighted, interpolation}
use Rattle.polynomial.specs.Polynomial.{sum_over, product_over, evaluation, Codes}
use Rattle.polynomial.specs.Theorems.{Through, Points, Interpolates}
use Rattle.polynomial.proofs.Carried.{counted_codes, evaluation_is}
use Rattle.polynomial.proofs.Coefficients.{evaluation_counting}
use Rattle.polynomial.proofs.Determined.{apart}
use Rattle.polynomial.proofs.Evaluation.{code_at, code_below, sums_code, products_code, value_code, sum_over_same, product_over_same}
use Rattle.polynomial.proofs.Roots.{Apart, same_coefficients}
use Rattle.polynomial.proofs.Sums.{value_at}
use Rattle.polynomial.proofs.Through.{minus, Factors, lagrange, through, through_meets, lagrange_value}
use Rattle.polynomial.proofs.Through as elements

module _ (A : Arith) (L : Laws A) where
  abbrev R : Ring (Code A)
  R = codes A L

  -- the inverse of a code, and zero for zero
  inverse_below : (x : ℕ) → x < A.order → unwrap_or (A.inverse x) 0 < A.order
  inverse_below x h =
      ⊎_elim
      (λ zero_is. subst (λ (o : Option ℕ). unwrap_or o 0 < A.order) (sym (ap A.inverse zero_is ∙ L.inverse_zero)) (omega (arith, L.order_least)))
      (λ nonzero.
      let (y, found, below, unit) = L.inverse_else x h nonzero in
      subst (λ (o : Option ℕ). unwrap_or o 0 < A.order) (sym found) below)
      (cases_eq x 0)

  abbrev inverse_or_zero : Code A → Code A
  inverse_or_zero x = (unwrap_or (A.inverse x.0) 0, inverse_below x.0 x.1)

  -- what the point r puts into the weight of the point s
  abbrev factor_element : Code A → Code A → Code A → Code A
  factor_element s x r = (
    factor A s.0 x.0 r.0,
    cond_both (eqb r.0 s.0) 1 (R.mul (minus R r x) (inverse_or_zero (minus R r s))).0 (λ c. c < A.order)
        (λ e. omega (arith, L.order_least))
        (λ e. (R.mul (minus R r x) (inverse_or_zero (minus R r s))).1),
  )

  factors : Factors R factor_element
  factors = record {
    own = λ s x. same_code A _ _ (cond-true (eqb s.0 s.0) 1 (R.mul (minus R s x) (inverse_or_zero (minus R s s))).0 (eq-eqb s.0 s.0 refl));
    other = λ s r differ. (
      inverse_or_zero (minus R r s),
      (λ x. same_code A _ _ (cond-false (eqb r.0 s.0) 1 (R.mul (minus R r x) (inverse_or_zero (minus R r s))).0 (ne_eqb r.0 s.0 (λ e. differ (same_code A r s e))))),
      same_code A _ _
          (let (y, found, below, unit) = L.inverse_else (minus R r s).0 (minus R r s).1 (λ e. differ (equal R r s (same_code A _ _ e))) in
          ap (λ (o : Option ℕ). A.product (minus R r s).0 (unwrap_or o 0)) found ∙ unit),
    );
  }

  module _ (points : List ℕ) (below : Codes A points) where
    abbrev p : ℕ → Code A
    p = code_at A L points below

    abbrev n : ℕ
    n = length points

    weight_is : (s x : Code A) → weight A points s.0 x.0 ≡ (elements.weight (codes_field A L) factor_element factors n p s x).0
    unfolding weight
    weight_is s x = sym (products_code A L n (λ j. factor_element s x (p j)))

    interpolation_is : (values : List ℕ) (values_below : Codes A values) (x : Code A) →
        interpolation A points values x.0 ≡ (lagrange (codes_field A L) factor_element factors n p (code_at A L values values_below) x).0
    unfolding weighted
    interpolation_is values values_below x =
        let y = code_at A L values values_below in
        let one = λ (s : ℕ). weight A points s x.0 in
        ap (λ k. sum_over A k (λ i. A.product (get_or values i 0) (get_or (weights A points x.0) i 0))) (length-map points one)
        ∙ sum_over_same A n (λ i. A.product (get_or values i 0) (get_or (weights A points x.0) i 0)) (λ i. (R.mul (y i) (elements.weight (codes_field A L) factor_element factors n p (p i) x)).0)
        (λ i h. ap (A.product (get_or values i 0)) (get_or-map one points i 0 0 h ∙ weight_is (p i) x))
        ∙ sym (sums_code A L n (λ i. R.mul (y i) (elements.weight (codes_field A L) factor_element factors n p (p i) x)))

  -- the value of a polynomial whose coefficients are made from a function of the index
  pub evaluation_counted : (n : ℕ) (c : ℕ → Code A) (x : Code A) → evaluation A (map (λ j. (c j).0) (range_with_len 0 n)) x.0 ≡ (value_at R n c x).0
  evaluation_counted n c x = sym (evaluation_counting A (λ j. (c j).0) n x.0) ∙ sym (value_code A L n c x)

  module _ (points values : List ℕ) (P : Points A points values) where
    abbrev px : ℕ → Code A
    px = code_at A L points P.point_codes

    abbrev py : ℕ → Code A
    py = code_at A L values P.value_codes

    abbrev count : ℕ
    count = length points

    px_apart : Apart count px
    px_apart = apart A L points P.point_codes P.different

    -- a polynomial through the points has their values
    meets_at : (coefficients : List ℕ) (T : Through A points values coefficients) (i : ℕ) → i < count → value_at R count (code_at A L coefficients T.codes) (px i) ≡ py i
    meets_at coefficients T i h =
        same_code A _ _
        (ap (λ k. (value_at R k (code_at A L coefficients T.codes) (px i)).0) (sym T.count)
        ∙ sym (evaluation_is A L coefficients T.codes (px i))
        ∙ sym (get_or-map (evaluation A coefficients) points i 0 0 h)
        ∙ ap (λ xs. get_or xs i 0) T.meets)

    pub one_through : (coefficients : List ℕ) × Through A points values coefficients
    one_through =
        let c = through (codes_field A L) factor_element factors count px py in
        let cs = map (λ j. (c j).0) (range_with_len 0 count) in (
          cs,
          record {
            count = length-map-range_with_len (λ j. (c j).0) 0 count;
            codes = counted_codes A L count c;
            meets = ext_get_or 0 (map (evaluation A cs) points) values (length-map points (evaluation A cs) ∙ sym P.count)
                (λ i h.
                let inside : i < count = omega (arith, length-map points (evaluation A cs)) in
                get_or-map (evaluation A cs) points i 0 0 inside
                ∙ evaluation_counted count c (px i)
                ∙ ap (λ (d : Code A). d.0) (through_meets (codes_field A L) factor_element factors count px py px_apart i inside));
          },
        )

    only_one : (first second : List ℕ) → Through A points values first → Through A points values second → first ≡ second
    only_one first second T₁ T₂ =
        ext_get_or 0 first second (T₁.count ∙ sym T₂.count)
        (λ j h.
        ap (λ (d : Code A). d.0)
        (same_coefficients (codes_field A L) count (code_at A L first T₁.codes) (code_at A L second T₂.codes) px px_apart
        (λ i k. meets_at first T₁ i k ∙ sym (meets_at second T₂ i k))
        j (omega (arith, T₁.count))))

    pub value_through : (coefficients : List ℕ) (x : ℕ) → Through A points values coefficients → x < A.order → interpolation A points values x ≡ evaluation A coefficients x
    value_through coefficients x T x_below =
        let c = code_at A L coefficients T.codes in
        let at : Code A = (x, x_below) in
        interpolation_is points P.point_codes values P.value_codes at
        ∙ ap (λ (d : Code A). d.0) (lagrange_value (codes_field A L) factor_element factors count px py c px_apart (meets_at coefficients T) at)
        ∙ ap (λ k. (value_at R k c at).0) (sym T.count)
        ∙ sym (evaluation_is A L coefficients T.codes at)

  -- r - 0 is r
  difference_zero : (r : ℕ) → r < A.order → difference A r 0 ≡ r
  difference_zero r h = ap (λ (d : Code A). d.0) (ap (R.add (r, h)) (neg_zero R) ∙ add_zero R (r, h))

  weight_at_zero : (points : List ℕ) (s : ℕ) → Codes A points →
      weight A points s 0 ≡ product_over A (length points) (λ i. let r = get_or points i 0 in cond (eqb r s) 1 (quotient A r (difference A r s)))
  unfolding weight
  weight_at_zero points s below =
      product_over_same A (length points) (λ i. factor A s 0 (get_or points i 0)) (λ i. cond (eqb (get_or points i 0) s) 1 (quotient A (get_or points i 0) (difference A (get_or points i 0) s)))
      (λ i h.
      let r = get_or points i 0 in
      ap (λ w. cond (eqb r s) 1 (quotient A w (difference A r s))) (difference_zero r (code_below A L points below i)))

-- where the element that stands at i after an exchange of a and b stood before it
abbrev before : ℕ → ℕ → ℕ → ℕ
before a b i = cond (eqb i b) a (cond (eqb i a) b i)

before_apart : (a b i j : ℕ) → before a b i ≡ before a b j → i ≡ j
before_apart a b i j e = grind (arith, nat_tests)

before_within : (a b i n : ℕ) → a < n → b < n → i < n → before a b i < n
before_within a b i n h k l = grind (arith, nat_tests)

exchanged_at : {X : Type 0} (xs : List X) (a b i : ℕ) (d : X) → a < length xs → b < length xs → get_or (swap xs a b) i d ≡ get_or xs (before a b i) d
exchanged_at xs a b i d h k =
    let (at_a, at_b, apart) = swapped_from_swap xs (swap xs a b) a b d h k refl in
    grind (arith, nat_tests)

abbrev firsts : List (ℕ × ℕ) → List ℕ
firsts ps = map (λ p. p.0) ps

abbrev seconds : List (ℕ × ℕ) → List ℕ
seconds ps = map (λ p. p.1) ps

abbrev pair_at : List (ℕ × ℕ) → ℕ → ℕ × ℕ
pair_at ps i = get_or ps i (0, 0)

module _ (A : Arith) (L : Laws A) where
  -- different points of a polynomial, place by place
  record On (coefficients : List ℕ) (ps : List (ℕ × ℕ)) : Type 0 where
    count : length coefficients ≡ length ps
    each : (i : ℕ) → i < length ps → ((pair_at ps i).0 < A.order) × ((pair_at ps i).1 < A.order) × (evaluation A coefficients (pair_at ps i).0 ≡ (pair_at ps i).1)
    different : (i j : ℕ) → i < length ps → j < length ps → (pair_at ps i).0 ≡ (pair_at ps j).0 → i ≡ j

  on_exchanged : (coefficients : List ℕ) (ps : List (ℕ × ℕ)) (a b : ℕ) → a < length ps → b < length ps → On coefficients ps → On coefficients (swap ps a b)
  on_exchanged coefficients ps a b h k on =
      let long = length-swap ps a b in
      let was = λ (i : ℕ). exchanged_at ps a b i (0, 0) h k in
      let inside = λ (i : ℕ) (l : i < length (swap ps a b)). before_within a b i (length ps) h k (omega arith) in
      record {
        count = on.count ∙ sym long;
        each = λ i l.
            subst (λ (p : ℕ × ℕ). (p.0 < A.order) × (p.1 < A.order) × (evaluation A coefficients p.0 ≡ p.1)) (sym (was i))
            (on.each (before a b i) (inside i l));
        different = λ i j l m e.
            before_apart a b i j
            (on.different (before a b i) (before a b j) (inside i l) (inside j m) (ap (λ (p : ℕ × ℕ). p.0) (sym (was i)) ∙ e ∙ ap (λ (p : ℕ × ℕ). p.0) (was j)));
      }

  first_at : (ps : List (ℕ × ℕ)) (i : ℕ) → i < length ps → get_or (firsts ps) i 0 ≡ (pair_at ps i).0
  first_at ps i h = get_or-map (λ (p : ℕ × ℕ). p.0) ps i (0, 0) 0 h

  second_at : (ps : List (ℕ × ℕ)) (i : ℕ) → i < length ps → get_or (seconds ps) i 0 ≡ (pair_at ps i).1
  second_at ps i h = get_or-map (λ (p : ℕ × ℕ). p.1) ps i (0, 0) 0 h

  to_on : (coefficients : List ℕ) (ps : List (ℕ × ℕ)) → Points A (firsts ps) (seconds ps) → Through A (firsts ps) (seconds ps) coefficients → On coefficients ps
  to_on coefficients ps P T =
      let long = length-map ps (λ (p : ℕ × ℕ). p.0) in
      let long₂ = length-map ps (λ (p : ℕ × ℕ). p.1) in
      record {
        count = T.count ∙ long;
        each = λ i h. (
          subst (λ c. c < A.order) (first_at ps i h) (All-get_or (λ c. c < A.order) (firsts ps) i 0 (omega arith) P.point_codes),
          subst (λ c. c < A.order) (second_at ps i h) (All-get_or (λ c. c < A.order) (seconds ps) i 0 (omega arith) P.value_codes),
          ap (evaluation A coefficients) (sym (first_at ps i h))
              ∙ sym (get_or-map (evaluation A coefficients) (firsts ps) i 0 0 (omega arith))
              ∙ ap (λ xs. get_or xs i 0) T.meets
              ∙ second_at ps i h,
        );
        different = λ i j h k e. P.different i j (omega arith) (omega arith) (first_at ps i h ∙ e ∙ sym (first_at ps j k));
      }

  on_points : (coefficients : List ℕ) (ps : List (ℕ × ℕ)) → On coefficients ps → Points A (firsts ps) (seconds ps)
  on_points coefficients ps on =
      let long = length-map ps (λ (p : ℕ × ℕ). p.0) in
      let long₂ = length-map ps (λ (p : ℕ × ℕ). p.1) in
      record {
        different = λ i j h k e.
            on.different i j (omega arith) (omega arith) (sym (first_at ps i (omega arith)) ∙ e ∙ first_at ps j (omega arith));
        point_codes = All-from_get_or (λ c. c < A.order) (firsts ps) 0 (λ i h. subst (λ c. c < A.order) (sym (first_at ps i (omega arith))) (on.each i (omega arith)).0);
        value_codes = All-from_get_or (λ c. c < A.order) (seconds ps) 0 (λ i h. subst (λ c. c < A.order) (sym (second_at ps i (omega arith))) (on.each i (omega arith)).1);
        count = long₂ ∙ sym long;
      }

  on_through : (coefficients : List ℕ) (ps : List (ℕ × ℕ)) → Codes A coefficients → On coefficients ps → Through A (firsts ps) (seconds ps) coefficients
  on_through coefficients ps below on =
      let long = length-map ps (λ (p : ℕ × ℕ). p.0) in
      let long₂ = length-map ps (λ (p : ℕ × ℕ). p.1) in
      let values = map (evaluation A coefficients) (firsts ps) in
      let long₃ = length-map (firsts ps) (evaluation A coefficients) in
      record {
        count = on.count ∙ sym long;
        codes = below;
        meets = ext_get_or 0 values (seconds ps) (long₃ ∙ long ∙ sym long₂)
            (λ i h.
            let inside : i < length ps = omega arith in
            get_or-map (evaluation A coefficients) (firsts ps) i 0 0 (omega arith)
            ∙ ap (evaluation A coefficients) (first_at ps i inside)
            ∙ (on.each i inside).2
            ∙ sym (second_at ps i inside));
      }

  -- the polynomial through the points goes through them in any order
  in_any_order : (first second : List (ℕ × ℕ)) (x : ℕ) → IsPermutation first second → Points A (firsts first) (seconds first) → x < A.order →
      interpolation A (firsts first) (seconds first) x ≡ interpolation A (firsts second) (seconds second) x
  in_any_order first second x shuffled P x_below =
      let (coefficients, T) = one_through A L (firsts first) (seconds first) P in
      let on = IsPermutation-keeps first (On coefficients) (to_on coefficients first P T) (λ ps a b h k. on_exchanged coefficients ps a b h k) second shuffled in
      value_through A L (firsts first) (seconds first) P coefficients x T x_below
      ∙ sym (value_through A L (firsts second) (seconds second) (on_points coefficients second on) coefficients x (on_through coefficients second T.codes on) x_below)

  pub interpolates : Interpolates A
  interpolates = record {
    one = one_through A L;
    only = λ points values first second P T₁ T₂. only_one A L points values P first second T₁ T₂;
    value = λ points values coefficients x P T x_below. value_through A L points values P coefficients x T x_below;
    unordered = in_any_order;
    at_zero = weight_at_zero A L;
  }
