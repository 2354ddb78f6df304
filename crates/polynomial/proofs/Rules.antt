-- What is evaluated by a rule for the coefficients, where it is known which numbers the rule reads.
use Rattle.std.proofs.Common.{◌≡◌, ℕ, zero, suc, ◌+◌, ◌-◌, ◌<◌, cond, ltb, List, ◌∷◌, map, length, get_or, Some, None, Option, slice_get, sym, refl, ap, subst, ◌∙◌, arith}
use Rattle.std.specs.Option.{option_map}
use Rattle.std.proofs.ByRecursion.{All-from_get_or}
use Rattle.std.proofs.lemmas.Bool.Decides.{nat_tests}
use Rattle.std.proofs.lemmas.List.{ext_get_or, length-map}
use Rattle.std.proofs.lemmas.List.Folds.{list_all_at}
use Rattle.std.proofs.lemmas.Option.{slice_get-map, slice_get-get_or}
use Rattle.field.specs.Arith.{Arith}
use Rattle.polynomial.specs.Polynomial.{evaluation, are_codes, Evaluates}
use Rattle.polynomial.proofs.Reading.{Read, codes_decided}

-- the coefficients from one power further down
pub answered_more : {E : Type 0} (answers : ℕ → Option E → Type 0) (power n : ℕ) (c : E) (higher : List E) → 0 < power → answers (power - 1) (Some c) →
    ((i : ℕ) → i < n → answers (i + power) (slice_get higher i)) → (i : ℕ) → i < n + 1 → answers (i + (power - 1)) (slice_get (c ∷ higher) i)
answered_more answers power n c higher some first so_far zero below = subst (λ k. answers k (Some c)) (omega arith) first
answered_more answers power n c higher some first so_far (suc i) below = subst (λ k. answers k (slice_get higher i)) (omega arith) (so_far i (omega arith))

-- what comes of a rule comes of a weaker one too, which says less of the answers for the powers below the count
pub weaker_rule : (A : Arith) {E : Type 0} (code : E → ℕ) {answers weaker : ℕ → Option E → Type 0} {count : ℕ} (x : ℕ) (o : Option E) →
    ((power : ℕ) (answer : Option E) → power < count → answers power answer → weaker power answer) → Evaluates A code answers count x o → Evaluates A code weaker count x o
unfolding Evaluates
weaker_rule A code x None less (power, below, none) = (power, below, less power None below none)
weaker_rule A code x (Some value) less by =
    record {
      coefficients = by.coefficients;
      long = by.long;
      answered = λ power below. less power (slice_get by.coefficients power) below (by.answered power below);
      is_value = by.is_value;
    }

module _ (A : Arith) {E : Type 0} (code : E → ℕ) (answers : ℕ → Option E → Type 0) (count : ℕ) (numbers : List ℕ) where
  -- What is answered at an index below the count is the element that has the number there for its code, or none where that number is no code.
  pub record Answers : Type 0 where
    pub long : length numbers ≡ count
    pub each : (i : ℕ) (o : Option E) → i < count → answers i o → Read A (get_or numbers i 0) (option_map code o)

  -- a number that is read is the code that is read
  read_code : (n c : ℕ) → Read A n (Some c) → (n ≡ c) × (n < A.order)
  read_code n c read = (grind (arith, nat_tests), grind (arith, nat_tests))

  pub by_numbers : (x : ℕ) (o : Option E) →
      Evaluates A code answers count x o → Answers →
      option_map code o ≡ cond (are_codes A numbers) (Some (evaluation A numbers x)) None
  unfolding Evaluates
  by_numbers x None (i, below, none) known =
      let read = known.each i None below none in
      rw (list_all_at (λ n. ltb n A.order) numbers i 0 (omega (arith, known.long)) (grind (arith, nat_tests))) refl
  by_numbers x (Some value) e known =
      let codes = map code e.coefficients in
      let read : (i : ℕ) → i < count → (get_or numbers i 0 ≡ get_or codes i 0) × (get_or numbers i 0 < A.order) = λ i below.
      read_code (get_or numbers i 0) (get_or codes i 0)
      (rw (sym (slice_get-get_or codes i 0 (omega (arith, length-map e.coefficients code, e.long))) ∙ slice_get-map code e.coefficients i) (known.each i (slice_get e.coefficients i) below (e.answered i below))) in
      let same : numbers ≡ codes = ext_get_or 0 numbers codes (omega (arith, length-map e.coefficients code, e.long, known.long)) (λ i below. (read i (omega (arith, known.long))).0) in
      let all = (codes_decided A numbers).1 (All-from_get_or (λ n. n < A.order) numbers 0 (λ i below. (read i (omega (arith, known.long))).1)) in
      rw all (ap Some (e.is_value ∙ ap (λ cs. evaluation A cs x) (sym same)))
