-- What stands in a text where a check finds no fault, and back: where it stands, the check finds none.
-- What stands from a place on is said by `drop`, so that the steps of a line join from left to right.
use Rattle.std.proofs.Common.{◌≡◌, ℕ, zero, suc, ◌+◌, ◌*◌, ◌/◌, ◌^◌, ◌<◌, ◌≤◌, List, [], ◌∷◌, ◌++◌, map, length, get_or, drop, Some, None, sym, refl, ap, ◌∙◌, subst, inl, inr, add-one, arith}
use Rattle.std.specs.List.{range_with_len, flat_map, AllByRecursion}
use Rattle.std.specs.Result.{result_ok}
use Rattle.std.proofs.lemmas.List.FromFn.{map-range_with_len_more, fill_by_all}
use Rattle.std.proofs.ByRecursion.{All-push, All-get_or}
use Rattle.std.proofs.lemmas.List.{append_assoc, append-nil, length-drop, get_or-drop, get_or_past, drop_more, drop_all, drop_at, drop-drop, flat_map_more}
use Rattle.std.proofs.lemmas.Option.{none-some}
use Rattle.std.proofs.lemmas.Bool.{cases_lt, cond_below}
use Rattle.std.proofs.lemmas.Bool.Decides.{nat_tests}
use Rattle.line.specs.declared.refusal.Cause.{Cause}
use Rattle.line.specs.declared.refusal.Cause.TheVariants.{NoTab}
use Rattle.line.specs.declared.steps.Bounds.{Bounds}
use Rattle.line.specs.Faults.{unless}
use Rattle.line.specs.Digits.{eight, number_at, digits_fault}
use Rattle.line.specs.Steps.{byte_fault, end_fault, bounds_fault, value_fault, field_fault, codes_fault, codes_in, Readable}
use Rattle.line.proofs.Checks.{either, all_none}
use Rattle.line.proofs.Numbers.{number_at_small, digits_stand, digits_read, number_read, length_eight}
use Rattle.line.proofs.StepLaws.{bounds_fault_none, value_fault_digits, value_fault_bounds, field_fault_value, code_bounds, code_fault, codes_fault_none, codes_fault_each}
use Rattle.line.proofs.Written.{length_codes}

-- One byte

byte_is : (line place byte : ℕ) (text : List ℕ) (cause : Cause) → byte_fault line text place byte cause ≡ None → get_or text place 0 ≡ byte
unfolding byte_fault
byte_is line place byte text cause e = grind (arith, nat_tests)

-- where a byte other than 0 was found, the text has not ended, and the byte stands
module _ (line place byte : ℕ) (text : List ℕ) (cause : Cause) (some : 0 < byte) (e : byte_fault line text place byte cause ≡ None) where
  pub byte_within : place < length text
  byte_within =
      elim (cases_lt place (length text)) [
        | inl within ↦ within
        | inr past ↦ absurd (omega (arith, byte_is line place byte text cause e, get_or_past text place 0 past))
      ]

  pub byte_stands : drop place text ≡ byte ∷ drop (place + 1) text
  byte_stands = drop_more text place 0 byte_within ∙ ap (λ b. b ∷ drop (place + 1) text) (byte_is line place byte text cause e)

module _ (place : ℕ) (text rest : List ℕ) where
  -- what stands behind k bytes
  pub behind : (k : ℕ) (bytes : List ℕ) → length bytes ≡ k → drop place text ≡ bytes ++ rest → drop (place + k) text ≡ rest
  behind k bytes long stands = sym (drop-drop k place text) ∙ ap (drop k) stands ∙ drop_at bytes rest k long

  pub byte_read : (line byte : ℕ) (cause : Cause) → drop place text ≡ byte ∷ rest → byte_fault line text place byte cause ≡ None
  unfolding byte_fault
  byte_read line byte cause stands =
      let same : place + 0 ≡ place = omega arith in
      let is : get_or text place 0 ≡ byte = ap (λ p. get_or text p 0) (sym same) ∙ sym (get_or-drop place text 0 0) ∙ ap (λ bs. get_or bs 0 0) stands in
      grind (arith, nat_tests)

-- The end

pub end_stands : (line place : ℕ) (text : List ℕ) → end_fault line text place ≡ None → drop place text ≡ []
unfolding end_fault
end_stands line place text e = drop_all place text (grind (arith, nat_tests))

pub end_read : (line place : ℕ) (text : List ℕ) → drop place text ≡ [] → end_fault line text place ≡ None
unfolding end_fault
end_read line place text stands =
    let past : length text ≤ place = omega (arith, length-drop place text, ap length stands) in grind (arith, nat_tests)

-- Eight digits of a value in its range

pub record InRange (n : ℕ) (bounds : Bounds) : Type 0 where
  pub fits : n < 2 ^ 32
  pub least : bounds.least ≤ n
  pub below : n < bounds.below

pub record Value (place n : ℕ) (text : List ℕ) (bounds : Bounds) : Type 0 where
  pub stands : drop place text ≡ eight n ++ drop (place + 8) text
  pub range : InRange n bounds

bounds_from : (line place n : ℕ) (bounds : Bounds) → bounds_fault line place bounds n ≡ None → (bounds.least ≤ n) × (n < bounds.below)
unfolding bounds_fault
bounds_from line place n bounds e = (grind (arith, nat_tests), grind (arith, nat_tests))

pub value_stands : (line place : ℕ) (text : List ℕ) (bounds : Bounds) → value_fault line text place bounds ≡ None → Value place (number_at text place) text bounds
value_stands line place text bounds e =
    elim (either (digits_fault line text place)) [
      | inl found ↦ absurd (none-some _ (sym e ∙ value_fault_digits line place text bounds found.0 found.1))
      | inr none ↦
          let range = bounds_from line place (number_at text place) bounds (sym (value_fault_bounds line place text bounds none) ∙ e) in
          record {
            stands = digits_stand line place text none;
            range = record { fits = number_at_small line place text none; least = range.0; below = range.1 };
          }
    ]

pub value_read : (line place n : ℕ) (text rest : List ℕ) (bounds : Bounds) → drop place text ≡ eight n ++ rest → InRange n bounds → value_fault line text place bounds ≡ None
value_read line place n text rest bounds stands range =
    value_fault_bounds line place text bounds (digits_read place n text rest stands line)
    ∙ ap (bounds_fault line place bounds) (number_read place n text rest stands range.fits)
    ∙ bounds_fault_none line place n bounds range.least range.below

-- A tab, then a value

pub record Field (place n : ℕ) (text : List ℕ) (bounds : Bounds) : Type 0 where
  pub stands : drop place text ≡ 9 ∷ (eight n ++ drop (place + 9) text)
  pub range : InRange n bounds

pub field_stands : (line place : ℕ) (text : List ℕ) (bounds : Bounds) → field_fault line text place bounds ≡ None → Field place (number_at text (place + 1)) text bounds
unfolding field_fault
field_stands line place text bounds e =
    let each = all_none (byte_fault line text place 9 NoTab ∷ value_fault line text (place + 1) bounds ∷ []) e in
    let value = value_stands line (place + 1) text bounds each.1.0 in
    let next : place + 1 + 8 ≡ place + 9 = omega arith in
    record {
      stands =
          byte_stands line place 9 text NoTab (omega arith) each.0
          ∙ ap (λ bs. 9 ∷ bs) (value.stands ∙ ap (λ p. eight (number_at text (place + 1)) ++ drop p text) next);
      range = value.range;
    }

module _ (place n : ℕ) (text rest : List ℕ) (stands : drop place text ≡ 9 ∷ (eight n ++ rest)) where
  digits_behind : drop (place + 1) text ≡ eight n ++ rest
  digits_behind = behind place text (eight n ++ rest) 1 (9 ∷ []) refl stands

  pub field_behind : drop (place + 9) text ≡ rest
  field_behind = behind place text rest 9 (9 ∷ eight n) (ap suc (length_eight n)) stands

  pub field_number : n < 2 ^ 32 → number_at text (place + 1) ≡ n
  field_number = number_read (place + 1) n text rest digits_behind

  pub field_read : (line : ℕ) (bounds : Bounds) → InRange n bounds → field_fault line text place bounds ≡ None
  field_read line bounds range =
      field_fault_value line place text bounds (byte_read place text (eight n ++ rest) line 9 NoTab stands)
      ∙ value_read line (place + 1) n text rest bounds digits_behind range

-- Codes

-- the codes that stand from a place on
abbrev pub codes_from : List ℕ → ℕ → ℕ → List ℕ
codes_from text place count = map (λ i. number_at text (place + 8 * i)) (range_with_len 0 count)

pub record Codes (place count order : ℕ) (text : List ℕ) : Type 0 where
  pub stand : drop place text ≡ flat_map eight (codes_from text place count) ++ drop (place + 8 * count) text
  pub fit : AllByRecursion (λ c. c < 2 ^ 32) (codes_from text place count)
  pub below : AllByRecursion (λ c. c < order) (codes_from text place count)

codes_stand_by : (line place order : ℕ) (text : List ℕ) (count : ℕ) → ((k : ℕ) → k < count → code_fault line place order text k ≡ None) → Codes place count order text
codes_stand_by line place order text zero each = let same : place + 8 * 0 ≡ place = omega arith in record {
  stand = ap (λ p. drop p text) (sym same);
  fit = tt;
  below = tt;
}
codes_stand_by line place order text (suc n) each =
    let before = codes_stand_by line place order text n (λ k l. each k (omega arith)) in
    let f : ℕ → ℕ = λ i. number_at text (place + 8 * i) in
    let value = value_stands line (place + 8 * n) text (code_bounds order) (each n (omega arith)) in
    let more : codes_from text place (suc n) ≡ codes_from text place n ++ (f n ∷ []) = rw (add-one n) at (map-range_with_len_more f 0 n n (omega arith)) in
    let end : place + 8 * n + 8 ≡ place + 8 * suc n = omega arith in
    record {
      stand =
          before.stand
          ∙ ap (λ bs. flat_map eight (codes_from text place n) ++ bs) value.stands
          ∙ sym (append_assoc (flat_map eight (codes_from text place n)) (eight (f n)) (drop (place + 8 * n + 8) text))
          ∙ ap (λ bs. bs ++ drop (place + 8 * n + 8) text) (flat_map_more eight [] (codes_from text place n) (f n))
          ∙ ap (λ cs. flat_map eight cs ++ drop (place + 8 * n + 8) text) (sym more)
          ∙ ap (λ p. flat_map eight (codes_from text place (suc n)) ++ drop p text) end;
      fit = subst (AllByRecursion (λ c. c < 2 ^ 32)) (sym more) (All-push (λ c. c < 2 ^ 32) (codes_from text place n) (f n) before.fit value.range.fits);
      below = subst (AllByRecursion (λ c. c < order)) (sym more) (All-push (λ c. c < order) (codes_from text place n) (f n) before.below value.range.below);
    }

pub codes_stand : (line place count order : ℕ) (text : List ℕ) → codes_fault line text place count order ≡ None → Codes place count order text
codes_stand line place count order text e = codes_stand_by line place order text count (codes_fault_each line place count order text e)

-- the code with this index begins behind those before it
code_begins : (codes rest : List ℕ) (k : ℕ) → k < length codes → drop (8 * k) (flat_map eight codes ++ rest) ≡ eight (get_or codes k 0) ++ (flat_map eight (drop (suc k) codes) ++ rest)
code_begins [] rest k l = absurd (omega arith)
code_begins (c ∷ codes) rest zero l = append_assoc (eight c) (flat_map eight codes) rest
code_begins (c ∷ codes) rest (suc k) l =
    let next : 8 * suc k ≡ 8 + 8 * k = omega arith in
    ap (λ n. drop n (flat_map eight (c ∷ codes) ++ rest)) next
    ∙ sym (drop-drop (8 * k) 8 (flat_map eight (c ∷ codes) ++ rest))
    ∙ ap (drop (8 * k)) (ap (drop 8) (append_assoc (eight c) (flat_map eight codes) rest) ∙ drop_at (eight c) (flat_map eight codes ++ rest) 8 (length_eight c))
    ∙ code_begins codes rest k (omega arith)

module _ (place : ℕ) (text codes rest : List ℕ) (stand : drop place text ≡ flat_map eight codes ++ rest) where
  code_stands : (k : ℕ) → k < length codes → drop (place + 8 * k) text ≡ eight (get_or codes k 0) ++ (flat_map eight (drop (suc k) codes) ++ rest)
  code_stands k l = sym (drop-drop (8 * k) place text) ∙ ap (drop (8 * k)) stand ∙ code_begins codes rest k l

  pub codes_behind : drop (place + 8 * length codes) text ≡ rest
  codes_behind = behind place text rest (8 * length codes) (flat_map eight codes) (length_codes codes) stand

  pub codes_read : (line order : ℕ) → AllByRecursion (λ c. c < 2 ^ 32) codes → AllByRecursion (λ c. c < order) codes → codes_fault line text place (length codes) order ≡ None
  codes_read line order fit below =
      codes_fault_none line place (length codes) order text
      (λ k l.
      value_read line (place + 8 * k) (get_or codes k 0) text (flat_map eight (drop (suc k) codes) ++ rest) (code_bounds order) (code_stands k l)
      (record { fits = All-get_or (λ c. c < 2 ^ 32) codes k 0 l fit; least = omega arith; below = All-get_or (λ c. c < order) codes k 0 l below }))

-- codes that are written are read again
pub codes_in_joined : (codes : List ℕ) → AllByRecursion (λ c. c < 2 ^ 32) codes → codes_in (flat_map eight codes) ≡ codes
unfolding codes_in
codes_in_joined codes fit =
    let part = flat_map eight codes in
    let f : ℕ → ℕ = λ i. number_at part (8 * i) in
    let count : length part / 8 ≡ length codes = omega (arith, length_codes codes) in
    ap (λ n. map f (range_with_len 0 n)) count
    ∙ sym (fill_by_all f codes (length codes) 0 refl
    (λ k l.
    sym (number_read (8 * k) (get_or codes k 0) part (flat_map eight (drop (suc k) codes) ++ [])
    (ap (drop (8 * k)) (sym (append-nil part)) ∙ code_begins codes [] k l)
    (All-get_or (λ c. c < 2 ^ 32) codes k 0 l fit))))

-- and each is read by its index
pub codes_readable : (codes : List ℕ) → AllByRecursion (λ c. c < 2 ^ 32) codes → Readable (flat_map eight codes)
codes_readable codes fit k l =
    let part = flat_map eight codes in
    let same = codes_in_joined codes fit in
    let inside : k < length codes = subst (λ cs. k < length cs) same l in
    let stands : drop (8 * k) part ≡ eight (get_or codes k 0) ++ (flat_map eight (drop (suc k) codes) ++ []) = ap (drop (8 * k)) (sym (append-nil part)) ∙ code_begins codes [] k inside in
    let rest = flat_map eight (drop (suc k) codes) ++ [] in
    sym (cond_below k (length part / 8) _ None (omega (arith, length_codes codes)))
    ∙ ap (λ fault. result_ok (unless fault (number_at part (8 * k)))) (digits_read (8 * k) (get_or codes k 0) part rest stands 1)
    ∙ ap Some (number_read (8 * k) (get_or codes k 0) part rest stands (All-get_or (λ c. c < 2 ^ 32) codes k 0 inside fit) ∙ ap (λ cs. get_or cs k 0) (sym same))
