use Rattle.std.proofs.Common.{◌≡◌, ℕ, List, ◌+◌, ◌*◌, ◌<◌, ◌≤◌, [], ◌∷◌, ◌++◌, map, reverse, length, get_or, take, drop, sym, ◌∙◌, rules, arith}
use Rattle.std.specs.List.{AllByRecursion, range_with_len}
use Rattle.std.proofs.ByRecursion.{All-from_get_or}
use Rattle.std.proofs.iter.Serving.{same_first}
use Rattle.std.proofs.lemmas.Fn.{fold_over}
use Rattle.std.proofs.lemmas.List.{reverse-append, reverse-reverse}
use Rattle.std.proofs.lemmas.List.FromFn.{fill_by_all}
use Rattle.std.proofs.lemmas.Nat.{row_fits}
use Rattle.field.specs.Arith.{Arith, Laws}
use Rattle.polynomial.specs.Polynomial.{evaluation}
use Rattle.polynomial.proofs.Evaluation.{code_below, evaluation_nil}
use Rattle.polynomial.proofs.Reading.{length_part, part_at}
use Rattle.line.specs.Steps.{codes_in}
use Rattle.kiosk.proofs.Downwards.{down, YieldsList-from_rev_range, next_within}
use Rattle.kiosk.proofs.Share.key_code.Goals as goal

pub fold-requires-clause-callable : goal.fold-requires-clause-callable
fold-requires-clause-callable g c =
    let share = c.args.self.now in
    let width = share.line.head.degree + 1 in
    let ends = row_fits c.args.lane width share.line.head.lanes width c.requires (omega arith) in
    record {
      at = λ js t q j u so_far calls step.
          let same = same_first _ (λ p i r k. search rules) js _ q calls in
          let inside = next_within js c.rev.result t u j so_far step in
          search rules;
    }

-- codes that are looked up, one by one
looked_up : (A : Arith) → Laws A → (codes : List ℕ) → AllByRecursion (λ n. n < A.order) codes → (start : ℕ) (js : List ℕ) →
    AllByRecursion (λ n. n < A.order) (map (λ j. get_or codes (start + j) 0) js)
looked_up A L codes below start [] = tt
looked_up A L codes below start (j ∷ js) = (code_below A L codes below (start + j), looked_up A L codes below start js)

pub returns : goal.returns
returns g c =
    let A = g.F.Field.arith in
    let code = g.F.Field.code in
    let point = code c.args.point in
    let share = c.args.self.now in
    let width = share.line.head.degree + 1 in
    let start = c.args.lane * width in
    let codes = codes_in share.line.codes.text.now in
    let at : ℕ → ℕ = λ j. get_or codes (start + j) 0 in
    let ends = row_fits c.args.lane width share.line.head.lanes width c.requires (omega arith) in
    let within : start + width ≤ length codes = omega (arith, ends, share.count) in
    let below = All-from_get_or (λ n. n < A.order) codes 0 share.codes_below in
    let road = YieldsList-from_rev_range {s = c.rev.result} 0 width width (search rules) (omega arith) in
    let lane : take width (drop start codes) ≡ map at (range_with_len 0 width) =
    fill_by_all at (take width (drop start codes)) width 0 (length_part codes start width within) (part_at codes start width) in
    let folded : code c.fold.result ≡ evaluation A (map at (reverse (reverse (range_with_len 0 width)))) point =
    fold_over down (λ j. j) _ (λ js v. code v ≡ evaluation A (map at (reverse js)) point) _
    (λ js value j next f' so_far k.
    let one_more : reverse (js ++ j ∷ []) ≡ j ∷ reverse js = reverse-append js (j ∷ []) in
    let codes_so_far = looked_up A c.laws.ensures.arithmetic codes below start (reverse js) in
    rw one_more (search rules))
    c.rev.result (reverse (range_with_len 0 width)) _ _ road.runs (c.zero.ensures ∙ sym (evaluation_nil A c.laws.ensures.arithmetic point)) c.fold.ensures.ran in
    rw lane (rw (reverse-reverse (range_with_len 0 width)) at folded)
