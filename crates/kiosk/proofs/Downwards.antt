-- What a range of numbers gives that is gone through from its end.
use Rattle.std.proofs.Common.{◌≡◌, ℕ, ◌+◌, ◌-◌, ◌<◌, ◌≤◌, List, [], ◌∷◌, ◌++◌, reverse, Option, Some, map-id, sym, ap, subst, ◌∙◌, arith}
use Rattle.std.specs.declared.iter.Rev.{Rev}
use Rattle.std.specs.declared.ops.Range.{Range}
use Rattle.std.specs.Iterator.{Yields}
use Rattle.std.specs.Iterator.Adapters.{rev_source, rev_steps}
use Rattle.std.specs.List.{range_with_len}
use Rattle.std.specs.Range.{range_steps_back}
use Rattle.std.proofs.lemmas.Iterator.{YieldsList}
use Rattle.std.proofs.lemmas.Iterator.Consumers.{YieldsList-from_shown}
use Rattle.std.proofs.lemmas.List.{reverse-append, length-reverse}
use Rattle.std.proofs.lemmas.List.FromFn.{map-range_with_len_more, length-range_with_len}

-- one step: the last number that is left, or none
abbrev pub down : Rev (Range ℕ) → Option ℕ → Rev (Range ℕ) → Type 0
down = rev_steps (range_steps_back (λ x y. y - x) (λ x y. y ≡ x + 1))

-- the numbers of a range, the last first
abbrev downwards : Range ℕ → List ℕ
downwards s = reverse (range_with_len s.start (s.end - s.start))

last_first : (a n top : ℕ) → a + n ≡ top → reverse (range_with_len a (n + 1)) ≡ top ∷ reverse (range_with_len a n)
last_first a n top e =
    ap reverse (sym (map-id (range_with_len a (n + 1))) ∙ map-range_with_len_more (λ i. i) a n top e ∙ ap (λ is. is ++ top ∷ []) (map-id (range_with_len a n)))
    ∙ reverse-append (range_with_len a n) (top ∷ [])

-- all that comes, in its order
pub YieldsList-from_rev_range : {s : Rev (Range ℕ)} (a b n : ℕ) → rev_source s ≡ record { start = a; end = b } → b - a ≡ n → YieldsList down (λ i. i) s (reverse (range_with_len a n))
YieldsList-from_rev_range {s} a b n e f =
    subst (λ k. YieldsList down (λ i. i) s (reverse (range_with_len a k))) f
    (subst (λ r. YieldsList down (λ i. i) s (downwards r)) e
    (YieldsList-from_shown down (λ i. i) (λ u. downwards (rev_source u))
    (λ u t p. length-reverse _ ∙ length-range_with_len (rev_source u).start _ ∙ p.1.0)
    (λ u i t p.
    let left = (rev_source t).end - (rev_source t).start in
    let more : (rev_source u).end - (rev_source u).start ≡ left + 1 = omega (arith, p.0, p.1.0, p.1.2) in
    ap (λ a. reverse (range_with_len a ((rev_source u).end - (rev_source u).start))) (sym p.0)
    ∙ ap (λ k. reverse (range_with_len (rev_source t).start k)) more
    ∙ last_first (rev_source t).start left i (omega (arith, p.0, p.1.0, p.1.1, p.1.2)))
    s))

-- each number that comes is one of the range's
pub next_within : (js : List ℕ) (s t u : Rev (Range ℕ)) (j : ℕ) → Yields down s js t → down t (Some j) u → ((rev_source s).start ≤ j) × (j < (rev_source s).end)
next_within [] s t u j so_far step =
    let start = ap (λ (r : Rev (Range ℕ)). (rev_source r).start) so_far in
    let end = ap (λ (r : Rev (Range ℕ)). (rev_source r).end) so_far in
    (omega (arith, start, step.0, step.1), omega (arith, end, step.1))
next_within (i ∷ js) s t u j so_far step =
    let later = next_within js so_far.0 t u j so_far.2 step in
    (omega (arith, later, so_far.1), omega (arith, later, so_far.1))
