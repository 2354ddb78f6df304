use Rattle.std.proofs.Common.{◌≡◌, [], ◌∷◌, map, reverse, sym, ◌∙◌, subst, rules}
use Rattle.std.specs.Iterator.Adapters.{rev_steps}
use Rattle.std.specs.Slice.Iter.{iter_steps_back}
use Rattle.std.proofs.lemmas.Fn.{fold_over}
use Rattle.std.proofs.lemmas.Iterator.Adapters.{YieldsList-from_rev_slice}
use Rattle.std.proofs.lemmas.List.{reverse-append, reverse-reverse}
use Rattle.polynomial.specs.Polynomial.{evaluation}
use Rattle.polynomial.proofs.Evaluation.{codes_below, evaluation_nil}
use Rattle.polynomial.proofs.evaluate.Goals as goal

pub returns : goal.returns
returns g c =
    let xs = c.args.coefficients.now in
    let A = g.F.Field.arith in
    let code = g.F.Field.code in
    let point = code c.args.point in
    subst (λ ys. code c.fold.result ≡ evaluation A (map code ys) point) (reverse-reverse xs)
    (fold_over (rev_steps iter_steps_back) (λ y. y.now) _ (λ ys v. code v ≡ evaluation A (map code (reverse ys)) point) _
    (λ ys value x next f' so_far k.
    let one_more = reverse-append ys (x.now ∷ []) in
    let below = codes_below c.laws.ensures.coding (reverse ys) in
    rw one_more (search rules))
    c.rev.result (reverse xs) _ _ (YieldsList-from_rev_slice {s = c.rev.result} xs cc).runs (c.zero.ensures ∙ sym (evaluation_nil A c.laws.ensures.arithmetic point)) c.fold.ensures.ran)
