use Rattle.std.proofs.Common.{length, sym, ap, ◌∙◌, rules}
use Rattle.std.proofs.lemmas.List.{length-map, get_or-map, length_push}
use Rattle.std.proofs.lemmas.Slice.Zip.{zip_turn, zip_end}
use Rattle.polynomial.specs.Interpolation.{weighted}
use Rattle.polynomial.specs.Polynomial.{sum_over}
use Rattle.polynomial.proofs.Reading.{codes_more, all_codes}
use Rattle.polynomial.proofs.interpolation.interpolate.Goals as goal

pub loop-weight-init : goal.loop-weight-init
unfolding sum_over
loop-weight-init g c = (c.zero-sum.ensures, tt)

pub loop-weight-preserved : goal.loop-weight-preserved
unfolding sum_over
loop-weight-preserved g c =
    let code = g.F.Field.code in
    let weights = c.args.weights.now in
    let passed = c.loop-weight.yielded in
    let weight = c.in-Some.weight in
    let (weight_inside, value_inside, weight_is, value_is) = zip_turn weights c.args.values.now passed c.into_iter-weight-iterator.result c.loop-weight.weight-iterator c.next.new.self c.next.result (cc) (cc) c.loop-weight.yielded_by _ c.in-Some.is c.next.ensures.steps in
    let value_here = value_is 0 in
    let weight_here = ap code (weight_is weight.now) ∙ sym (get_or-map code weights (length passed) weight.now 0 weight_inside) in
    rw (length_push passed (weight, c.in-Some.value)) (search (rules, codes_more))

pub returns : goal.returns
unfolding weighted
returns g c =
    let ended = zip_end c.args.weights.now c.args.values.now c.loop-weight.yielded c.into_iter-weight-iterator.result c.loop-weight.weight-iterator c.next.new.self c.next.result (cc) (cc) c.loop-weight.yielded_by c.in-None.is c.next.ensures.steps in
    let long = length-map c.args.weights.now g.F.Field.code in
    search (rules, all_codes)
