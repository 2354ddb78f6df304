use Rattle.std.proofs.Common.{◌≡◌, map, get_or, ◌∙◌, rules, arith}
use Rattle.std.proofs.lemmas.List.{length-map, get_or-map, map-set}
use Rattle.polynomial.specs.Interpolation.{weight, weights}
use Rattle.polynomial.proofs.Buffers.{written_more}
use Rattle.polynomial.proofs.interpolation.write_weights.Goals as goal

pub loop-i-preserved : goal.loop-i-preserved
loop-i-preserved g c =
    let A = g.F.Field.arith in
    let code = g.F.Field.code in
    let points = c.args.points.now in
    let found = weights A points (code c.args.x) in
    let i = c.loop-i.i in
    let place = get_or-map (λ n. weight A points n (code c.args.x)) points i 0 0 c.loop-i-test.true in
    let here : code c.unwrap.result ≡ get_or found i 0 = search rules in
    map-set code c.loop-i.into i c.unwrap.result
    ∙ written_more found (map code c.loop-i.into) (map code c.args.into.now) i (code c.unwrap.result) 0 c.loop-i.invariant here
    (omega (arith, length-map c.args.into.now code))
    (omega (arith, length-map points (λ n. weight A points n (code c.args.x))))
