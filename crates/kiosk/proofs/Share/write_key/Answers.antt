use Rattle.std.proofs.Common.{◌≡◌, ◌+◌, ◌++◌, length, take, drop, sym, ap, ◌∙◌, append-nil, arith}
use Rattle.std.proofs.lemmas.List.{length-take, drop_all}
use Rattle.std.proofs.lemmas.Nat.{row_fits}
use Rattle.polynomial.specs.PairKey.{pair_key}
use Rattle.polynomial.proofs.Buffers.{written_more, written_all}
use Rattle.polynomial.proofs.Evaluation.{pair_key_lane, length_pair_key}
use Rattle.line.specs.Steps.{codes_in}
use Rattle.kiosk.proofs.Share.write_key.Goals as goal

pub loop-lane-preserved : goal.loop-lane-preserved
loop-lane-preserved g c =
    let A = g.F.Field.arith in
    let share = c.args.self.now in
    let head = share.line.head in
    let codes = codes_in share.line.codes.text.now in
    let v = g.F.Field.code c.args.point in
    let lane = c.loop-lane.lane in
    let count = length_pair_key A head.degree head.lanes codes v in
    let room : length (take head.lanes c.args.key.now) ≡ head.lanes = simp length-take (omega (arith, c.requires)) in
    let inside = c.loop-lane-test.true in
    let ends = row_fits lane (head.degree + 1) head.lanes (head.degree + 1) (omega arith) (omega arith) in
    written_more (pair_key A head.degree head.lanes codes v) c.loop-lane.code-items (take head.lanes c.args.key.now) lane c.to_code.result 0 c.loop-lane.invariant
    (c.to_code.ensures ∙ c.key_code.ensures ∙ sym (pair_key_lane A head.degree head.lanes codes v lane (omega arith) (omega (arith, ends, share.count))))
    (omega arith)
    (omega arith)

pub returns : goal.returns
returns g c =
    let A = g.F.Field.arith in
    let head = c.args.self.now.line.head in
    let key = pair_key A head.degree head.lanes (codes_in c.args.self.now.line.codes.text.now) (g.F.Field.code c.args.point) in
    let room : length (take head.lanes c.args.key.now) ≡ head.lanes = simp length-take (omega (arith, c.requires)) in
    let ended = c.loop-lane-test.false in
    ap (λ k. k ++ drop head.lanes c.args.key.now)
    (written_all key c.loop-lane.code-items (take head.lanes c.args.key.now) c.loop-lane.lane head.lanes c.loop-lane.invariant (omega arith) (sym (length_pair_key A head.degree head.lanes _ _))
    ∙ ap (λ rest. key ++ rest) (drop_all head.lanes (take head.lanes c.args.key.now) (omega arith))
    ∙ append-nil key)
