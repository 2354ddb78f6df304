use Rattle.std.proofs.Common.{◌≡◌, ℕ, ◌+◌, ◌*◌, ◌≤◌, min, max, List, get_or, take, drop, sym, ◌∙◌, rules, tests, arith}
use Rattle.polynomial.specs.Share.{column}
use Rattle.polynomial.specs.Table.{lane_size, place, coefficient}
use Rattle.polynomial.proofs.Coefficients.{length_column, get_or_column, share_code_value}
use Rattle.polynomial.proofs.Places.{place_in_lane}
use Rattle.polynomial.proofs.Reading.{part_at}
use Rattle.polynomial.proofs.Rules.{by_numbers}
use Rattle.polynomial.proofs.share.share_code.Goals as goal

-- what stands at the place of a(i,j)
lane_code : (t : ℕ) (table : List ℕ) (lane i j : ℕ) → i ≤ t → j ≤ t →
    get_or (take (lane_size t) (drop (lane * lane_size t) table)) (place t (min i j) (max i j)) 0 ≡ get_or (column t table lane j) i 0
unfolding coefficient
lane_code t table lane i j i_most j_most =
    part_at table (lane * lane_size t) (lane_size t) (place t (min i j) (max i j)) (place_in_lane t (min i j) (max i j) (omega arith) (omega arith))
    ∙ sym (get_or_column t table lane i j i_most)

pub returns : goal.returns
returns g c =
    let t = c.args.degree in
    let table = c.args.table.now in
    let lane = c.args.lane in
    let j = c.args.j in
    let value = share_code_value g.F.Field.arith t table (g.F.Field.code c.args.kiosk) lane j in
    let by = by_numbers g.F.Field.arith g.F.Field.code _ (t + 1) (column t table lane j) (g.F.Field.code c.args.kiosk) c.horner_loop.result c.horner_loop.ensures in
    let answered = by (record {
      long = length_column t table lane j;
      each = λ i o h post.
          let here = lane_code t table lane i j (omega arith) (omega arith) in
          search rules;
    }) in
    search (rules, tests)
