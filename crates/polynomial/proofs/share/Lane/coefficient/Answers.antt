use Rattle.std.proofs.Common.{min, max, rules, arith}
use Rattle.polynomial.proofs.Places.{place_in_lane}
use Rattle.polynomial.proofs.share.Lane.coefficient.Goals as goal

pub bounds-self-row_start : goal.bounds-self-row_start
bounds-self-row_start c =
    let lane = c.args.self.now in
    let inside = place_in_lane lane.degree (min c.args.i c.args.j) (max c.args.i c.args.j) (omega arith) (omega arith) in
    let whole = lane.whole in
    search rules
