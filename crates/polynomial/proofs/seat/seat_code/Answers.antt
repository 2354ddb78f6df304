use Rattle.std.proofs.Common.{rules, tests}
use Rattle.polynomial.specs.Seat.{stack}
use Rattle.polynomial.proofs.Coefficients.{length_stack, get_or_stack, seat_code_value}
use Rattle.polynomial.proofs.Rules.{by_numbers}
use Rattle.polynomial.proofs.seat.seat_code.Goals as goal

pub returns : goal.returns
returns g c =
    let size = c.args.size in
    let blocks = c.args.threshold in
    let table = c.args.table.now in
    let place = c.args.place in
    let value = seat_code_value g.F.Field.arith size blocks table (g.F.Field.code c.args.seat) place in
    let by = by_numbers g.F.Field.arith g.F.Field.code _ blocks (stack size blocks table place) (g.F.Field.code c.args.seat) c.horner_loop.result c.horner_loop.ensures in
    let answered = by (record {
      long = length_stack size blocks table place;
      each = λ i o h post.
          let here = get_or_stack size blocks table place i h in
          search rules;
    }) in
    search (rules, tests)
