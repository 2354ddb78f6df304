use Rattle.std.proofs.Common.{◌≡◌, ◌/◌, arith}
use Rattle.field.specs.Arith.{power}
use Rattle.field.proofs.Powers.{power_zero, power_below, square_even, square_odd}
use Rattle.field.proofs.power.power.Goals as goal
use Rattle.field.proofs.power.power.Goals.{then-exponent-eq1, else-exponent-eq1, then-rest-eq1, else-rest-eq1}

pub loop-rest-init : goal.loop-rest-init
loop-rest-init g c =
    let monoid = c.laws.ensures.monoid in
    let x = g.M.Multiply.number c.args.x in
    let below = c.laws.ensures.below c.args.x in
    elim c.if-exponent-eq1.branch [
      | then-exponent-eq1 w ↦
          let odd = square_odd monoid x below c.args.exponent w.if-exponent-eq1.true in
          cc
      | else-exponent-eq1 w ↦
          let even = square_even monoid x below c.args.exponent w.if-exponent-eq1.false in
          let same = monoid.one_left (power g.M.Multiply.product x c.args.exponent) (power_below monoid x below c.args.exponent) in
          cc
    ]

pub loop-rest-preserved : goal.loop-rest-preserved
loop-rest-preserved g c =
    let monoid = c.laws.ensures.monoid in
    let below = c.laws.ensures.below in
    let product = g.M.Multiply.product in
    let rest = c.loop-rest.rest in
    let square = g.M.Multiply.number c.times-square.result in
    let square_below = below c.times-square.result in
    let halved = power product (product square square) (rest / 2) in
    let halved_below = power_below monoid (product square square) (monoid.closed square square square_below square_below) (rest / 2) in
    elim c.if-rest-eq1.branch [
      | then-rest-eq1 w ↦
          let odd = square_odd monoid square square_below rest w.if-rest-eq1.true in
          let moved = monoid.assoc (g.M.Multiply.number c.loop-rest.power) square halved (below c.loop-rest.power) square_below halved_below in
          cc
      | else-rest-eq1 w ↦
          let even = square_even monoid square square_below rest w.if-rest-eq1.false in
          cc
    ]

pub returns : goal.returns
returns g c =
    let monoid = c.laws.ensures.monoid in
    let below = c.laws.ensures.below in
    let ended : c.loop-rest.rest ≡ 0 = omega arith in
    let square = g.M.Multiply.number c.loop-rest.square in
    let zero = power_zero monoid (g.M.Multiply.product square square) (monoid.closed square square (below c.loop-rest.square) (below c.loop-rest.square)) in
    let same = monoid.one_right (g.M.Multiply.number c.loop-rest.power) (below c.loop-rest.power) in
    cc
