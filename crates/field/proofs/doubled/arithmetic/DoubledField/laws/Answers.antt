use Rattle.std.proofs.Common.{◌<◌}
use Rattle.field.proofs.DoubledLaws.{doubled_laws, doubled_coding, doubled_extends}
use Rattle.field.proofs.doubled.arithmetic.DoubledField.laws.Goals as goal

pub returns : goal.returns
returns g c =
    let A = g.F.Field.arith in
    let laws = c.laws.ensures.arithmetic in
    let coding = c.laws.ensures.coding in
    let given = c.coefficients.ensures in
    let (d, e) = c.coefficients.result in
    let d_below : g.F.Doubling.d < A.order = rw (← given.d) (coding.below d) in
    let e_below : g.F.Doubling.e < A.order = rw (← given.e) (coding.below e) in
    record {
      arithmetic = doubled_laws A laws g.F.Doubling.d g.F.Doubling.e d_below e_below given.rootless given.order given.mark;
      coding = doubled_coding g.F.Doubling.d g.F.Doubling.e laws.order_least coding;
      extends = doubled_extends A laws g.F.Doubling.d g.F.Doubling.e d_below e_below;
    }
