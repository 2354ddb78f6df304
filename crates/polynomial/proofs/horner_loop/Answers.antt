use Rattle.std.proofs.Common.{◌-◌, [], ◌∷◌, map, sym, ◌∙◌, rules, arith}
use Rattle.polynomial.specs.Polynomial.{Evaluates}
use Rattle.polynomial.proofs.Evaluation.{codes_below, evaluation_nil}
use Rattle.polynomial.proofs.Rules.{answered_more}
use Rattle.polynomial.proofs.horner_loop.Given.{C-post}
use Rattle.polynomial.proofs.horner_loop.Goals as goal

pub loop-power-init : goal.loop-power-init
loop-power-init g c =
    let field = g.F.Field in
    record {
      coefficients = [];
      long = omega arith;
      answered = λ i below. absurd (omega arith);
      is_value = c.zero-value.ensures ∙ sym (evaluation_nil field.arith c.laws.ensures.arithmetic (field.code c.args.point));
    }

pub loop-power-preserved : goal.loop-power-preserved
loop-power-preserved g c =
    let field = g.F.Field in
    let so_far = c.loop-power.invariant in
    let power = c.loop-power.power in
    let n = c.args.count - power in
    record {
      coefficients = c.in_ok-next.next ∷ so_far.coefficients;
      long = omega (arith, so_far.long, c.loop-power-test.true, c.loop-power.auto.power);
      answered = λ i below.
          answered_more (C-post g c.args.coefficient) power n c.in_ok-next.next so_far.coefficients (omega (arith, c.loop-power-test.true)) (search rules) so_far.answered i (omega arith);
      is_value = c.horner-value.ensures.evaluates (map field.code so_far.coefficients) (codes_below c.laws.ensures.coding so_far.coefficients) so_far.is_value;
    }

pub returns-in_err-next : goal.returns-in_err-next
unfolding Evaluates
returns-in_err-next g c = search rules

pub returns : goal.returns
unfolding Evaluates
returns g c = search rules
