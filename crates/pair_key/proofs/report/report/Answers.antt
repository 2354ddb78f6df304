use Rattle.std.proofs.Common.{◌≡◌, [], ◌++◌, get_or, take, None, string_bytes, sym, ap, ◌∙◌, subst}
use Rattle.std.proofs.ByRecursion.{All-more}
use Rattle.std.proofs.lemmas.List.{flat_map_more, take_more, take_all}
use Rattle.std.proofs.lemmas.Result.{err_from_is_err_and}
use Rattle.std.specs.List.{flat_map, AllByRecursion}
use Rattle.line.proofs.Checks.{no_fault, the_fault}
use Rattle.line.specs.KioskLine.{kiosk_head}
use Rattle.line.specs.declared.number.KioskNumber.{KioskNumber}
use Rattle.kiosk.specs.Derivation.{refusal}
use Rattle.pair_key.specs.Report.{line_of}
use Rattle.pair_key.proofs.Refusals.{line_refusal, line_refused, one_failed, none_refused}
use Rattle.pair_key.proofs.report.report.Goals as goal

pub returns-in_err-head : goal.returns-in_err-head
returns-in_err-head g c =
    let p = err_from_is_err_and c.from_residual.result c.from_residual.ensures.1 in
    let A = g.F.Field.arith in
    let text = c.args.text.now in
    let others = c.args.others.now in
    let cause = c.in_err-head.field-0.0 in
    rw (p.1, p.2) (line_refused A text others cause (the_fault (line_refusal A text others) (kiosk_head text) cause c.in_err-head.ensures))

pub returns-in_err-append_key : goal.returns-in_err-append_key
returns-in_err-append_key g c =
    let p = err_from_is_err_and c.from_residual-in_err-append_key.result c.from_residual-in_err-append_key.ensures.1 in
    let A = g.F.Field.arith in
    let text = c.args.text.now in
    let others = c.args.others.now in
    let none = no_fault (line_refusal A text others) (kiosk_head text) c.in_ok-head.head c.in_ok-head.ensures in
    rw (p.1, p.2)
    (one_failed A text others c.loop-other.other-index (string_bytes c.loop-other.lines) (string_bytes c.append_key.new.lines) c.in_err-append_key.field-0.0
    none c.loop-other.invariant.1 c.loop-other-test.true c.in_err-append_key.ensures)

pub loop-other-preserved : goal.loop-other-preserved
loop-other-preserved g c =
    let A = g.F.Field.arith in
    let text = c.args.text.now in
    let others = c.args.others.now in
    let i = c.loop-other.other-index in
    let other : KioskNumber = get_or others i (record { 0 = 0 }) in
    let appended = c.in_ok-append_key.ensures in (
      appended.1
          ∙ ap (λ bs. bs ++ line_of A text other) c.loop-other.invariant.0
          ∙ flat_map_more (line_of A text) [] (take i others) other
          ∙ ap (flat_map (line_of A text)) (sym (take_more others i (record { 0 = 0 }) c.loop-other-test.true)),
      All-more (λ (v : KioskNumber). refusal A text v.0 16 ≡ None) others i (record { 0 = 0 }) c.loop-other-test.true c.loop-other.invariant.1 appended.0,
    )

pub returns : goal.returns
returns g c =
    let A = g.F.Field.arith in
    let text = c.args.text.now in
    let others = c.args.others.now in
    let none = no_fault (line_refusal A text others) (kiosk_head text) c.in_ok-head.head c.in_ok-head.ensures in
    let all = take_all c.loop-other.other-index others c.loop-other-test.false in (
      none_refused A text others none (subst (AllByRecursion (λ (v : KioskNumber). refusal A text v.0 16 ≡ None)) all c.loop-other.invariant.1),
      c.loop-other.invariant.0 ∙ ap (flat_map (line_of A text)) all,
    )
