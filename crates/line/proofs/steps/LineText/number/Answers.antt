-- The digit loop stops at the first byte that is no digit, and its number always fits 32 bits.
use Rattle.std.proofs.Common.{◌≡◌, ◌+◌, ◌-◌, ◌*◌, ◌^◌, ◌<◌, get_or, drop, None, Ok, sym, ap, ◌∙◌, rules, tests, arith}
use Rattle.std.proofs.lemmas.List.{get_or-drop}
use Rattle.line.specs.Digits.{digit_value, number_at}
use Rattle.line.proofs.HexDigits.{Digits, digit_more, digits_fit}
use Rattle.line.proofs.Numbers.{digits_fault_none, digits_fault_some}
use Rattle.line.proofs.steps.LineText.number.Goals as goal
use Rattle.line.proofs.steps.LineText.number.Goals.{After-and_then, In-Some}

-- the byte at hand, as the text has it
read_is : (c : After-and_then) → c.and_then.result ≡ digit_value (get_or c.args.self.now.bytes.now c.loop-at.at 0)
read_is c = search (rules, tests)

pub returns-in_default : goal.returns-in_default
returns-in_default c =
    let text = c.args.self.now.bytes.now in
    let none : digit_value (get_or text c.loop-at.at 0) ≡ None = sym (read_is (goal.at.returns-in_default c).After-and_then) ∙ c.in_default.is in
    let e = digits_fault_some c.args.self.now.line c.args.place (c.loop-at.at - c.args.place) c.loop-at.at text (omega arith) (omega arith) c.loop-at.invariant.0 none in
    simp e

-- the digits with the one at hand
digits : (c : In-Some) → Digits (drop c.args.place c.args.self.now.bytes.now) (c.loop-at.at - c.args.place + 1) (c.loop-at.number * 16 + c.in-Some.digit)
digits c =
    let n = c.loop-at.at - c.args.place in
    let text = c.args.self.now.bytes.now in
    let at : c.args.place + n ≡ c.loop-at.at = omega arith in
    digit_more (drop c.args.place text) n _ _ c.loop-at.invariant
    (ap digit_value (get_or-drop c.args.place text n 0 ∙ ap (λ p. get_or text p 0) at) ∙ sym (read_is (goal.at.In-Some c).After-and_then) ∙ c.in-Some.is)

fits : (c : In-Some) → c.loop-at.number * 16 + c.in-Some.digit < 2 ^ 32
fits c = digits_fit _ _ _ (omega arith) (digits c)

pub overflow_mul-number : goal.overflow_mul-number
overflow_mul-number c = omega (arith, fits c)

pub overflow_add-number : goal.overflow_add-number
overflow_add-number c = omega (arith, fits c)

pub loop-at-preserved : goal.loop-at-preserved
loop-at-preserved c =
    let next : c.loop-at.at + 1 - c.args.place ≡ c.loop-at.at - c.args.place + 1 = omega arith in rw next (digits c)

pub returns : goal.returns
unfolding number_at
returns c =
    let done : c.loop-at.at - c.args.place ≡ 8 = omega arith in
    let inv = rw done at c.loop-at.invariant in
    simp (digits_fault_none c.args.self.now.line c.args.place c.args.self.now.bytes.now inv.0) (ap Ok inv.1)
