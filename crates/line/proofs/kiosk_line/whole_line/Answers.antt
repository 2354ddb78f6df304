-- A line is read from left to right: each exit answers the fault of its own check.
use Rattle.std.proofs.Common.{◌≡◌, ◌+◌, ◌-◌, ◌*◌, ◌≤◌, sym, ap, ◌∙◌, subst, rules, arith}
use Rattle.line.specs.declared.refusal.Cause.TheVariants.{NoLineFeed}
use Rattle.line.specs.KioskLine.{share_size, kiosk_fault}
use Rattle.line.proofs.Checks.{no_fault, was_read, answered}
use Rattle.line.proofs.KioskExact.{size_most}
use Rattle.line.proofs.Standing.{byte_within}
use Rattle.line.proofs.kiosk_line.whole_line.Goals as goal
use Rattle.line.proofs.kiosk_line.whole_line.Goals.{After-share_size-size}

size_small : (c : After-share_size-size) → c.share_size-size.result ≤ 160
size_small c =
    let text = c.args.text.now.bytes.now in
    subst (λ n. n ≤ 160) (sym (c.share_size-size.ensures ∙ ap share_size (was_read _ _ _ c.in_ok-head.ensures)))
    (size_most c.args.text.now.line c.args.over.mark c.args.over.order text (no_fault _ _ _ c.in_ok-head.ensures))

pub overflow_mul-end_of_codes : goal.overflow_mul-end_of_codes
overflow_mul-end_of_codes c = omega (arith, size_small c)

pub overflow_add-end_of_codes : goal.overflow_add-end_of_codes
overflow_add-end_of_codes c = omega (arith, size_small c)

pub codes-requires : goal.codes-requires
codes-requires c = omega (arith, size_small (goal.at.codes-requires c).After-share_size-size)

pub overflow_add-end_of_codes-2 : goal.overflow_add-end_of_codes-2
overflow_add-end_of_codes-2 c = omega (arith, size_small (goal.at.overflow_add-end_of_codes-2 c).After-share_size-size)

pub slice_bounds-result-end : goal.slice_bounds-result-end
slice_bounds-result-end c =
    let within = byte_within c.args.text.now.line (47 + 8 * c.share_size-size.result) 10 c.args.text.now.bytes.now NoLineFeed (omega arith) (no_fault _ _ _ c.in_ok-byte-2.ensures) in
    omega arith

pub returns-in_err-head : goal.returns-in_err-head
unfolding kiosk_fault
returns-in_err-head c = search (rules, answered)

pub returns-in_err-byte : goal.returns-in_err-byte
unfolding kiosk_fault
returns-in_err-byte c = search (rules, answered)

pub returns-in_err-codes : goal.returns-in_err-codes
unfolding kiosk_fault
returns-in_err-codes c = search (rules, answered)

pub returns-in_err-byte-2 : goal.returns-in_err-byte-2
unfolding kiosk_fault
returns-in_err-byte-2 c = search (rules, answered)

pub returns-in_err-end : goal.returns-in_err-end
unfolding kiosk_fault
returns-in_err-end c =
    let next : 47 + 8 * c.share_size-size.result + 1 ≡ 48 + 8 * c.share_size-size.result = omega arith in
    search (rules, answered)

pub returns : goal.returns
unfolding kiosk_fault
returns c =
    let next : 47 + 8 * c.share_size-size.result + 1 ≡ 48 + 8 * c.share_size-size.result = omega arith in
    let long : 47 + 8 * c.share_size-size.result - 47 ≡ 8 * c.share_size-size.result = omega arith in
    search (rules, answered)
