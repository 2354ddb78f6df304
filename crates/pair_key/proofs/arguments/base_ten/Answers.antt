use Rattle.std.proofs.Common.{◌≡◌, ◌+◌, ◌-◌, ◌*◌, ◌^◌, min, true, get_or, drop, sym, ap, ◌∙◌, arith}
use Rattle.std.proofs.lemmas.List.{at_drop_more}
use Rattle.std.proofs.lemmas.Bool.Decides.{nat_tests}
use Rattle.std.proofs.lemmas.Str.{digit_value_digit}
use Rattle.std.proofs.lemmas.Str.Parse.{digit_from_value}
use Rattle.pair_key.specs.Arguments.{is_digit, digits_after}
use Rattle.pair_key.proofs.Digits.{digits_more}
use Rattle.pair_key.proofs.arguments.base_ten.Goals as goal

pub loop-byte-preserved : goal.loop-byte-preserved
loop-byte-preserved c =
    let text = c.args.text.now in
    let i = c.loop-byte.byte-index in
    let n = c.loop-byte.number in
    let b = get_or text i 0 in
    let read = c.in_ok-digit.ensures.value in
    let range = digit_from_value c.from.result (omega (arith, read.0)) in
    let same = digit_value_digit c.from.result range in
    let yes : is_digit b ≡ true = grind (arith, nat_tests) in
    let next : c.saturating_add-number.result ≡ min (2 ^ 32 - 1) (n * 10 + (b - 48)) = omega (arith, read.1) in (
      ap (λ k. digits_after k (drop (i + 1) text)) next
          ∙ sym (digits_more n b (drop (i + 1) text) yes)
          ∙ sym (at_drop_more (digits_after n) text i 0 c.loop-byte-test.true)
          ∙ c.loop-byte.invariant.0,
      c.saturating_add-number.type_inv,
    )
