use Rattle.std.proofs.Common.{◌≡◌, ◌*◌, ◌/◌, ◌%◌, ◌^◌, ◌<◌, sym, ap, ◌∙◌, arith}
use lib.Bits.{bit_xor, xor_assoc, xor_zero_r}
use Rattle.std.proofs.lemmas.Nat.{shr-shr, shr_le}
use Rattle.field.specs.Bytes.{byte_product}
use Rattle.field.proofs.Bytes.{times_x, step, product_zero, product_congruent}
use Rattle.field.proofs.byte.arithmetic.ByteMultiply.times.Goals as goal

pub loop-preserved : goal.loop-preserved
loop-preserved c =
    let rest_below : c.loop.rest < 256 = omega (arith, c.loop.invariant.1, shr_le c.args.other.value c.loop.counter) in
    let whole = step c.loop.multiple c.loop.rest c.loop.invariant.2 rest_below in
    let low = c.loop.rest % 2 * c.loop.multiple in
    let high = byte_product c.times_x-multiple.result (c.loop.rest / 2) in (
      xor_assoc c.loop.sum low high
          ∙ ap (bit_xor c.loop.sum) (ap (λ m. bit_xor low (byte_product m (c.loop.rest / 2))) (c.times_x-multiple.ensures ∙ times_x c.loop.multiple c.loop.invariant.2) ∙ sym whole)
          ∙ c.loop.invariant.0,
      ap (λ m. m / 2) c.loop.invariant.1 ∙ shr-shr c.args.other.value c.loop.counter 1,
      c.times_x-multiple.type_inv,
    )

pub returns : goal.returns
returns c =
    let ended : c.loop.counter ≡ 8 = omega arith in
    let empty : c.loop.rest ≡ 0 = c.loop.invariant.1 ∙ ap (λ n. c.args.other.value / 2 ^ n) ended ∙ omega arith in
    let value : c.loop.sum ≡ byte_product c.args.self.value c.args.other.value =
    sym (xor_zero_r c.loop.sum)
    ∙ ap (bit_xor c.loop.sum) (sym (product_zero c.loop.multiple) ∙ ap (byte_product c.loop.multiple) (sym empty))
    ∙ c.loop.invariant.0 in
    record { value = value; congruent = rw value (product_congruent c.args.self.value c.args.other.value (omega arith) (omega arith)) }
