use Rattle.std.proofs.Common.{◌≡◌, ◌/◌, ◌^◌, ◌<◌}
use lib.Bits.{bit_xor}
use Rattle.field.specs.Bytes.{byte_product}
use Rattle.field.proofs.byte.arithmetic.ByteMultiply.times.Given as goal

-- what is summed up and the product that is left make the whole product
abbrev pub invariant-loop : goal.invariant-loop
invariant-loop l = (bit_xor l.sum (byte_product l.multiple l.rest) ≡ byte_product l.fn.self.value l.fn.other.value) × (l.rest ≡ l.fn.other.value / 2 ^ l.counter) × (l.multiple < 256)
