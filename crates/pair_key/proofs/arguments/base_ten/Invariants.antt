use Rattle.std.proofs.Common.{◌≡◌, ◌^◌, ◌<◌, drop}
use Rattle.pair_key.specs.Arguments.{digits_after}
use Rattle.pair_key.proofs.arguments.base_ten.Given as goal

-- the digits that are left write the whole number
abbrev pub invariant-loop-byte : goal.invariant-loop-byte
invariant-loop-byte l = (digits_after l.number (drop l.byte-index l.text) ≡ digits_after 0 l.text) × (l.number < 2 ^ 32)
