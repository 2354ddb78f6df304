-- Hex digits, as text.
use Rattle.std.proofs.Common.{rules, ℕ, ◌%◌, ◌<◌, arith}
use Rattle.std.proofs.lemmas.Bool.Decides.{nat_tests}
use Rattle.std.proofs.lemmas.Str.{IsUtf8-from_ascii}
use Rattle.std.proofs.lemmas.Str.Ascii.{IsAscii-from_all}
use Rattle.std.specs.Str.{IsUtf8}
use Rattle.line.specs.Digits.{digit, eight}

digit_ascii : (n : ℕ) → digit (n % 16) < 128
digit_ascii n = grind (arith, nat_tests)

pub eight_utf8 : (n : ℕ) → IsUtf8 (eight n)
unfolding eight
eight_utf8 n = IsUtf8-from_ascii (eight n) (IsAscii-from_all (eight n) (search (rules, digit_ascii)))
