-- The field of bytes: polynomials over two elements, taken modulo x^8 + x^4 + x^3 + x + 1. Bit i of a number is the coefficient of x^i.
use Rattle.std.specs.Prelude.{◌≡◌, ℕ, zero, suc, ◌+◌, ◌*◌, ◌/◌, ◌%◌, ◌^◌, cond, Some, None, ◌==◌, bit_xor}
use Rattle.field.specs.Arith.{Arith, power}

-- the product of a and the lowest n coefficients of b, with no carry: a·x^i for each bit i of b, added by exclusive or
unfoldable pub carryless : ℕ → ℕ → ℕ → ℕ
carryless zero a b = 0
carryless (suc n) a b = bit_xor (carryless n a b) (b / 2 ^ n % 2 * (a * 2 ^ n))

-- Long division by hex 11b of a polynomial of degree below n + 8: for each power from the highest down to x^8 that it has, the modulus
-- is taken away once, moved up to that power. What is left is the remainder.
unfoldable pub remainder : ℕ → ℕ → ℕ
remainder zero r = r
remainder (suc n) r = remainder n (bit_xor r (r / 2 ^ (n + 8) % 2 * (0x11b * 2 ^ n)))

-- the same polynomial modulo hex 11b: the two differ by a multiple of it, of degree below 15
abbrev pub Congruent : ℕ → ℕ → Type 0
Congruent m n = (q : ℕ) × (m ≡ bit_xor (carryless 7 0x11b q) n)

-- the product of two bytes has degree 14 at most
unfoldable pub byte_product : ℕ → ℕ → ℕ
byte_product a b = remainder 7 (carryless 8 a b)

abbrev pub byte_arith : Arith
byte_arith = record {
  order = 256;
  mark = 1;
  sum = bit_xor;
  negative = λ x. x;
  product = byte_product;
  inverse = λ x. cond (x == 0) None (Some (power byte_product x 254));
}
