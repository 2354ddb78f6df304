-- The value of the polynomial through given points, by Lagrange, and what is restored from the codes of seats.
use Rattle.std.specs.Prelude.{ℕ, cond, ◌&&◌, List, map, length, Some, None, Option, ◌==◌, slice_index}
use Rattle.std.specs.List.{range_with_len}
use Rattle.std.specs.Option.{unwrap_or}
use Rattle.field.specs.Arith.{Arith}
use Rattle.polynomial.specs.Polynomial.{sum_over, product_over, are_codes}

abbrev pub difference : Arith → ℕ → ℕ → ℕ
difference A x y = A.sum x (A.negative y)

-- x times the inverse of y. Nothing below divides by zero; what would is zero here.
abbrev pub quotient : Arith → ℕ → ℕ → ℕ
quotient A x y = A.product x (unwrap_or (A.inverse y) 0)

-- what the point r puts into the weight of the point s: (r - x)/(r - s), and nothing, that is one, if it is s
abbrev pub factor : Arith → ℕ → ℕ → ℕ → ℕ
factor A s x r = cond (r == s) 1 (quotient A (difference A r x) (difference A r s))

-- The weight of the point s, for the value at x: the product over the other points r of (r - x)/(r - s), which is r/(r - s) for the value at zero.
-- Points that equal s do not count as others, so it is defined even where a point is repeated.
unfoldable pub weight : Arith → List ℕ → ℕ → ℕ → ℕ
weight A points s x = product_over A (length points) (λ i. factor A s x (slice_index points i))

abbrev pub weights : Arith → List ℕ → ℕ → List ℕ
weights A points x = map (λ s. weight A points s x) points

-- the sum of value times weight
unfoldable pub weighted : Arith → List ℕ → List ℕ → ℕ
weighted A weights values = sum_over A (length weights) (λ i. A.product (slice_index values i) (slice_index weights i))

-- the value at x of the polynomial that has these values at these points
abbrev pub interpolation : Arith → List ℕ → List ℕ → ℕ → ℕ
interpolation A points values x = weighted A (weights A points x) values

-- the answer, unless the lengths differ or a value is no code
abbrev pub weighted_answer : Arith → List ℕ → List ℕ → Option ℕ
weighted_answer A weights values = cond (length values == length weights && are_codes A values) (Some (weighted A weights values)) None

-- what lines have at one place
abbrev pub at_place : List (List ℕ) → ℕ → List ℕ
at_place lines p = map (λ line. slice_index line p) lines

-- Place by place, the value at x of the polynomial through the lines of these seats. At zero it is the master that they restore, and a further line
-- agrees with them where at its seat it is that line's codes.
unfoldable pub restored : Arith → List ℕ → List (List ℕ) → ℕ → ℕ → List ℕ
restored A seats lines size x = map (λ p. interpolation A seats (at_place lines p) x) (range_with_len 0 size)
