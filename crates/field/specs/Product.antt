-- Products of numbers below a bound, such as the codes of a field.
use Rattle.std.specs.Prelude.{◌≡◌, ℕ, ◌<◌}

-- an associative product that has the number 1 for its one
pub record Monoid (product : ℕ → ℕ → ℕ) (bound : ℕ) : Type 0 where
  pub one_below : 1 < bound
  pub closed : (x y : ℕ) → x < bound → y < bound → product x y < bound
  pub assoc : (x y z : ℕ) → x < bound → y < bound → z < bound → product (product x y) z ≡ product x (product y z)
  pub one_left : (x : ℕ) → x < bound → product 1 x ≡ x
  pub one_right : (x : ℕ) → x < bound → product x 1 ≡ x
