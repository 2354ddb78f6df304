-- A field by the codes of its elements: natural numbers below its order.
use Rattle.std.specs.Prelude.{◌≡◌, ℕ, zero, suc, ◌^◌, ◌<◌, ◌≤◌, Some, None, Option, ◌≢◌}

-- What a field does to codes. Zero has code 0, one has code 1, and the mark is the number by which lines name the field.
pub record Arith : Type 0 where
  pub order : ℕ
  pub mark : ℕ
  pub sum : ℕ → ℕ → ℕ
  pub negative : ℕ → ℕ
  pub product : ℕ → ℕ → ℕ
  pub inverse : ℕ → Option ℕ

-- The laws of a field, each for codes below its order. Zero and one are both below it, so they differ.
pub record Laws (A : Arith) : Type 0 where
  pub order_least : 2 ≤ A.order
  pub order_most : A.order ≤ 2 ^ 32
  pub mark_fits : A.mark < 2 ^ 32
  pub sum_below : (x y : ℕ) → x < A.order → y < A.order → A.sum x y < A.order
  pub negative_below : (x : ℕ) → x < A.order → A.negative x < A.order
  pub product_below : (x y : ℕ) → x < A.order → y < A.order → A.product x y < A.order
  pub sum_assoc : (x y z : ℕ) → x < A.order → y < A.order → z < A.order → A.sum (A.sum x y) z ≡ A.sum x (A.sum y z)
  pub sum_comm : (x y : ℕ) → x < A.order → y < A.order → A.sum x y ≡ A.sum y x
  pub sum_zero : (x : ℕ) → x < A.order → A.sum 0 x ≡ x
  pub sum_negative : (x : ℕ) → x < A.order → A.sum x (A.negative x) ≡ 0
  pub product_assoc : (x y z : ℕ) → x < A.order → y < A.order → z < A.order → A.product (A.product x y) z ≡ A.product x (A.product y z)
  pub product_comm : (x y : ℕ) → x < A.order → y < A.order → A.product x y ≡ A.product y x
  pub product_one : (x : ℕ) → x < A.order → A.product 1 x ≡ x
  pub distributes : (x y z : ℕ) → x < A.order → y < A.order → z < A.order → A.product x (A.sum y z) ≡ A.sum (A.product x y) (A.product x z)
  pub inverse_zero : A.inverse 0 ≡ None
  pub inverse_else : (x : ℕ) → x < A.order → (x ≢ 0) → (y : ℕ) × (A.inverse x ≡ Some y) × (y < A.order) × (A.product x y ≡ 1)

-- Elements and codes: every element has a code below the order, no other element has it, and every such code has an element.
pub record Coding (A : Arith) {E : Type 0} (code : E → ℕ) : Type 0 where
  pub below : (x : E) → code x < A.order
  pub apart : (x y : E) → code x ≡ code y → x ≡ y
  pub each : (c : ℕ) → c < A.order → (x : E) × (code x ≡ c)

-- the n-th power; the power 0 of any element is one
unfoldable pub power : (ℕ → ℕ → ℕ) → ℕ → ℕ → ℕ
power product x zero = 1
power product x (suc n) = product x (power product x n)
