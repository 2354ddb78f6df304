-- Sums, products, and the value of a polynomial, by the codes of a field's elements.
use Rattle.std.specs.Prelude.{◌≡◌, ℕ, zero, suc, ◌<◌, Bool, List, map, length, Some, None, Option, nat_lt, slice_get, slice_index}
use Rattle.std.specs.List.{list_all, AllByRecursion}
use Rattle.field.specs.Arith.{Arith, power}

-- the field's sum of f 0, .., f (n - 1)
unfoldable pub sum_over : Arith → ℕ → (ℕ → ℕ) → ℕ
sum_over A zero f = 0
sum_over A (suc n) f = A.sum (sum_over A n f) (f n)

-- the field's product of f 0, .., f (n - 1)
unfoldable pub product_over : Arith → ℕ → (ℕ → ℕ) → ℕ
product_over A zero f = 1
product_over A (suc n) f = A.product (product_over A n f) (f n)

-- the value at x of the polynomial with these coefficients, that of the power 0 first: the sum of coefficient times power
unfoldable pub evaluation : Arith → List ℕ → ℕ → ℕ
evaluation A coefficients x = sum_over A (length coefficients) (λ j. A.product (slice_index coefficients j) (power A.product x j))

-- numbers that are codes of the field, as a statement and as a test
abbrev pub Codes : Arith → List ℕ → Type 0
Codes A numbers = AllByRecursion (λ c. c < A.order) numbers

abbrev pub are_codes : Arith → List ℕ → Bool
are_codes A numbers = list_all (λ c. nat_lt c A.order) numbers

-- A polynomial whose coefficients a rule answers, that of each power below the count, and an element that is its value at x.
pub record EvaluatesBy (A : Arith) {E : Type 0} (code : E → ℕ) (answers : ℕ → Option E → Type 0) (count x : ℕ) (value : E) : Type 0 where
  pub coefficients : List E
  pub long : length coefficients ≡ count
  pub answered : (power : ℕ) → power < count → answers power (slice_get coefficients power)
  pub is_value : code value ≡ evaluation A (map code coefficients) x

-- What comes of evaluating by a rule for the coefficients: the value, or nothing, where the rule answers nothing for one of them.
unfoldable pub Evaluates : (A : Arith) {E : Type 0} (code : E → ℕ) (answers : ℕ → Option E → Type 0) (count x : ℕ) → Option E → Type 0
Evaluates A code answers count x None = (power : ℕ) × (power < count) × answers power None
Evaluates A code answers count x (Some value) = EvaluatesBy A code answers count x value

-- no number stands in the list twice
abbrev pub Different : List ℕ → Type 0
Different numbers = (i j : ℕ) → i < length numbers → j < length numbers → slice_index numbers i ≡ slice_index numbers j → i ≡ j
