-- A doubled field, by the codes of a lower field: its elements are a + b·w with a and b from the lower one, and w·w = d·w + e.
use Rattle.std.specs.Prelude.{◌≡◌, ℕ, ◌+◌, ◌*◌, ◌/◌, ◌%◌, ◌<◌, Option, ◌≢◌}
use Rattle.std.specs.Option.{option_map}
use Rattle.field.specs.Arith.{Arith}
use Rattle.field.specs.declared.doubled.Doubled.{Doubled}

-- no element z of the lower field has z·z = d·z + e
abbrev pub Rootless : Arith → ℕ → ℕ → Type 0
Rootless A d e = (z : ℕ) → z < A.order → A.product z z ≢ A.sum (A.product d z) e

module _ (A : Arith) where
  -- the code of a + b·w
  abbrev pub pair : ℕ → ℕ → ℕ
  pair a b = a + A.order * b

  -- a and b of the code of a + b·w
  abbrev pub low : ℕ → ℕ
  low x = x % A.order

  abbrev pub high : ℕ → ℕ
  high x = x / A.order

-- the code of an element, from the codes of the lower field's elements
abbrev pub doubled_code : (A : Arith) {E : Type 0} (code : E → ℕ) → Doubled E → ℕ
doubled_code A code x = pair A (code x.low) (code x.high)

module _ (A : Arith) (d e : ℕ) where
  infixl 60 ◌⊕◌
  infixl 70 ◌⊗◌
  abbrev ◌⊕◌ : ℕ → ℕ → ℕ
  x ⊕ y = A.sum x y

  abbrev ◌⊗◌ : ℕ → ℕ → ℕ
  x ⊗ y = A.product x y

  -- (a + b·w)·(f + g·w) = (a·f + b·g·e) + (a·g + b·f + b·g·d)·w
  abbrev pub pair_product : ℕ → ℕ → ℕ → ℕ → ℕ
  pair_product a b f g = pair A (a ⊗ f ⊕ b ⊗ g ⊗ e) (a ⊗ g ⊕ b ⊗ f ⊕ b ⊗ g ⊗ d)

  -- N = a·a + a·b·d - b·b·e
  abbrev pub norm : ℕ → ℕ → ℕ
  norm a b = a ⊗ a ⊕ a ⊗ b ⊗ d ⊕ A.negative (b ⊗ b ⊗ e)

  -- (a + b·d)·n - (b·n)·w
  abbrev pub pair_over : ℕ → ℕ → ℕ → ℕ
  pair_over a b n = pair A ((a ⊕ b ⊗ d) ⊗ n) (A.negative (b ⊗ n))

  -- (a + b·d)/N - (b/N)·w, absent where N has no inverse: for zero alone
  abbrev pub pair_inverse : ℕ → ℕ → Option ℕ
  pair_inverse a b = option_map (pair_over a b) (A.inverse (norm a b))

  abbrev pub doubled : Arith
  doubled = record {
    order = A.order * A.order;
    mark = A.mark + 16;
    sum = λ x y. pair A (low A x ⊕ low A y) (high A x ⊕ high A y);
    negative = λ x. pair A (A.negative (low A x)) (A.negative (high A x));
    product = λ x y. pair_product (low A x) (high A x) (low A y) (high A y);
    inverse = λ x. pair_inverse (low A x) (high A x);
  }

  -- Why these are the formulas: the lower field stands in the doubled one with its own codes, sums and products; w, whose code is the lower
  -- order, has w·w = d·w + e; and the code of a + b·w is the one that is said above.
  pub record Extends : Type 0 where
    pub lower_sum : (a b : ℕ) → a < A.order → b < A.order → doubled.sum a b ≡ a ⊕ b
    pub lower_product : (a b : ℕ) → a < A.order → b < A.order → doubled.product a b ≡ a ⊗ b
    pub square : doubled.product A.order A.order ≡ doubled.sum (doubled.product d A.order) e
    pub element : (a b : ℕ) → a < A.order → b < A.order → doubled.sum a (doubled.product b A.order) ≡ pair A a b
