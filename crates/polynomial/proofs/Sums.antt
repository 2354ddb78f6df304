-- Sums, products, powers and the values of polynomials in any commutative ring.
use Rattle.std.proofs.Common.{◌≡◌, ℕ, zero, suc, ◌<◌, [], ◌∷◌, sym, refl, ap, ◌∙◌, ⊎_elim, arith}
use mathlib.Core.Path.{fun_ext}
use Rattle.std.proofs.lemmas.Bool.{cases_lt}
use Rattle.field.proofs.Solve.{var, ◌⊗◌, ring}
use Rattle.field.proofs.Ring.{Ring, add_zero, mul_one, mul_zero, add_mul, add_swap}

module _ {E : Type 0} (R : Ring E) where
  -- the sum of f 0, .., f (n - 1)
  abbrev pub sums : ℕ → (ℕ → E) → E
  sums zero f = R.zero
  sums (suc n) f = R.add (sums n f) (f n)

  -- the product of f 0, .., f (n - 1)
  abbrev pub products : ℕ → (ℕ → E) → E
  products zero f = R.one
  products (suc n) f = R.mul (products n f) (f n)

  abbrev pub powers : E → ℕ → E
  powers x zero = R.one
  powers x (suc n) = R.mul x (powers x n)

  sums_same : (n : ℕ) (f g : ℕ → E) → ((j : ℕ) → j < n → f j ≡ g j) → sums n f ≡ sums n g
  sums_same zero f g same = refl
  sums_same (suc n) f g same = ap (λ s. R.add s (f n)) (sums_same n f g (λ j h. same j (omega arith))) ∙ ap (R.add (sums n g)) (same n (omega arith))

  sums_first : (n : ℕ) (f : ℕ → E) → sums (suc n) f ≡ R.add (f 0) (sums n (λ j. f (suc j)))
  sums_first zero f = R.add_comm R.zero (f 0)
  sums_first (suc n) f = ap (λ s. R.add s (f (suc n))) (sums_first n f) ∙ R.add_assoc (f 0) (sums n (λ j. f (suc j))) (f (suc n))

  sums_mul : (n : ℕ) (x : E) (f : ℕ → E) → sums n (λ j. R.mul x (f j)) ≡ R.mul x (sums n f)
  sums_mul zero x f = sym (mul_zero R x)
  sums_mul (suc n) x f = ap (λ s. R.add s (R.mul x (f n))) (sums_mul n x f) ∙ sym (R.mul_add x (sums n f) (f n))

  sums_add : (n : ℕ) (f g : ℕ → E) → sums n (λ j. R.add (f j) (g j)) ≡ R.add (sums n f) (sums n g)
  sums_add zero f g = sym (R.zero_add R.zero)
  sums_add (suc n) f g = ap (λ s. R.add s (R.add (f n) (g n))) (sums_add n f g) ∙ add_swap R (sums n f) (sums n g) (f n) (g n)

  pub sums_zero : (n : ℕ) (f : ℕ → E) → ((j : ℕ) → j < n → f j ≡ R.zero) → sums n f ≡ R.zero
  sums_zero zero f none = refl
  sums_zero (suc n) f none = ap (λ s. R.add s (f n)) (sums_zero n f (λ j h. none j (omega arith))) ∙ R.zero_add (f n) ∙ none n (omega arith)

  -- a sum in which all but one are zero
  pub sums_one : (n : ℕ) (f : ℕ → E) (i : ℕ) → i < n → ((j : ℕ) → j < n → (j ≡ i → ⊥) → f j ≡ R.zero) → sums n f ≡ f i
  sums_one zero f i h none = absurd (omega arith)
  sums_one (suc n) f i h none =
      ⊎_elim
      (λ l.
      ap (λ s. R.add s (f n)) (sums_one n f i l (λ j k. none j (omega arith)))
      ∙ ap (R.add (f i)) (none n (omega arith) (λ e. omega arith))
      ∙ add_zero R (f i))
      (λ l.
      let same : n ≡ i = omega arith in
      ap (λ s. R.add s (f n)) (sums_zero n f (λ j k. none j (omega arith) (λ e. omega arith)))
      ∙ R.zero_add (f n)
      ∙ ap f same)
      (cases_lt i n)

  sums_swap : (n k : ℕ) (f : ℕ → ℕ → E) → sums n (λ i. sums k (f i)) ≡ sums k (λ j. sums n (λ i. f i j))
  sums_swap zero k f = sym (sums_zero k (λ j. R.zero) (λ j h. refl))
  sums_swap (suc n) k f = ap (λ s. R.add s (sums k (f n))) (sums_swap n k f) ∙ sym (sums_add k (λ j. sums n (λ i. f i j)) (f n))

  -- the value at x of the polynomial with the coefficients c 0, .., c (n - 1)
  abbrev pub value_at : ℕ → (ℕ → E) → E → E
  value_at n c x = sums n (λ j. R.mul (c j) (powers x j))

  pub horner_rule : (n : ℕ) (c : ℕ → E) (x : E) → value_at (suc n) c x ≡ R.add (R.mul (value_at n (λ j. c (suc j)) x) x) (c 0)
  horner_rule n c x =
      sums_first n (λ j. R.mul (c j) (powers x j))
      ∙ ap (λ w. R.add w (sums n (λ j. R.mul (c (suc j)) (R.mul x (powers x j))))) (mul_one R (c 0))
      ∙ ap (R.add (c 0))
      (ap (sums n) (fun_ext (λ j. ring R (c (suc j) ∷ x ∷ powers x j ∷ []) (var 0 ⊗ (var 1 ⊗ var 2)) (var 1 ⊗ (var 0 ⊗ var 2)) refl))
      ∙ sums_mul n x (λ j. R.mul (c (suc j)) (powers x j))
      ∙ R.mul_comm x (value_at n (λ j. c (suc j)) x))
      ∙ R.add_comm (c 0) (R.mul (value_at n (λ j. c (suc j)) x) x)

  pub value_zero : (n : ℕ) (c : ℕ → E) → 0 < n → value_at n c R.zero ≡ c 0
  value_zero zero c some = absurd (omega arith)
  value_zero (suc n) c some =
      horner_rule n c R.zero ∙ ap (λ w. R.add w (c 0)) (mul_zero R (value_at n (λ j. c (suc j)) R.zero)) ∙ R.zero_add (c 0)

  pub value_same : (n : ℕ) (c d : ℕ → E) (x : E) → ((j : ℕ) → j < n → c j ≡ d j) → value_at n c x ≡ value_at n d x
  value_same n c d x same =
      sums_same n (λ j. R.mul (c j) (powers x j)) (λ j. R.mul (d j) (powers x j)) (λ j h. ap (λ w. R.mul w (powers x j)) (same j h))

  pub value_add : (n : ℕ) (c d : ℕ → E) (x : E) → value_at n (λ j. R.add (c j) (d j)) x ≡ R.add (value_at n c x) (value_at n d x)
  value_add n c d x =
      ap (sums n) (fun_ext (λ j. add_mul R (c j) (d j) (powers x j))) ∙ sums_add n (λ j. R.mul (c j) (powers x j)) (λ j. R.mul (d j) (powers x j))

  pub value_mul : (n : ℕ) (a : E) (c : ℕ → E) (x : E) → value_at n (λ j. R.mul a (c j)) x ≡ R.mul a (value_at n c x)
  value_mul n a c x = ap (sums n) (fun_ext (λ j. R.mul_assoc a (c j) (powers x j))) ∙ sums_mul n a (λ j. R.mul (c j) (powers x j))

  -- a symmetric square of coefficients gives the same value whichever of two numbers is taken first
  pub symmetric : (n : ℕ) (a : ℕ → ℕ → E) → ((i j : ℕ) → a i j ≡ a j i) → (u v : E) →
      value_at n (λ j. value_at n (λ i. a i j) u) v ≡ value_at n (λ j. value_at n (λ i. a i j) v) u
  symmetric n a both u v =
      ap (sums n) (fun_ext (λ j. R.mul_comm (value_at n (λ i. a i j) u) (powers v j) ∙ sym (sums_mul n (powers v j) (λ i. R.mul (a i j) (powers u i)))))
      ∙ sums_swap n n (λ j i. R.mul (powers v j) (R.mul (a i j) (powers u i)))
      ∙ ap (sums n) (fun_ext (λ i. ap (sums n) (fun_ext (λ j. turn i j)) ∙ sums_mul n (powers u i) (λ j. R.mul (a j i) (powers v j)) ∙ R.mul_comm (powers u i) (value_at n (λ j. a j i) v)))
    where
      turn : (i j : ℕ) → R.mul (powers v j) (R.mul (a i j) (powers u i)) ≡ R.mul (powers u i) (R.mul (a j i) (powers v j))
      turn i j =
          ring R (powers v j ∷ a i j ∷ powers u i ∷ []) (var 0 ⊗ (var 1 ⊗ var 2)) (var 2 ⊗ (var 1 ⊗ var 0)) refl
          ∙ ap (λ w. R.mul (powers u i) (R.mul w (powers v j))) (both i j)
