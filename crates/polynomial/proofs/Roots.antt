-- Zeros of polynomials over any field: dividing by x - a, and why a polynomial with as many different zeros as coefficients vanishes.
use Rattle.std.proofs.Common.{◌≡◌, ℕ, zero, suc, ◌<◌, [], ◌∷◌, sym, refl, ap, ◌∙◌, ⊎_elim, arith}
use Rattle.field.proofs.Ring.{Ring, Field, add_zero, mul_one, mul_zero, zero_mul, equal, zero_factor}
use Rattle.field.proofs.Solve.{var, #1, ◌⊕◌, ◌⊗◌, ⊖◌, ring}
use Rattle.polynomial.proofs.Sums.{value_at, value_add, value_mul, horner_rule}

-- no point comes twice among p 0, .., p (n - 1)
abbrev pub Apart : {E : Type 0} → ℕ → (ℕ → E) → Type 0
Apart n p = (i j : ℕ) → i < n → j < n → p i ≡ p j → i ≡ j

module _ {E : Type 0} (R : Ring E) where
  -- the n coefficients of the quotient of c 0 + .. + c n·x^n by x - a
  quotient : ℕ → (ℕ → E) → E → ℕ → E
  quotient zero c a j = R.zero
  quotient (suc n) c a zero = value_at R (suc n) (λ i. c (suc i)) a
  quotient (suc n) c a (suc j) = quotient n (λ i. c (suc i)) a j

  -- ((x - a)·q + v)·x + c = (x - a)·(q·x + v) + (v·a + c)
  division_step : (x a q v c : E) →
      R.add (R.mul (R.add (R.mul (R.add x (R.neg a)) q) v) x) c ≡ R.add (R.mul (R.add x (R.neg a)) (R.add (R.mul q x) v)) (R.add (R.mul v a) c)
  division_step x a q v c =
      ring R (x ∷ a ∷ q ∷ v ∷ c ∷ []) (((var 0 ⊕ ⊖ var 1) ⊗ var 2 ⊕ var 3) ⊗ var 0 ⊕ var 4) ((var 0 ⊕ ⊖ var 1) ⊗ (var 2 ⊗ var 0 ⊕ var 3) ⊕ (var 3 ⊗ var 1 ⊕ var 4)) refl

  -- a polynomial is its quotient times x - a, plus its value at a
  division : (n : ℕ) (c : ℕ → E) (a x : E) →
      value_at R (suc n) c x ≡ R.add (R.mul (R.add x (R.neg a)) (value_at R n (quotient n c a) x)) (value_at R (suc n) c a)
  unfolding quotient
  division zero c a x = sym (ap (λ w. R.add w (value_at R 1 c a)) (mul_zero R (R.add x (R.neg a))) ∙ R.zero_add (value_at R 1 c a))
  division (suc n) c a x =
      let rest = λ (i : ℕ). c (suc i) in
      let q = value_at R n (quotient n rest a) x in
      let v = value_at R (suc n) rest a in
      horner_rule R (suc n) c x
      ∙ ap (λ w. R.add (R.mul w x) (c 0)) (division n rest a x)
      ∙ division_step x a q v (c 0)
      ∙ ap (λ w. R.add (R.mul (R.add x (R.neg a)) w) (R.add (R.mul v a) (c 0))) (sym (horner_rule R n (quotient (suc n) c a) x))
      ∙ ap (R.add (R.mul (R.add x (R.neg a)) (value_at R (suc n) (quotient (suc n) c a) x))) (sym (horner_rule R (suc n) c a))

  -- where the quotient and the value at a are zero, all coefficients are
  quotient_zero : (n : ℕ) (c : ℕ → E) (a : E) → ((j : ℕ) → j < n → quotient n c a j ≡ R.zero) → value_at R (suc n) c a ≡ R.zero → (j : ℕ) → j < suc n → c j ≡ R.zero
  unfolding quotient
  quotient_zero zero c a none at_a zero h = sym (mul_one R (c 0)) ∙ sym (R.zero_add (R.mul (c 0) R.one)) ∙ at_a
  quotient_zero zero c a none at_a (suc j) h = absurd (omega arith)
  quotient_zero (suc n) c a none at_a zero h =
      sym (R.zero_add (c 0))
      ∙ ap (λ w. R.add w (c 0)) (sym (zero_mul R a))
      ∙ ap (λ w. R.add (R.mul w a) (c 0)) (sym (none 0 (omega arith)))
      ∙ sym (horner_rule R (suc n) c a)
      ∙ at_a
  quotient_zero (suc n) c a none at_a (suc j) h = quotient_zero n (λ i. c (suc i)) a (λ i l. none (suc i) (omega arith)) (none 0 (omega arith)) j (omega arith)

module _ {E : Type 0} (K : Field E) where
  abbrev R : Ring E
  R = K.ring

  pub vanishing : (n : ℕ) (c p : ℕ → E) → Apart n p → ((i : ℕ) → i < n → value_at R n c (p i) ≡ R.zero) → (j : ℕ) → j < n → c j ≡ R.zero
  vanishing zero c p apart zeros = λ j h. absurd (omega arith)
  vanishing (suc n) c p apart zeros =
      let a = p n in
      let q = quotient R n c a in
      quotient_zero R n c a
      (vanishing n q p (λ i j h k. apart i j (omega arith) (omega arith))
      (λ i h.
      ⊎_elim
      (λ e. absurd (let same : i ≡ n = apart i n (omega arith) (omega arith) (equal R (p i) a e) in omega arith))
      (λ e. e)
      (zero_factor K (R.add (p i) (R.neg a)) (value_at R n q (p i))
      (sym (add_zero R (R.mul (R.add (p i) (R.neg a)) (value_at R n q (p i))))
      ∙ ap (R.add (R.mul (R.add (p i) (R.neg a)) (value_at R n q (p i)))) (sym (zeros n (omega arith)))
      ∙ sym (division R n c a (p i))
      ∙ zeros i (omega arith)))))
      (zeros n (omega arith))

  minus_one : E
  minus_one = R.neg R.one

  -- x - y, with the factor written out
  minus_is : (x y : E) → R.add x (R.mul minus_one y) ≡ R.add x (R.neg y)
  unfolding minus_one
  minus_is x y = ring R (x ∷ y ∷ []) (var 0 ⊕ ⊖ #1 ⊗ var 1) (var 0 ⊕ ⊖ var 1) refl

  -- polynomials of n coefficients that agree at n different points have the same coefficients
  pub same_coefficients : (n : ℕ) (c d p : ℕ → E) → Apart n p → ((i : ℕ) → i < n → value_at R n c (p i) ≡ value_at R n d (p i)) → (j : ℕ) → j < n → c j ≡ d j
  same_coefficients n c d p apart agree j h =
      equal R (c j) (d j)
      (sym (minus_is (c j) (d j))
      ∙ vanishing n (λ i. R.add (c i) (R.mul minus_one (d i))) p apart
      (λ i k.
      value_add R n c (λ l. R.mul minus_one (d l)) (p i)
      ∙ ap (R.add (value_at R n c (p i))) (value_mul R n minus_one d (p i))
      ∙ minus_is (value_at R n c (p i)) (value_at R n d (p i))
      ∙ ap (λ w. R.add w (R.neg (value_at R n d (p i)))) (agree i k)
      ∙ R.add_neg (value_at R n d (p i)))
      j h)
