-- Functions that polynomials give, over any field: how they are put together from linear factors, and the one through given points.
use Rattle.std.proofs.Common.{◌≡◌, ℕ, zero, suc, ◌<◌, ◌≤◌, ◌⊎◌, [], ◌∷◌, sym, refl, ap, ◌∙◌, inl, inr, ⊎_elim, arith}
use Rattle.std.proofs.lemmas.Bool.{cases_lt}
use Rattle.field.proofs.Ring.{Ring, Field, add_zero, mul_one, mul_zero, zero_mul, equal, zero_factor}
use Rattle.field.proofs.Solve.{var, #1, ◌⊕◌, ◌⊗◌, ⊖◌, ring}
use Rattle.polynomial.proofs.Roots.{Apart, same_coefficients}
use Rattle.polynomial.proofs.Sums.{sums, products, powers, sums_zero, sums_one, value_at, value_same, value_add, value_mul, horner_rule}

module _ {E : Type 0} (R : Ring E) where
  -- a function that a polynomial of n coefficients gives, with zeros behind them
  pub record Polynomial (n : ℕ) (f : E → E) : Type 0 where
    pub coefficient : ℕ → E
    pub none_above : (j : ℕ) → n ≤ j → coefficient j ≡ R.zero
    pub gives : (x : E) → f x ≡ value_at R n coefficient x

  abbrev pub minus : E → E → E
  minus x y = R.add x (R.neg y)

  -- what follows a first coefficient
  abbrev behind : E → (ℕ → E) → ℕ → E
  behind a c zero = a
  behind a c (suc j) = c j

  constant : (a : E) → Polynomial 1 (λ x. a)
  constant a = record {
    coefficient = behind a (λ j. R.zero);
    none_above = above;
    gives = λ x. sym (R.zero_add (R.mul a R.one) ∙ mul_one R a);
  }
    where
      above : (j : ℕ) → 1 ≤ j → behind a (λ j. R.zero) j ≡ R.zero
      above zero h = absurd (omega arith)
      above (suc j) h = refl

  -- one coefficient more changes nothing, as it is zero
  longer : (n : ℕ) (c : ℕ → E) (x : E) → c n ≡ R.zero → value_at R (suc n) c x ≡ value_at R n c x
  longer n c x e =
      ap (λ w. R.add (value_at R n c x) (R.mul w (powers R x n))) e
      ∙ ap (R.add (value_at R n c x)) (zero_mul R (powers R x n))
      ∙ add_zero R (value_at R n c x)

  longer_by : (n k : ℕ) (c : ℕ → E) (x : E) → n ≤ k → ((j : ℕ) → n ≤ j → c j ≡ R.zero) → value_at R k c x ≡ value_at R n c x
  longer_by n zero c x h none = let same : zero ≡ n = omega arith in ap (λ d. value_at R d c x) same
  longer_by n (suc k) c x h none =
      ⊎_elim (λ l. longer k c x (none k (omega arith)) ∙ longer_by n k c x (omega arith) none)
      (λ l. let same : suc k ≡ n = omega arith in ap (λ d. value_at R d c x) same)
      (cases_lt n (suc k))

  pub lengthened : (n k : ℕ) (f : E → E) → n ≤ k → Polynomial n f → Polynomial k f
  lengthened n k f h p = record {
    coefficient = p.coefficient;
    none_above = λ j l. p.none_above j (omega arith);
    gives = λ x. p.gives x ∙ sym (longer_by n k p.coefficient x h p.none_above);
  }

  pub scaled : (n : ℕ) (f : E → E) (a : E) → Polynomial n f → Polynomial n (λ x. R.mul a (f x))
  scaled n f a p = record {
    coefficient = λ j. R.mul a (p.coefficient j);
    none_above = λ j h. ap (R.mul a) (p.none_above j h) ∙ mul_zero R a;
    gives = λ x. ap (R.mul a) (p.gives x) ∙ sym (value_mul R n a p.coefficient x);
  }

  summed : (n : ℕ) (f g : E → E) → Polynomial n f → Polynomial n g → Polynomial n (λ x. R.add (f x) (g x))
  summed n f g p q = record {
    coefficient = λ j. R.add (p.coefficient j) (q.coefficient j);
    none_above = λ j h. ap (λ w. R.add w (q.coefficient j)) (p.none_above j h) ∙ R.zero_add (q.coefficient j) ∙ q.none_above j h;
    gives = λ x.
        ap (λ w. R.add w (g x)) (p.gives x)
        ∙ ap (R.add (value_at R n p.coefficient x)) (q.gives x)
        ∙ sym (value_add R n p.coefficient q.coefficient x);
  }

  -- times x, which moves every coefficient up by one
  raised : (n : ℕ) (f : E → E) → Polynomial n f → Polynomial (suc n) (λ x. R.mul (f x) x)
  raised n f p = record {
    coefficient = behind R.zero p.coefficient;
    none_above = above;
    gives = λ x.
        ap (λ w. R.mul w x) (p.gives x)
        ∙ sym (add_zero R (R.mul (value_at R n p.coefficient x) x))
        ∙ sym (horner_rule R n (behind R.zero p.coefficient) x);
  }
    where
      above : (j : ℕ) → suc n ≤ j → behind R.zero p.coefficient j ≡ R.zero
      above zero h = absurd (omega arith)
      above (suc j) h = p.none_above j (omega arith)

  -- the same function
  alike : (n : ℕ) (f g : E → E) → ((x : E) → g x ≡ f x) → Polynomial n f → Polynomial n g
  alike n f g same p = record { coefficient = p.coefficient; none_above = p.none_above; gives = λ x. same x ∙ p.gives x }

  -- times r - x
  lowered : (n : ℕ) (f : E → E) (r : E) → Polynomial n f → Polynomial (suc n) (λ x. R.mul (minus r x) (f x))
  lowered n f r p =
      alike (suc n) (λ x. R.add (R.mul r (f x)) (R.mul (R.neg R.one) (R.mul (f x) x))) (λ x. R.mul (minus r x) (f x))
      (λ x. ring R (r ∷ x ∷ f x ∷ []) ((var 0 ⊕ ⊖ var 1) ⊗ var 2) (var 0 ⊗ var 2 ⊕ ⊖ #1 ⊗ (var 2 ⊗ var 1)) refl)
      (summed (suc n) (λ x. R.mul r (f x)) (λ x. R.mul (R.neg R.one) (R.mul (f x) x))
      (lengthened n (suc n) (λ x. R.mul r (f x)) (omega arith) (scaled n f r p))
      (scaled (suc n) (λ x. R.mul (f x) x) (R.neg R.one) (raised n f p)))

  -- a sum of such functions
  total : (n k : ℕ) (f : ℕ → E → E) → ((i : ℕ) → i < k → Polynomial n (f i)) → Polynomial n (λ x. sums R k (λ i. f i x))
  total n zero f each = record {
    coefficient = λ j. R.zero;
    none_above = λ j h. refl;
    gives = λ x. sym (sums_zero R n (λ j. R.mul R.zero (powers R x j)) (λ j h. zero_mul R (powers R x j)));
  }
  total n (suc k) f each = summed n (λ x. sums R k (λ i. f i x)) (f k) (total n k f (λ i h. each i (omega arith))) (each k (omega arith))

  -- the product of r - x over the first n of the points r
  pub with_roots : (n : ℕ) (p : ℕ → E) → Polynomial (suc n) (λ x. products R n (λ i. minus (p i) x))
  with_roots zero p = constant R.one
  with_roots (suc n) p =
      alike (suc (suc n)) (λ x. R.mul (minus (p n) x) (products R n (λ i. minus (p i) x))) (λ x. products R (suc n) (λ i. minus (p i) x))
      (λ x. R.mul_comm (products R n (λ i. minus (p i) x)) (minus (p n) x))
      (lowered (suc n) (λ x. products R n (λ i. minus (p i) x)) (p n) (with_roots n p))

  pub product_zero : (n : ℕ) (f : ℕ → E) (i : ℕ) → i < n → f i ≡ R.zero → products R n f ≡ R.zero
  product_zero zero f i h e = absurd (omega arith)
  product_zero (suc n) f i h e =
      ⊎_elim
      (λ l. ap (λ w. R.mul w (f n)) (product_zero n f i l e) ∙ zero_mul R (f n))
      (λ l. let same : i ≡ n = omega arith in ap (R.mul (products R n f)) (sym (ap f same) ∙ e) ∙ mul_zero R (products R n f))
      (cases_lt i n)

  product_ones : (n : ℕ) (f : ℕ → E) → ((i : ℕ) → i < n → f i ≡ R.one) → products R n f ≡ R.one
  product_ones zero f ones = refl
  product_ones (suc n) f ones =
      ap (λ w. R.mul w (f n)) (product_ones n f (λ i h. ones i (omega arith))) ∙ R.one_mul (f n) ∙ ones n (omega arith)

  -- What points r put into the weight of a point s, for the value at x: one if r is s, and else (r - x)/(r - s).
  pub record Factors (factor : E → E → E → E) : Type 0 where
    pub own : (s x : E) → factor s x s ≡ R.one
    pub other : (s r : E) → (r ≡ s → ⊥) → (y : E) × ((x : E) → factor s x r ≡ R.mul (minus r x) y) × (R.mul (minus r s) y ≡ R.one)

module _ {E : Type 0} (K : Field E) where
  abbrev R : Ring E
  R = K.ring

  same_or_not : (x y : E) → (x ≡ y) ⊎ (x ≡ y → ⊥)
  same_or_not x y =
      ⊎_elim (λ e. inl (equal R x y e)) (λ ne. inr (λ e. ne (ap (λ w. R.add w (R.neg y)) e ∙ R.add_neg y))) (K.zero_or_not (minus R x y))

  -- a product is not zero where no factor is
  pub product_nonzero : (n : ℕ) (f : ℕ → E) → (R.one ≡ R.zero → ⊥) → ((i : ℕ) → i < n → f i ≡ R.zero → ⊥) → products R n f ≡ R.zero → ⊥
  product_nonzero zero f one each e = one e
  product_nonzero (suc n) f one each e =
      ⊎_elim (product_nonzero n f one (λ i h. each i (omega arith))) (each n (omega arith)) (zero_factor K (products R n f) (f n) e)

  module _ (factor : E → E → E → E) (F : Factors R factor) where
    abbrev pub weight : ℕ → (ℕ → E) → E → E → E
    weight n p s x = products R n (λ j. factor s x (p j))

    one_more : (n : ℕ) (p : ℕ → E) (s : E) (d : ℕ) → (p n ≡ s → ⊥) → Polynomial R d (weight n p s) → Polynomial R (suc d) (weight (suc n) p s)
    one_more n p s d differ poly =
        let (y, is, unit) = F.other s (p n) differ in
        alike R (suc d) (λ x. R.mul y (R.mul (minus R (p n) x) (weight n p s x))) (weight (suc n) p s)
        (λ x.
        ap (R.mul (weight n p s x)) (is x)
        ∙ ring R (weight n p s x ∷ minus R (p n) x ∷ y ∷ []) (var 0 ⊗ (var 1 ⊗ var 2)) (var 2 ⊗ (var 1 ⊗ var 0)) refl)
        (scaled R (suc d) (λ x. R.mul (minus R (p n) x) (weight n p s x)) y (lowered R d (weight n p s) (p n) poly))

    own_more : (n : ℕ) (p : ℕ → E) (s : E) (d : ℕ) → p n ≡ s → Polynomial R d (weight n p s) → Polynomial R d (weight (suc n) p s)
    own_more n p s d e poly =
        alike R d (weight n p s) (weight (suc n) p s) (λ x. ap (R.mul (weight n p s x)) (ap (factor s x) e ∙ F.own s x) ∙ mul_one R (weight n p s x)) poly

    -- the weight of a point, as a function of x, has a coefficient more than there are points, and one less if it is one of them
    weight_polynomial : (n : ℕ) (p : ℕ → E) (s : E) → Polynomial R (suc n) (weight n p s)
    weight_polynomial zero p s = constant R R.one
    weight_polynomial (suc n) p s =
        ⊎_elim (λ e. lengthened R (suc n) (suc (suc n)) (weight (suc n) p s) (omega arith) (own_more n p s (suc n) e (weight_polynomial n p s))) (λ ne. one_more n p s (suc n) ne (weight_polynomial n p s))
        (same_or_not (p n) s)

    own_weight_polynomial : (n : ℕ) (p : ℕ → E) (i : ℕ) → i < n → Polynomial R n (weight n p (p i))
    own_weight_polynomial zero p i h = absurd (omega arith)
    own_weight_polynomial (suc n) p i h =
        ⊎_elim (λ e. own_more n p (p i) (suc n) e (weight_polynomial n p (p i)))
        (λ ne. one_more n p (p i) n ne (own_weight_polynomial n p i (⊎_elim (λ l. l) (λ l. absurd (ne (let same : n ≡ i = omega arith in ap p same))) (cases_lt i n))))
        (same_or_not (p n) (p i))

    -- the Lagrange sum
    abbrev pub lagrange : ℕ → (ℕ → E) → (ℕ → E) → E → E
    lagrange n p y x = sums R n (λ i. R.mul (y i) (weight n p (p i) x))

    lagrange_polynomial : (n : ℕ) (p y : ℕ → E) → Polynomial R n (lagrange n p y)
    lagrange_polynomial n p y =
        total R n n (λ i x. R.mul (y i) (weight n p (p i) x)) (λ i h. scaled R n (weight n p (p i)) (y i) (own_weight_polynomial n p i h))

    -- it has the value at each point
    lagrange_meets : (n : ℕ) (p y : ℕ → E) → Apart n p → (m : ℕ) → m < n → lagrange n p y (p m) ≡ y m
    lagrange_meets n p y apart m h =
        sums_one R n (λ i. R.mul (y i) (weight n p (p i) (p m))) m h
        (λ i k ne.
        let differ : p m ≡ p i → ⊥ = λ e. ne (sym (apart m i h k e)) in
        let (z, is, unit) = F.other (p i) (p m) differ in
        ap (R.mul (y i))
        (product_zero R n (λ j. factor (p i) (p m) (p j)) m h (is (p m) ∙ ap (λ w. R.mul w z) (R.add_neg (p m)) ∙ zero_mul R z))
        ∙ mul_zero R (y i))
        ∙ ap (R.mul (y m))
        (product_ones R n (λ j. factor (p m) (p m) (p j))
        (λ j k.
        ⊎_elim (λ e. ap (factor (p m) (p m)) e ∙ F.own (p m) (p m))
        (λ ne. let (z, is, unit) = F.other (p m) (p j) ne in is (p m) ∙ unit)
        (same_or_not (p j) (p m))))
        ∙ mul_one R (y m)

    -- the coefficients of a polynomial through the points, and that it goes through them
    pub through : (n : ℕ) (p y : ℕ → E) → ℕ → E
    through n p y = (lagrange_polynomial n p y).coefficient

    pub through_meets : (n : ℕ) (p y : ℕ → E) → Apart n p → (m : ℕ) → m < n → value_at R n (through n p y) (p m) ≡ y m
    unfolding through
    through_meets n p y apart m h = sym ((lagrange_polynomial n p y).gives (p m)) ∙ lagrange_meets n p y apart m h

    -- the Lagrange sum is the value of any polynomial through the points
    pub lagrange_value : (n : ℕ) (p y c : ℕ → E) → Apart n p → ((m : ℕ) → m < n → value_at R n c (p m) ≡ y m) → (x : E) → lagrange n p y x ≡ value_at R n c x
    unfolding through
    lagrange_value n p y c apart meets x =
        (lagrange_polynomial n p y).gives x
        ∙ value_same R n (through n p y) c x (same_coefficients K n (through n p y) c p apart (λ m h. through_meets n p y apart m h ∙ sym (meets m h)))
