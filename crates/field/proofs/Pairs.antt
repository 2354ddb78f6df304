-- Pairs a + b·w over a ring, multiplied by the rule w·w = d·w + e, are a ring; over a field they have inverses where z·z = d·z + e has no root.
use Rattle.std.proofs.Common.{◌≡◌, true, List, [], ◌∷◌, sym, refl, ap, ◌∙◌, ⊎_elim}
use Rattle.field.proofs.Ring.{Ring, Field, zero_factor}
use Rattle.field.proofs.Solve.{Expr, var, #0, #1, ◌⊕◌, ◌⊗◌, ⊖◌, match, value, ring}

abbrev pub Exprs : Type 0
Exprs = Expr × Expr

abbrev D : Expr
D = var 0

abbrev E : Expr
E = var 1

abbrev X : Exprs
X = (var 2, var 3)

abbrev Y : Exprs
Y = (var 4, var 5)

abbrev Z : Exprs
Z = (var 6, var 7)

abbrev sum : Exprs → Exprs → Exprs
sum (a, b) (f, g) = (a ⊕ f, b ⊕ g)

abbrev negative : Exprs → Exprs
negative (a, b) = (⊖ a, ⊖ b)

abbrev product : Exprs → Exprs → Exprs
product (a, b) (f, g) = (a ⊗ f ⊕ b ⊗ g ⊗ E, a ⊗ g ⊕ b ⊗ f ⊕ b ⊗ g ⊗ D)

-- a·a + a·b·d - b·b·e
abbrev pub norm_of : Exprs → Expr
norm_of (a, b) = a ⊗ a ⊕ a ⊗ b ⊗ D ⊕ ⊖ (b ⊗ b ⊗ E)

-- (a + b·d)·n - (b·n)·w
abbrev over_of : Exprs → Expr → Exprs
over_of (a, b) n = ((a ⊕ b ⊗ D) ⊗ n, ⊖ (b ⊗ n))

module _ {C : Type 0} (R : Ring C) (d e : C) where
  abbrev pub both : List C → Exprs → C × C
  both values p = (value R values p.0, value R values p.1)

  -- an equation of pairs is two equations
  pub solve : (values : List C) (p q : Exprs) → match p.0 q.0 ≡ true → match p.1 q.1 ≡ true → both values p ≡ both values q
  solve values p q low high =
      ap {A = C} {B = C × C} (λ a. (a, value R values p.1)) (ring R values p.0 q.0 low)
      ∙ ap {A = C} {B = C × C} (λ b. (value R values q.0, b)) (ring R values p.1 q.1 high)

  -- the values of the variables: d, e, and the parts of three pairs
  abbrev pub values : C × C → C × C → C × C → List C
  values x y z = d ∷ e ∷ x.0 ∷ x.1 ∷ y.0 ∷ y.1 ∷ z.0 ∷ z.1 ∷ []

  abbrev pub none : C × C
  none = (R.zero, R.zero)

  abbrev pub pairs : Ring (C × C)
  pairs = record {
    zero = none;
    one = (R.one, R.zero);
    add = λ x y. both (values x y none) (sum X Y);
    mul = λ x y. both (values x y none) (product X Y);
    neg = λ x. both (values x none none) (negative X);
    add_assoc = λ x y z. solve (values x y z) (sum (sum X Y) Z) (sum X (sum Y Z)) refl refl;
    add_comm = λ x y. solve (values x y none) (sum X Y) (sum Y X) refl refl;
    zero_add = λ x. solve (values x none none) (sum (#0, #0) X) X refl refl;
    add_neg = λ x. solve (values x none none) (sum X (negative X)) (#0, #0) refl refl;
    mul_assoc = λ x y z. solve (values x y z) (product (product X Y) Z) (product X (product Y Z)) refl refl;
    mul_comm = λ x y. solve (values x y none) (product X Y) (product Y X) refl refl;
    one_mul = λ x. solve (values x none none) (product (#1, #0) X) X refl refl;
    mul_add = λ x y z. solve (values x y z) (product X (sum Y Z)) (sum (product X Y) (product X Z)) refl refl;
  }

  -- an element of the ring below, and w
  abbrev pub constant : C → C × C
  constant a = (a, R.zero)

  abbrev pub w : C × C
  w = (R.zero, R.one)

  pub constant_sum : (a f : C) → pairs.add (constant a) (constant f) ≡ constant (R.add a f)
  constant_sum a f = solve (d ∷ e ∷ a ∷ f ∷ []) (sum (var 2, #0) (var 3, #0)) (var 2 ⊕ var 3, #0) refl refl

  pub constant_product : (a f : C) → pairs.mul (constant a) (constant f) ≡ constant (R.mul a f)
  constant_product a f = solve (d ∷ e ∷ a ∷ f ∷ []) (product (var 2, #0) (var 3, #0)) (var 2 ⊗ var 3, #0) refl refl

  pub square : pairs.mul w w ≡ pairs.add (pairs.mul (constant d) w) (constant e)
  square = solve (d ∷ e ∷ []) (product (#0, #1) (#0, #1)) (sum (product (D, #0) (#0, #1)) (E, #0)) refl refl

  pub element : (a b : C) → pairs.add (constant a) (pairs.mul (constant b) w) ≡ (a, b)
  element a b = solve (d ∷ e ∷ a ∷ b ∷ []) (sum (X.0, #0) (product (X.1, #0) (#0, #1))) X refl refl

  abbrev pub norm : C → C → C
  norm a b = value R (values (a, b) none none) (norm_of X)

  abbrev pub over : C → C → C → C × C
  over a b n = both (values (a, b) (n, R.zero) none) (over_of X Y.0)

  -- a + b·w times (a + b·d)·n - (b·n)·w is the norm times n
  pub over_inverts : (a b n : C) → R.mul (norm a b) n ≡ R.one → pairs.mul (a, b) (over a b n) ≡ pairs.one
  over_inverts a b n unit =
      solve (values (a, b) (n, R.zero) none) (product X (over_of X Y.0)) (norm_of X ⊗ Y.0, #0) refl refl ∙ ap constant unit

module _ {C : Type 0} (K : Field C) (d e : C) (rootless : (z : C) → K.ring.mul z z ≡ K.ring.add (K.ring.mul d z) e → ⊥) where
  abbrev R : Ring C
  R = K.ring

  -- Where b has the inverse c, z = -a·c has z·z = d·z + e but for a multiple of the norm and a multiple of 1 - b·c.
  root : (a b c : C) → norm R d e a b ≡ R.zero → R.mul b c ≡ R.one → ⊥
  root a b c no_norm unit = rootless (R.neg (R.mul a c)) (apart ∙ ap (rest (R.mul b c)) no_norm ∙ ap (λ k. rest k R.zero) unit ∙ nothing)
    where
      Root : Expr
      Root = ⊖ (X.0 ⊗ Y.0)

      -- d·z + e, and the multiples of n and of 1 - k
      Rest : Expr → Expr → Expr
      Rest k n = D ⊗ Root ⊕ E ⊕ (n ⊗ (Y.0 ⊗ Y.0) ⊕ (#1 ⊕ ⊖ k) ⊗ (D ⊗ X.0 ⊗ Y.0 ⊕ ⊖ (E ⊗ (#1 ⊕ X.1 ⊗ Y.0))))

      rest : C → C → C
      rest k n = value R (values R d e (a, b) (c, k) (n, R.zero)) (Rest Y.1 Z.0)

      apart : R.mul (R.neg (R.mul a c)) (R.neg (R.mul a c)) ≡ rest (R.mul b c) (norm R d e a b)
      apart = ring R (values R d e (a, b) (c, R.zero) (none R d e)) (Root ⊗ Root) (Rest (X.1 ⊗ Y.0) (norm_of X)) refl

      nothing : rest R.one R.zero ≡ R.add (R.mul d (R.neg (R.mul a c))) e
      nothing = ring R (values R d e (a, b) (c, R.zero) (none R d e)) (Rest #1 #0) (D ⊗ Root ⊕ E) refl

  -- without a root, only zero has the norm zero
  pub norm_zero : (a b : C) → norm R d e a b ≡ R.zero → (a ≡ R.zero) × (b ≡ R.zero)
  norm_zero a b no_norm =
      ⊎_elim
      (λ b_zero.
      let square : R.mul a a ≡ R.zero = sym (ring R (d ∷ e ∷ a ∷ []) (norm_of (X.0, #0)) (X.0 ⊗ X.0) refl) ∙ ap (norm R d e a) (sym b_zero) ∙ no_norm in
      (⊎_elim (λ h. h) (λ h. h) (zero_factor K a a square), b_zero))
      (λ nonzero. let (c, unit) = K.inverse b nonzero in absurd (root a b c no_norm unit))
      (K.zero_or_not b)
