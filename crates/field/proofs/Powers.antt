-- Powers under a product that is associative and has the neutral number 1.
use Rattle.std.proofs.Common.{◌≡◌, ℕ, zero, suc, ◌+◌, ◌/◌, ◌%◌, ◌^◌, ◌<◌, Bool, true, not, cond, eqb, sym, refl, ap, ◌∙◌, ⊎_elim, suc-add, zero-add, arith}
use Rattle.std.proofs.lemmas.Bool.{eqb-true, eq-eqb, ne_eqb, cases_eq, not_from_false, agree_below, agree_below_at}
use Rattle.field.specs.Arith.{power}
use Rattle.field.specs.Product.{Monoid}

-- the power n of x, for n below 2^k, by few products: from the power n / 2 of the square
unfoldable pub by_halves : (ℕ → ℕ → ℕ) → ℕ → ℕ → ℕ → ℕ
by_halves product zero x n = 1
by_halves product (suc k) x n =
    let half = by_halves product k (product x x) (n / 2) in
    cond (eqb (n % 2) 1) (product x half) half

module _ {product : ℕ → ℕ → ℕ} {order : ℕ} (M : Monoid product order) (x : ℕ) (x_below : x < order) where
  pub power_below : (n : ℕ) → power product x n < order
  unfolding power
  power_below zero = M.one_below
  power_below (suc n) = M.closed x (power product x n) x_below (power_below n)

  pub power_add : (m n : ℕ) → power product x (m + n) ≡ product (power product x m) (power product x n)
  unfolding power
  power_add zero n = ap (power product x) (zero-add n) ∙ sym (M.one_left (power product x n) (power_below n))
  power_add (suc m) n =
      ap (power product x) (suc-add m n)
      ∙ ap (product x) (power_add m n)
      ∙ sym (M.assoc x (power product x m) (power product x n) x_below (power_below m) (power_below n))

  pub power_zero : power product x 0 ≡ 1
  unfolding power
  power_zero = refl

  pub power_of_square : (n : ℕ) → power product (product x x) n ≡ power product x (n + n)
  unfolding power
  power_of_square zero = refl
  power_of_square (suc n) =
      let two : power product x 2 ≡ product x x = ap (product x) (M.one_right x x_below) in
      let twice : 2 + (n + n) ≡ suc n + suc n = omega arith in
      ap (product (product x x)) (power_of_square n)
      ∙ ap (λ square. product square (power product x (n + n))) (sym two)
      ∙ sym (power_add 2 (n + n))
      ∙ ap (power product x) twice

  -- the power n from the power n / 2 of the square
  pub square_even : (n : ℕ) → (n % 2 ≡ 1 → ⊥) → power product (product x x) (n / 2) ≡ power product x n
  square_even n even = power_of_square (n / 2) ∙ ap (power product x) (omega (arith, even))

  pub square_odd : (n : ℕ) → n % 2 ≡ 1 → product x (power product (product x x) (n / 2)) ≡ power product x n
  unfolding power
  square_odd n odd =
      let whole : suc (n / 2 + n / 2) ≡ n = omega (arith, odd) in
      ap (product x) (power_of_square (n / 2)) ∙ ap (power product x) whole

pub by_halves_is :
    {product : ℕ → ℕ → ℕ} {order : ℕ} (M : Monoid product order) (x : ℕ) → x < order → (k n : ℕ) → n < 2 ^ k → by_halves product k x n ≡ power product x n
unfolding by_halves
by_halves_is M x x_below zero n h = sym (ap (power _ x) (omega arith) ∙ power_zero M x x_below)
by_halves_is {product} M x x_below (suc k) n h =
    ap (λ half. cond (eqb (n % 2) 1) (product x half) half) (by_halves_is M (product x x) (M.closed x x x_below x_below) k (n / 2) (omega (arith, h)))
    ∙ ⊎_elim (λ odd. rw (eq-eqb (n % 2) 1 odd) (square_odd M x x_below n odd)) (λ even. rw (ne_eqb (n % 2) 1 even) (square_even M x x_below n even)) (cases_eq (n % 2) 1)

-- the test that a map answers an inverse of every number below the order but zero, and none of zero
abbrev pub inverts : (ℕ → ℕ → ℕ) → ℕ → (ℕ → ℕ) → Bool
inverts product order inverse = agree_below (λ x. eqb (product x (inverse x)) 1) (λ x. not (eqb x 0)) order

pub inverts_at : (product : ℕ → ℕ → ℕ) (order : ℕ) (inverse : ℕ → ℕ) → inverts product order inverse ≡ true → (x : ℕ) → x < order → (x ≡ 0 → ⊥) → product x (inverse x) ≡ 1
inverts_at product order inverse passed x below nonzero =
    eqb-true (product x (inverse x)) 1
    (agree_below_at (λ y. eqb (product y (inverse y)) 1) (λ y. not (eqb y 0)) order x passed below ∙ not_from_false (eqb x 0) (ne_eqb x 0 nonzero))
