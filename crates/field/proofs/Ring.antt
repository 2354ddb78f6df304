-- A commutative ring and a field over any type, with laws that ask nothing, and small consequences of them.
use Rattle.std.proofs.Common.{◌≡◌, ◌⊎◌, sym, ap, ◌∙◌, inl, inr, ⊎_elim}

pub record Ring (E : Type 0) : Type 0 where
  pub zero : E
  pub one : E
  pub add : E → E → E
  pub mul : E → E → E
  pub neg : E → E
  pub add_assoc : (x y z : E) → add (add x y) z ≡ add x (add y z)
  pub add_comm : (x y : E) → add x y ≡ add y x
  pub zero_add : (x : E) → add zero x ≡ x
  pub add_neg : (x : E) → add x (neg x) ≡ zero
  pub mul_assoc : (x y z : E) → mul (mul x y) z ≡ mul x (mul y z)
  pub mul_comm : (x y : E) → mul x y ≡ mul y x
  pub one_mul : (x : E) → mul one x ≡ x
  pub mul_add : (x y z : E) → mul x (add y z) ≡ add (mul x y) (mul x z)

module _ {E : Type 0} (R : Ring E) where
  pub add_zero : (x : E) → R.add x R.zero ≡ x
  add_zero x = R.add_comm x R.zero ∙ R.zero_add x

  pub mul_one : (x : E) → R.mul x R.one ≡ x
  mul_one x = R.mul_comm x R.one ∙ R.one_mul x

  pub add_mul : (x y z : E) → R.mul (R.add x y) z ≡ R.add (R.mul x z) (R.mul y z)
  add_mul x y z =
      R.mul_comm (R.add x y) z ∙ R.mul_add z x y ∙ ap (λ w. R.add w (R.mul z y)) (R.mul_comm z x) ∙ ap (R.add (R.mul x z)) (R.mul_comm z y)

  -- what is added comes off again
  neg_add_add : (x y : E) → R.add (R.neg x) (R.add x y) ≡ y
  neg_add_add x y =
      sym (R.add_assoc (R.neg x) x y) ∙ ap (λ w. R.add w y) (R.add_comm (R.neg x) x ∙ R.add_neg x) ∙ R.zero_add y

  -- the negative of x is the only element whose sum with x is zero
  neg_unique : (x y : E) → R.add x y ≡ R.zero → y ≡ R.neg x
  neg_unique x y e = sym (neg_add_add x y) ∙ ap (R.add (R.neg x)) e ∙ add_zero (R.neg x)

  pub mul_zero : (x : E) → R.mul x R.zero ≡ R.zero
  mul_zero x =
      let y = R.mul x R.zero in
      sym (neg_add_add y y) ∙ ap (R.add (R.neg y)) (sym (R.mul_add x R.zero R.zero) ∙ ap (R.mul x) (R.zero_add R.zero)) ∙ R.add_comm (R.neg y) y ∙ R.add_neg y

  pub zero_mul : (x : E) → R.mul R.zero x ≡ R.zero
  zero_mul x = R.mul_comm R.zero x ∙ mul_zero x

  -- (a + b) + (c + d) = (a + c) + (b + d)
  pub add_swap : (a b c d : E) → R.add (R.add a b) (R.add c d) ≡ R.add (R.add a c) (R.add b d)
  add_swap a b c d =
      R.add_assoc a b (R.add c d)
      ∙ ap (R.add a) (sym (R.add_assoc b c d) ∙ ap (λ w. R.add w d) (R.add_comm b c) ∙ R.add_assoc c b d)
      ∙ sym (R.add_assoc a c (R.add b d))

  pub neg_zero : R.neg R.zero ≡ R.zero
  neg_zero = sym (neg_unique R.zero R.zero (R.zero_add R.zero))

  pub neg_neg : (x : E) → R.neg (R.neg x) ≡ x
  neg_neg x = sym (neg_unique (R.neg x) x (R.add_comm (R.neg x) x ∙ R.add_neg x))

  pub neg_add : (x y : E) → R.neg (R.add x y) ≡ R.add (R.neg x) (R.neg y)
  neg_add x y =
      sym (neg_unique (R.add x y) (R.add (R.neg x) (R.neg y))
      (add_swap x y (R.neg x) (R.neg y) ∙ ap (λ w. R.add w (R.add y (R.neg y))) (R.add_neg x) ∙ R.zero_add (R.add y (R.neg y)) ∙ R.add_neg y))

  pub mul_neg : (x y : E) → R.mul x (R.neg y) ≡ R.neg (R.mul x y)
  mul_neg x y = neg_unique (R.mul x y) (R.mul x (R.neg y)) (sym (R.mul_add x y (R.neg y)) ∙ ap (R.mul x) (R.add_neg y) ∙ mul_zero x)

  pub neg_mul : (x y : E) → R.mul (R.neg x) y ≡ R.neg (R.mul x y)
  neg_mul x y = R.mul_comm (R.neg x) y ∙ mul_neg y x ∙ ap R.neg (R.mul_comm y x)

  -- elements are equal where their difference is zero
  pub equal : (x y : E) → R.add x (R.neg y) ≡ R.zero → x ≡ y
  equal x y e = sym (neg_neg x) ∙ ap R.neg (sym (neg_unique x (R.neg y) e)) ∙ neg_neg y

-- A field over any type: a ring in which everything but zero has an inverse.
pub record Field (E : Type 0) : Type 0 where
  pub ring : Ring E
  pub zero_or_not : (x : E) → (x ≡ ring.zero) ⊎ (x ≡ ring.zero → ⊥)
  pub inverse : (x : E) → (x ≡ ring.zero → ⊥) → (y : E) × (ring.mul x y ≡ ring.one)

module _ {E : Type 0} (K : Field E) where
  abbrev R : Ring E
  R = K.ring

  -- a product is zero only where a factor is
  pub zero_factor : (x y : E) → R.mul x y ≡ R.zero → (x ≡ R.zero) ⊎ (y ≡ R.zero)
  zero_factor x y e = ⊎_elim inl (λ nonzero. inr (other (K.inverse x nonzero))) (K.zero_or_not x)
    where
      other : (z : E) × (R.mul x z ≡ R.one) → y ≡ R.zero
      other (z, unit) =
          sym (R.one_mul y)
          ∙ ap (λ w. R.mul w y) (sym unit ∙ R.mul_comm x z)
          ∙ R.mul_assoc z x y
          ∙ ap (R.mul z) e
          ∙ mul_zero R z
