-- Equations in a commutative ring, decided by counting: both sides are multiplied out, and where every product of variables comes as often
-- on one side as on the other, the two sides have the same value.
use Rattle.std.proofs.Common.{◌≡◌, ℕ, zero, suc, ◌+◌, ◌*◌, Bool, true, false, cond, ◌&&◌, eqb, ltb, leb, List, [], ◌∷◌, get_or, sym, refl, ap, ◌∙◌, suc-mul, suc-add, zero-add, zero-mul}
use mathlib.Core.Bool.{false≢true}
use Rattle.std.proofs.lemmas.Bool.{and_parts, eqb-true}
use Rattle.field.proofs.Ring.{Ring, add_zero, mul_one, add_mul, mul_zero, zero_mul, add_swap, neg_add, neg_neg, neg_zero, mul_neg, neg_mul, equal}

pub data Expr : Type 0 where
  var : ℕ → Expr
  #0 : Expr
  #1 : Expr
  ◌⊕◌ : Expr → Expr → Expr
  ◌⊗◌ : Expr → Expr → Expr
  ⊖◌ : Expr → Expr

infixl 60 ◌⊕◌
infixl 70 ◌⊗◌
infix 80 ⊖◌
-- A product of variables, given by their indices in order; how often it is added, and how often it is taken away.
record Term : Type 0 where
  plus : ℕ
  minus : ℕ
  vars : List ℕ

-- An expression multiplied out: its terms in order, each product of variables once.

abbrev put : ℕ → List ℕ → List ℕ
put v [] = v ∷ []
put v (w ∷ ws) = cond (leb v w) (v ∷ w ∷ ws) (w ∷ put v ws)

abbrev join : List ℕ → List ℕ → List ℕ
join [] ws = ws
join (v ∷ vs) ws = put v (join vs ws)

abbrev same : List ℕ → List ℕ → Bool
same [] [] = true
same [] (w ∷ ws) = false
same (v ∷ vs) [] = false
same (v ∷ vs) (w ∷ ws) = eqb v w && same vs ws

abbrev before : List ℕ → List ℕ → Bool
before [] ws = true
before (v ∷ vs) [] = false
before (v ∷ vs) (w ∷ ws) = cond (ltb v w) true (eqb v w && before vs ws)

abbrev together : Term → Term → Term
together s t = record { plus = s.plus + t.plus; minus = s.minus + t.minus; vars = t.vars }

abbrev insert : Term → List Term → List Term
insert t [] = t ∷ []
insert t (s ∷ ss) = cond (same t.vars s.vars) (together t s ∷ ss) (cond (before t.vars s.vars) (t ∷ s ∷ ss) (s ∷ insert t ss))

abbrev plus_all : List Term → List Term → List Term
plus_all [] q = q
plus_all (t ∷ ts) q = insert t (plus_all ts q)

abbrev flip_all : List Term → List Term
flip_all [] = []
flip_all (t ∷ ts) = record { plus = t.minus; minus = t.plus; vars = t.vars } ∷ flip_all ts

abbrev times_one : Term → Term → Term
times_one s t = record {
  plus = s.plus * t.plus + s.minus * t.minus;
  minus = s.plus * t.minus + s.minus * t.plus;
  vars = join s.vars t.vars;
}

abbrev times_term : Term → List Term → List Term
times_term s [] = []
times_term s (t ∷ ts) = insert (times_one s t) (times_term s ts)

abbrev times_all : List Term → List Term → List Term
times_all [] q = []
times_all (s ∷ ss) q = plus_all (times_term s q) (times_all ss q)

abbrev once : List ℕ → List Term
once vs = record { plus = 1; minus = 0; vars = vs } ∷ []

abbrev terms : Expr → List Term
terms (var v) = once (v ∷ [])
terms #0 = []
terms #1 = once []
terms (a ⊕ b) = plus_all (terms a) (terms b)
terms (a ⊗ b) = times_all (terms a) (terms b)
terms (⊖ a) = flip_all (terms a)

-- every product of variables is taken away as often as it is added
abbrev balanced : List Term → Bool
balanced [] = true
balanced (t ∷ ts) = eqb t.plus t.minus && balanced ts

-- whether nothing is left of the difference of two expressions
abbrev pub match : Expr → Expr → Bool
match a b = balanced (terms (a ⊕ ⊖ b))

same_eq : (vs ws : List ℕ) → same vs ws ≡ true → vs ≡ ws
same_eq [] [] t = refl
same_eq [] (w ∷ ws) t = absurd (false≢true t)
same_eq (v ∷ vs) [] t = absurd (false≢true t)
same_eq (v ∷ vs) (w ∷ ws) t =
    let parts = and_parts (eqb v w) (same vs ws) t in
    ap (λ x. x ∷ vs) (eqb-true v w parts.0) ∙ ap (λ xs. w ∷ xs) (same_eq vs ws parts.1)

-- values, where the variables have those of a list
module _ {E : Type 0} (R : Ring E) (values : List E) where
  abbrev variable : ℕ → E
  variable v = get_or values v R.zero

  abbrev pub value : Expr → E
  value (var v) = variable v
  value #0 = R.zero
  value #1 = R.one
  value (a ⊕ b) = R.add (value a) (value b)
  value (a ⊗ b) = R.mul (value a) (value b)
  value (⊖ a) = R.neg (value a)

  abbrev of_vars : List ℕ → E
  of_vars [] = R.one
  of_vars (v ∷ vs) = R.mul (variable v) (of_vars vs)

  abbrev times : ℕ → E → E
  times zero x = R.zero
  times (suc n) x = R.add x (times n x)

  abbrev of_term : Term → E
  of_term t = R.add (times t.plus (of_vars t.vars)) (R.neg (times t.minus (of_vars t.vars)))

  abbrev of_terms : List Term → E
  of_terms [] = R.zero
  of_terms (t ∷ ts) = R.add (of_term t) (of_terms ts)

  put_is : (v : ℕ) (ws : List ℕ) → of_vars (put v ws) ≡ R.mul (variable v) (of_vars ws)
  put_is v [] = refl
  put_is v (w ∷ ws) =
      elim (leb v w) as (λ b. of_vars (cond b (v ∷ w ∷ ws) (w ∷ put v ws)) ≡ R.mul (variable v) (of_vars (w ∷ ws))) [
        | true ↦ refl
        | false ↦
            ap (R.mul (variable w)) (put_is v ws)
            ∙ sym (R.mul_assoc (variable w) (variable v) (of_vars ws))
            ∙ ap (λ x. R.mul x (of_vars ws)) (R.mul_comm (variable w) (variable v))
            ∙ R.mul_assoc (variable v) (variable w) (of_vars ws)
      ]

  join_is : (vs ws : List ℕ) → of_vars (join vs ws) ≡ R.mul (of_vars vs) (of_vars ws)
  join_is [] ws = sym (R.one_mul (of_vars ws))
  join_is (v ∷ vs) ws = put_is v (join vs ws) ∙ ap (R.mul (variable v)) (join_is vs ws) ∙ sym (R.mul_assoc (variable v) (of_vars vs) (of_vars ws))

  times_add : (m n : ℕ) (x : E) → times (m + n) x ≡ R.add (times m x) (times n x)
  times_add zero n x = ap (λ k. times k x) (zero-add n) ∙ sym (R.zero_add (times n x))
  times_add (suc m) n x = ap (λ k. times k x) (suc-add m n) ∙ ap (R.add x) (times_add m n x) ∙ sym (R.add_assoc x (times m x) (times n x))

  times_mul_left : (n : ℕ) (x y : E) → times n (R.mul x y) ≡ R.mul x (times n y)
  times_mul_left zero x y = sym (mul_zero R x)
  times_mul_left (suc n) x y = ap (R.add (R.mul x y)) (times_mul_left n x y) ∙ sym (R.mul_add x y (times n y))

  times_mul : (m n : ℕ) (x y : E) → times (m * n) (R.mul x y) ≡ R.mul (times m x) (times n y)
  times_mul zero n x y = ap (λ k. times k (R.mul x y)) (zero-mul n) ∙ sym (zero_mul R (times n y))
  times_mul (suc m) n x y =
      ap (λ k. times k (R.mul x y)) (suc-mul m n)
      ∙ times_add (m * n) n (R.mul x y)
      ∙ R.add_comm (times (m * n) (R.mul x y)) (times n (R.mul x y))
      ∙ ap (λ w. R.add w (times (m * n) (R.mul x y))) (times_mul_left n x y)
      ∙ ap (R.add (R.mul x (times n y))) (times_mul m n x y)
      ∙ sym (add_mul R x (times m x) (times n y))

  times_sum : (a b c d : ℕ) (x y : E) → times (a * b + c * d) (R.mul x y) ≡ R.add (R.mul (times a x) (times b y)) (R.mul (times c x) (times d y))
  times_sum a b c d x y =
      times_add (a * b) (c * d) (R.mul x y)
      ∙ ap (λ w. R.add w (times (c * d) (R.mul x y))) (times_mul a b x y)
      ∙ ap (R.add (R.mul (times a x) (times b y))) (times_mul c d x y)

  -- (p + q) - (m + n) = (p - m) + (q - n)
  minus_swap : (p q m n : E) → R.add (R.add p q) (R.neg (R.add m n)) ≡ R.add (R.add p (R.neg m)) (R.add q (R.neg n))
  minus_swap p q m n = ap (R.add (R.add p q)) (neg_add R m n) ∙ add_swap R p q (R.neg m) (R.neg n)

  together_is : (s t : Term) → s.vars ≡ t.vars → of_term (together s t) ≡ R.add (of_term s) (of_term t)
  together_is s t e =
      let X = of_vars t.vars in
      ap (λ w. R.add w (R.neg (times (s.minus + t.minus) X))) (times_add s.plus t.plus X)
      ∙ ap (λ w. R.add (R.add (times s.plus X) (times t.plus X)) (R.neg w)) (times_add s.minus t.minus X)
      ∙ minus_swap (times s.plus X) (times t.plus X) (times s.minus X) (times t.minus X)
      ∙ ap (λ vs. R.add (R.add (times s.plus (of_vars vs)) (R.neg (times s.minus (of_vars vs)))) (of_term t)) (sym e)

  insert_is : (t : Term) (ss : List Term) → of_terms (insert t ss) ≡ R.add (of_term t) (of_terms ss)
  insert_is t [] = refl
  insert_is t (s ∷ ss) = go (same t.vars s.vars) refl (before t.vars s.vars) (insert_is t ss)
    where
      go : (b : Bool) → same t.vars s.vars ≡ b → (c : Bool) → of_terms (insert t ss) ≡ R.add (of_term t) (of_terms ss) →
          of_terms (cond b (together t s ∷ ss) (cond c (t ∷ s ∷ ss) (s ∷ insert t ss))) ≡ R.add (of_term t) (of_terms (s ∷ ss))
      go true e c ih = ap (λ w. R.add w (of_terms ss)) (together_is t s (same_eq t.vars s.vars e)) ∙ R.add_assoc (of_term t) (of_term s) (of_terms ss)
      go false e true ih = refl
      go false e false ih =
          ap (R.add (of_term s)) ih
          ∙ sym (R.add_assoc (of_term s) (of_term t) (of_terms ss))
          ∙ ap (λ w. R.add w (of_terms ss)) (R.add_comm (of_term s) (of_term t))
          ∙ R.add_assoc (of_term t) (of_term s) (of_terms ss)

  plus_all_is : (p q : List Term) → of_terms (plus_all p q) ≡ R.add (of_terms p) (of_terms q)
  plus_all_is [] q = sym (R.zero_add (of_terms q))
  plus_all_is (t ∷ ts) q = insert_is t (plus_all ts q) ∙ ap (R.add (of_term t)) (plus_all_is ts q) ∙ sym (R.add_assoc (of_term t) (of_terms ts) (of_terms q))

  -- m - p = -(p - m)
  minus_flip : (p m : E) → R.add m (R.neg p) ≡ R.neg (R.add p (R.neg m))
  minus_flip p m = R.add_comm m (R.neg p) ∙ ap (R.add (R.neg p)) (sym (neg_neg R m)) ∙ sym (neg_add R p (R.neg m))

  flip_all_is : (p : List Term) → of_terms (flip_all p) ≡ R.neg (of_terms p)
  flip_all_is [] = sym (neg_zero R)
  flip_all_is (t ∷ ts) =
      let X = of_vars t.vars in
      ap (λ w. R.add w (of_terms (flip_all ts))) (minus_flip (times t.plus X) (times t.minus X))
      ∙ ap (R.add (R.neg (of_term t))) (flip_all_is ts)
      ∙ sym (neg_add R (of_term t) (of_terms ts))

  -- (p·q + m·n) - (p·n + m·q) = (p - m)·(q - n)
  minus_mul : (p m q n : E) →
      R.add (R.add (R.mul p q) (R.mul m n)) (R.neg (R.add (R.mul p n) (R.mul m q))) ≡ R.mul (R.add p (R.neg m)) (R.add q (R.neg n))
  minus_mul p m q n =
      minus_swap (R.mul p q) (R.mul m n) (R.mul p n) (R.mul m q)
      ∙ ap (R.add (R.add (R.mul p q) (R.neg (R.mul p n)))) (minus_flip (R.mul m q) (R.mul m n))
      ∙ ap (λ w. R.add (R.add (R.mul p q) w) (R.neg (R.add (R.mul m q) (R.neg (R.mul m n))))) (sym (mul_neg R p n))
      ∙ ap (λ w. R.add (R.add (R.mul p q) (R.mul p (R.neg n))) (R.neg (R.add (R.mul m q) w))) (sym (mul_neg R m n))
      ∙ ap (λ w. R.add w (R.neg (R.add (R.mul m q) (R.mul m (R.neg n))))) (sym (R.mul_add p q (R.neg n)))
      ∙ ap (λ w. R.add (R.mul p (R.add q (R.neg n))) (R.neg w)) (sym (R.mul_add m q (R.neg n)))
      ∙ ap (R.add (R.mul p (R.add q (R.neg n)))) (sym (neg_mul R m (R.add q (R.neg n))))
      ∙ sym (add_mul R p (R.neg m) (R.add q (R.neg n)))

  times_one_is : (s t : Term) → of_term (times_one s t) ≡ R.mul (of_term s) (of_term t)
  times_one_is s t =
      let X = of_vars s.vars in
      let Y = of_vars t.vars in
      ap (λ z. R.add (times (s.plus * t.plus + s.minus * t.minus) z) (R.neg (times (s.plus * t.minus + s.minus * t.plus) z))) (join_is s.vars t.vars)
      ∙ ap (λ w. R.add w (R.neg (times (s.plus * t.minus + s.minus * t.plus) (R.mul X Y)))) (times_sum s.plus t.plus s.minus t.minus X Y)
      ∙ ap (λ w. R.add (R.add (R.mul (times s.plus X) (times t.plus Y)) (R.mul (times s.minus X) (times t.minus Y))) (R.neg w)) (times_sum s.plus t.minus s.minus t.plus X Y)
      ∙ minus_mul (times s.plus X) (times s.minus X) (times t.plus Y) (times t.minus Y)

  times_term_is : (s : Term) (q : List Term) → of_terms (times_term s q) ≡ R.mul (of_term s) (of_terms q)
  times_term_is s [] = sym (mul_zero R (of_term s))
  times_term_is s (t ∷ ts) =
      insert_is (times_one s t) (times_term s ts)
      ∙ ap (λ w. R.add w (of_terms (times_term s ts))) (times_one_is s t)
      ∙ ap (R.add (R.mul (of_term s) (of_term t))) (times_term_is s ts)
      ∙ sym (R.mul_add (of_term s) (of_term t) (of_terms ts))

  times_all_is : (p q : List Term) → of_terms (times_all p q) ≡ R.mul (of_terms p) (of_terms q)
  times_all_is [] q = sym (zero_mul R (of_terms q))
  times_all_is (s ∷ ss) q =
      plus_all_is (times_term s q) (times_all ss q)
      ∙ ap (λ w. R.add w (of_terms (times_all ss q))) (times_term_is s q)
      ∙ ap (R.add (R.mul (of_term s) (of_terms q))) (times_all_is ss q)
      ∙ sym (add_mul R (of_term s) (of_terms ss) (of_terms q))

  once_is : (vs : List ℕ) → of_terms (once vs) ≡ of_vars vs
  once_is vs =
      add_zero R (R.add (R.add (of_vars vs) R.zero) (R.neg R.zero))
      ∙ ap (R.add (R.add (of_vars vs) R.zero)) (neg_zero R)
      ∙ add_zero R (R.add (of_vars vs) R.zero)
      ∙ add_zero R (of_vars vs)

  terms_is : (e : Expr) → of_terms (terms e) ≡ value e
  terms_is (var v) = once_is (v ∷ []) ∙ mul_one R (variable v)
  terms_is #0 = refl
  terms_is #1 = once_is []
  terms_is (a ⊕ b) = plus_all_is (terms a) (terms b) ∙ ap (λ w. R.add w (of_terms (terms b))) (terms_is a) ∙ ap (R.add (value a)) (terms_is b)
  terms_is (a ⊗ b) = times_all_is (terms a) (terms b) ∙ ap (λ w. R.mul w (of_terms (terms b))) (terms_is a) ∙ ap (R.mul (value a)) (terms_is b)
  terms_is (⊖ a) = flip_all_is (terms a) ∙ ap R.neg (terms_is a)

  balanced_is : (p : List Term) → balanced p ≡ true → of_terms p ≡ R.zero
  balanced_is [] t = refl
  balanced_is (s ∷ ss) t =
      let X = of_vars s.vars in
      let parts = and_parts (eqb s.plus s.minus) (balanced ss) t in
      ap (λ w. R.add w (of_terms ss))
      (ap (λ n. R.add (times s.plus X) (R.neg (times n X))) (sym (eqb-true s.plus s.minus parts.0)) ∙ R.add_neg (times s.plus X))
      ∙ R.zero_add (of_terms ss)
      ∙ balanced_is ss parts.1

  pub ring : (a b : Expr) → match a b ≡ true → value a ≡ value b
  ring a b t = equal R (value a) (value b) (sym (terms_is (a ⊕ ⊖ b)) ∙ balanced_is (terms (a ⊕ ⊖ b)) t)
