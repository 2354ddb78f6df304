-- The factor of a point in a weight, where the difference of two points has no inverse.
use Rattle.std.proofs.Common.{◌≡◌, ℕ, ◌<◌, eqb, None, ap, ⊎_elim, arith}
use Rattle.std.proofs.lemmas.Bool.{eq-eqb, cases_eq, cond-true}
use Rattle.field.specs.Arith.{Arith, Laws}
use Rattle.field.proofs.Codes.{Code, codes, same_code}
use Rattle.field.proofs.Ring.{equal}
use Rattle.polynomial.specs.Interpolation.{difference, quotient, factor}

module _ (A : Arith) (L : Laws A) where
  no_difference : (x y : ℕ) → x < A.order → y < A.order → difference A x y ≡ 0 → x ≡ y
  no_difference x y x_below y_below e =
      ap (λ (c : Code A). c.0) (equal (codes A L) (x, x_below) (y, y_below) (same_code A _ _ e))

  -- where the difference has no inverse the point counts as s itself
  pub factor_none : (s x r : ℕ) → s < A.order → r < A.order → None ≡ A.inverse (difference A r s) → factor A s x r ≡ 1
  factor_none s x r s_below r_below none =
      ⊎_elim (λ e. cond-true (eqb r s) 1 (quotient A (difference A r x) (difference A r s)) (eq-eqb r s (no_difference r s r_below s_below e)))
      (λ nonzero.
      let (y, found, below, unit) = L.inverse_else (difference A r s) (L.sum_below r (A.negative s) r_below (L.negative_below s s_below)) nonzero in
      absurd (let z : ◌≡◌ {A = ℕ} 0 1 = cc in omega arith))
      (cases_eq (difference A r s) 0)
