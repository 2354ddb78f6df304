-- Numbers in base ten, digit by digit.
use Rattle.std.proofs.Common.{◌≡◌, ℕ, ◌+◌, ◌-◌, ◌*◌, ◌^◌, ◌≤◌, min, true, cond, List, [], ◌∷◌, Some, None, ap, ⊎_elim, arith}
use Rattle.std.proofs.lemmas.Bool.{cases_lt}
use Rattle.pair_key.specs.Arguments.{is_digit, all_digits, value_after, digits_after}

value_ge : (n : ℕ) (bs : List ℕ) → n ≤ value_after n bs
value_ge n [] = omega arith
value_ge n (b ∷ bs) = omega (arith, value_ge (n * 10 + (b - 48)) bs)

-- digits behind a number that was cut off at the largest write what is cut off there too
cut_off : (n : ℕ) (bs : List ℕ) → min (2 ^ 32 - 1) (value_after n bs) ≡ min (2 ^ 32 - 1) (value_after (min (2 ^ 32 - 1) n) bs)
cut_off n bs =
    ⊎_elim
    (λ h. ap (λ k. min (2 ^ 32 - 1) (value_after k bs)) (omega arith))
    (λ h. omega (arith, value_ge n bs, value_ge (min (2 ^ 32 - 1) n) bs))
    (cases_lt n (2 ^ 32))

pub digits_more : (n b : ℕ) (bs : List ℕ) → is_digit b ≡ true → digits_after n (b ∷ bs) ≡ digits_after (min (2 ^ 32 - 1) (n * 10 + (b - 48))) bs
digits_more n b bs e = rw e (ap (λ k. cond (all_digits bs) (Some k) None) (cut_off (n * 10 + (b - 48)) bs))
