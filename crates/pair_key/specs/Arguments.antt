-- Numbers in base ten, as the arguments have them.
use Rattle.std.specs.Prelude.{ℕ, ◌+◌, ◌-◌, ◌*◌, ◌^◌, min, Bool, true, cond, ◌&&◌, List, [], ◌∷◌, Some, None, Option, nat_le, nat_lt}

-- the bytes of the digits from 0 to 9
abbrev pub is_digit : ℕ → Bool
is_digit b = nat_le 48 b && nat_lt b 58

abbrev pub all_digits : List ℕ → Bool
all_digits [] = true
all_digits (b ∷ bs) = is_digit b && all_digits bs

-- the number that digits write behind those that wrote n
abbrev pub value_after : ℕ → List ℕ → ℕ
value_after n [] = n
value_after n (b ∷ bs) = value_after (n * 10 + (b - 48)) bs

-- the number, at most the largest of 32 bits, if all are digits
abbrev pub digits_after : ℕ → List ℕ → Option ℕ
digits_after n bs = cond (all_digits bs) (Some (min (2 ^ 32 - 1) (value_after n bs))) None

-- one digit at least
abbrev pub base_ten : List ℕ → Option ℕ
base_ten [] = None
base_ten (b ∷ bs) = digits_after 0 (b ∷ bs)
