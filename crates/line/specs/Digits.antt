-- Numbers as lines have them: eight lower-case hex digits, the highest first, leading zeros kept.
use Rattle.std.specs.Prelude.{ℕ, ◌+◌, ◌-◌, ◌*◌, ◌/◌, ◌%◌, ◌^◌, cond, List, [], ◌∷◌, map, take, drop, Some, None, Option, nat_lt, slice_index}
use Rattle.std.specs.List.{range_with_len}
use Rattle.std.specs.Option.{unwrap_or}
use Rattle.line.specs.declared.refusal.DigitFault.{DigitFault}
use Rattle.line.specs.Faults.{first}

-- the byte that writes a digit below 16: 0 to 9, then a to f
abbrev pub digit : ℕ → ℕ
digit d = cond (nat_lt d 10) (48 + d) (87 + d)

-- the digit that a byte writes, if it writes one
abbrev pub digit_value : ℕ → Option ℕ
digit_value b = cond (nat_lt b 48) None (cond (nat_lt b 58) (Some (b - 48)) (cond (nat_lt b 97) None (cond (nat_lt b 103) (Some (b - 87)) None)))

unfoldable pub eight : ℕ → List ℕ
eight n =
    digit (n / 16 ^ 7 % 16)
    ∷ digit (n / 16 ^ 6 % 16)
    ∷ digit (n / 16 ^ 5 % 16)
    ∷ digit (n / 16 ^ 4 % 16)
    ∷ digit (n / 16 ^ 3 % 16)
    ∷ digit (n / 16 ^ 2 % 16)
    ∷ digit (n / 16 % 16)
    ∷ digit (n % 16)
    ∷ []

-- the number that digits write behind those that wrote n
abbrev pub value_after : ℕ → List ℕ → ℕ
value_after n [] = n
value_after n (b ∷ bs) = value_after (n * 16 + unwrap_or (digit_value b) 0) bs

-- the number in the eight bytes from a place on
unfoldable pub number_at : List ℕ → ℕ → ℕ
number_at text place = value_after 0 (take 8 (drop place text))

-- The digit reader's fault at one place, if a hex digit does not stand there. Past the text's end `slice_index` reads 0, which is no digit.
unfoldable pub digit_fault : ℕ → List ℕ → ℕ → Option DigitFault
digit_fault line text place =
    elim (digit_value (slice_index text place)) [ None ↦ Some (record { line = line; place = place }) | Some d ↦ None ]

-- the fault of eight digits from a place on: that of the first byte which is none
unfoldable pub digits_fault : ℕ → List ℕ → ℕ → Option DigitFault
digits_fault line text place = first (map (λ i. digit_fault line text (place + i)) (range_with_len 0 8))
