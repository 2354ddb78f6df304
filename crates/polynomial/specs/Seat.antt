-- The codes of a custodian's seat, from a draw, by Shamir's scheme. A seat is a custodian's place, known by its number.
use Rattle.std.specs.Prelude.{ℕ, ◌+◌, ◌*◌, cond, ◌&&◌, List, map, length, Some, None, Option, nat_le, nat_lt, slice_index}
use Rattle.std.specs.List.{range_with_len}
use Rattle.field.specs.Arith.{Arith, power}
use Rattle.polynomial.specs.Polynomial.{sum_over, are_codes}

-- h(s) of a place: the master's code there plus, for each power from 1 to k - 1, the code of that block there times that power of s. The power 0
-- is one, so the master counts as block 0. The master has `size` codes.
unfoldable pub seat_code : Arith → ℕ → ℕ → List ℕ → ℕ → ℕ → ℕ
seat_code A size k draw s place = sum_over A k (λ e. A.product (slice_index draw (e * size + place)) (power A.product s e))

-- the codes of seat s, place by place
unfoldable pub seat : Arith → ℕ → ℕ → List ℕ → ℕ → List ℕ
seat A size k draw s = map (seat_code A size k draw s) (range_with_len 0 size)

-- the codes of all blocks at one place, the master's first
unfoldable pub stack : ℕ → ℕ → List ℕ → ℕ → List ℕ
stack size k draw place = map (λ e. slice_index draw (e * size + place)) (range_with_len 0 k)

-- What is answered when a code of a seat is asked for: the code, unless the place is beyond the master, the table ends before the last block
-- does, or one of the numbers that it would be made from is no code.
abbrev pub seat_answer : Arith → ℕ → ℕ → List ℕ → ℕ → ℕ → Option ℕ
seat_answer A size k table s place =
    cond (nat_lt place size && (nat_le (k * size) (length table) && are_codes A (stack size k table place))) (Some (seat_code A size k table s place)) None
