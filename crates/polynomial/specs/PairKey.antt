-- The key that two kiosks share, from the share of one and the number of the other.
use Rattle.std.specs.Prelude.{ℕ, ◌+◌, ◌*◌, List, map, slice_index}
use Rattle.std.specs.List.{range_with_len}
use Rattle.field.specs.Arith.{Arith, power}
use Rattle.polynomial.specs.Polynomial.{sum_over}

-- The codes of a share stand lane by lane, t + 1 in each of m lanes. In each lane the key's code is the sum, over j from 0 to t, of the
-- share's code j times the j-th power of the other kiosk's number v.
unfoldable pub pair_key : Arith → ℕ → ℕ → List ℕ → ℕ → List ℕ
pair_key A t m share v =
    map (λ lane. sum_over A (t + 1) (λ j. A.product (slice_index share (lane * (t + 1) + j)) (power A.product v j))) (range_with_len 0 m)
