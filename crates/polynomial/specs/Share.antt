-- The share of a kiosk, and the key of two kiosks, from a master. Of a longer list, as a draw, the codes behind the master do not count.
use Rattle.std.specs.Prelude.{ℕ, suc, ◌+◌, ◌*◌, ◌/◌, ◌%◌, cond, ◌&&◌, List, map, length, Some, None, Option, nat_le}
use Rattle.std.specs.List.{range_with_len}
use Rattle.field.specs.Arith.{Arith, power}
use Rattle.polynomial.specs.PairKey.{pair_key}
use Rattle.polynomial.specs.Polynomial.{sum_over, are_codes}
use Rattle.polynomial.specs.Table.{lane_size, coefficient}

-- g(u,j) of a lane: the sum, over i from 0 to t, of a(i,j) times the i-th power of the kiosk's number u
unfoldable pub share_code : Arith → ℕ → List ℕ → ℕ → ℕ → ℕ → ℕ
share_code A t master u lane j = sum_over A (t + 1) (λ i. A.product (coefficient t master lane i j) (power A.product u i))

-- the share of kiosk u: lane by lane, and in each lane g(u,0), .., g(u,t)
unfoldable pub share : Arith → ℕ → ℕ → List ℕ → ℕ → List ℕ
share A t m master u = map (λ n. share_code A t master u (n / (t + 1)) (n % (t + 1))) (range_with_len 0 (m * (t + 1)))

-- the pair key of u and v that a master gives, worked out from the share of u
abbrev pub master_key : Arith → ℕ → ℕ → List ℕ → ℕ → ℕ → List ℕ
master_key A t m master u v = pair_key A t m (share A t m master u) v

-- a(0,j), .., a(t,j) of a lane
unfoldable pub column : ℕ → List ℕ → ℕ → ℕ → List ℕ
column t master lane j = map (λ i. coefficient t master lane i j) (range_with_len 0 (t + 1))

-- What is answered when a code of a share is asked for: the code, unless j is beyond t, the table ends before the lane does, or one of the
-- numbers that it would be made from is no code.
abbrev pub share_answer : Arith → ℕ → List ℕ → ℕ → ℕ → ℕ → Option ℕ
share_answer A t table u lane j =
    cond (nat_le j t && (nat_le (suc lane * lane_size t) (length table) && are_codes A (column t table lane j))) (Some (share_code A t table u lane j)) None
