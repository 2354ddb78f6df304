-- The codes of shares and of seats as values of polynomials.
use Rattle.std.proofs.Common.{◌≡◌, ℕ, ◌+◌, ◌*◌, ◌<◌, ◌≤◌, List, map, length, get_or, sym, ap, ◌∙◌, arith}
use Rattle.std.specs.List.{range_with_len}
use Rattle.std.proofs.lemmas.List.FromFn.{get_or-map-range_with_len, length-map-range_with_len}
use Rattle.field.specs.Arith.{Arith, power}
use Rattle.polynomial.specs.Polynomial.{sum_over, evaluation}
use Rattle.polynomial.specs.Seat.{seat_code, stack}
use Rattle.polynomial.specs.Share.{share_code, column}
use Rattle.polynomial.specs.Table.{coefficient}
use Rattle.polynomial.proofs.Evaluation.{sum_over_same}

-- the sum of coefficients f 0, .., f (n - 1) times powers of x
pub evaluation_counting : (A : Arith) (f : ℕ → ℕ) (n x : ℕ) → sum_over A n (λ i. A.product (f i) (power A.product x i)) ≡ evaluation A (map f (range_with_len 0 n)) x
unfolding evaluation
evaluation_counting A f n x =
    let cs = map f (range_with_len 0 n) in
    sum_over_same A n (λ i. A.product (f i) (power A.product x i)) (λ i. A.product (get_or cs i 0) (power A.product x i))
    (λ i h. ap (λ c. A.product c (power A.product x i)) (sym (get_or-map-range_with_len f 0 n i i 0 h (omega arith))))
    ∙ ap (λ k. sum_over A k (λ i. A.product (get_or cs i 0) (power A.product x i))) (sym (length-map-range_with_len f 0 n))

pub length_column : (t : ℕ) (master : List ℕ) (lane j : ℕ) → length (column t master lane j) ≡ t + 1
unfolding column
length_column t master lane j = length-map-range_with_len (λ i. coefficient t master lane i j) 0 (t + 1)

pub get_or_column : (t : ℕ) (master : List ℕ) (lane i j : ℕ) → i ≤ t → get_or (column t master lane j) i 0 ≡ coefficient t master lane i j
unfolding column
get_or_column t master lane i j h = get_or-map-range_with_len (λ k. coefficient t master lane k j) 0 (t + 1) i i 0 (omega arith) (omega arith)

pub share_code_value : (A : Arith) (t : ℕ) (master : List ℕ) (u lane j : ℕ) → share_code A t master u lane j ≡ evaluation A (column t master lane j) u
unfolding column share_code
share_code_value A t master u lane j = evaluation_counting A (λ i. coefficient t master lane i j) (t + 1) u

pub length_stack : (size k : ℕ) (draw : List ℕ) (place : ℕ) → length (stack size k draw place) ≡ k
unfolding stack
length_stack size k draw place = length-map-range_with_len (λ e. get_or draw (e * size + place) 0) 0 k

pub get_or_stack : (size k : ℕ) (draw : List ℕ) (place e : ℕ) → e < k → get_or (stack size k draw place) e 0 ≡ get_or draw (e * size + place) 0
unfolding stack
get_or_stack size k draw place e h = get_or-map-range_with_len (λ b. get_or draw (b * size + place) 0) 0 k e e 0 h (omega arith)

pub seat_code_value : (A : Arith) (size k : ℕ) (draw : List ℕ) (s place : ℕ) → seat_code A size k draw s place ≡ evaluation A (stack size k draw place) s
unfolding stack seat_code
seat_code_value A size k draw s place = evaluation_counting A (λ e. get_or draw (e * size + place) 0) k s
