-- The layout of a lane: its rows stand one behind the other, row i from a(i,i) to a(i,t), and each place is that of one pair i ≤ j ≤ t.
use Rattle.std.proofs.Common.{◌≡◌, ℕ, zero, suc, ◌+◌, ◌-◌, ◌*◌, ◌/◌, ◌<◌, ◌≤◌, cond, leb, refl, ap, ⊎_elim, suc-mul, mul-le-mul_left, mul-suc, arith}
use Rattle.std.proofs.lemmas.Bool.{leb-true, leb-false, cond_both, cases_order}
use Rattle.polynomial.specs.Table.{lane_size, place}

-- where row i begins
abbrev pub row_start : ℕ → ℕ → ℕ
row_start t i = i * (t + 1) - i * (i - 1) / 2

-- i numbers of which each is one less than the one before it, down to 0
fewer : (i : ℕ) → 2 * (i * (i - 1) / 2) + i ≡ i * i
fewer zero = refl
fewer (suc n) =
    let less : suc n - 1 ≡ n = omega arith in
    omega (arith, fewer n, ap (λ k. suc n * k) less, suc-mul n n, suc-mul n (suc n), mul-suc n n)

pub row_start_more : (t i : ℕ) → i ≤ t → row_start t (i + 1) ≡ row_start t i + (t + 1 - i)
row_start_more t i h = let most : i ≤ t + 1 = omega arith in omega (arith, fewer i, fewer (i + 1), mul-le-mul_left i most)

pub row_start_end : (t : ℕ) → row_start t (t + 1) ≡ lane_size t
row_start_end t = omega (arith, fewer (t + 1))

row_start_later : (t i d : ℕ) → i + d ≤ t + 1 → row_start t i ≤ row_start t (i + d)
row_start_later t i zero h = let same : i + 0 ≡ i = omega arith in omega (arith, ap (row_start t) same)
row_start_later t i (suc d) h =
    let next : i + suc d ≡ i + d + 1 = omega arith in
    omega (arith, ap (row_start t) next, row_start_more t (i + d) (omega arith), row_start_later t i d (omega arith))

pub row_start_mono : (t i j : ℕ) → i ≤ j → j ≤ t + 1 → row_start t i ≤ row_start t j
row_start_mono t i j h most =
    let there : i + (j - i) ≡ j = omega arith in
    omega (arith, ap (row_start t) there, row_start_later t i (j - i) (omega arith))

pub place_in_row : (t i j : ℕ) → i ≤ j → j ≤ t → place t i j < row_start t (i + 1)
place_in_row t i j h most = omega (arith, row_start_more t i (omega arith))

pub place_in_lane : (t i j : ℕ) → i ≤ j → j ≤ t → place t i j < lane_size t
place_in_lane t i j h most = omega (arith, place_in_row t i j h most, row_start_mono t (i + 1) (t + 1) (omega arith) (omega arith), row_start_end t)

-- the last of the rows up to row n that begins at p or before
last_row : ℕ → ℕ → ℕ → ℕ
last_row t p zero = 0
last_row t p (suc n) = cond (leb (row_start t (suc n)) p) (suc n) (last_row t p n)

record Row (t p n row : ℕ) : Type 0 where
  most : row ≤ n
  from : row_start t row ≤ p
  before : p < row_start t (row + 1)

last_row_is : (t p n : ℕ) → p < row_start t (n + 1) → Row t p n (last_row t p n)
unfolding last_row
last_row_is t p zero h = record { most = omega arith; from = omega arith; before = h }
last_row_is t p (suc n) h =
    cond_both (leb (row_start t (suc n)) p) (suc n) (last_row t p n) (Row t p (suc n))
    (λ e. record { most = omega arith; from = leb-true (row_start t (suc n)) p e; before = h })
    (λ e.
    let next : n + 1 ≡ suc n = omega arith in
    let above = last_row_is t p n (omega (arith, leb-false (row_start t (suc n)) p e, ap (row_start t) next)) in
    record { most = omega (arith, above.most); from = above.from; before = above.before })

-- the row of a place, and its column
pub row_of : ℕ → ℕ → ℕ
row_of t p = last_row t p t

pub column_of : ℕ → ℕ → ℕ
column_of t p = row_of t p + (p - row_start t (row_of t p))

row_is : (t p : ℕ) → p < lane_size t → Row t p t (row_of t p)
unfolding row_of
row_is t p h = last_row_is t p t (omega (arith, row_start_end t))

pub row_before_column : (t p : ℕ) → row_of t p ≤ column_of t p
unfolding column_of
row_before_column t p = omega arith

pub column_most : (t p : ℕ) → p < lane_size t → column_of t p ≤ t
unfolding column_of
column_most t p h = let row = row_is t p h in omega (arith, row_start_more t (row_of t p) row.most)

pub place_of_row : (t p : ℕ) → p < lane_size t → place t (row_of t p) (column_of t p) ≡ p
unfolding column_of
place_of_row t p h = let row = row_is t p h in omega arith

-- no two rows have a place in common
one_row : (t p i j : ℕ) → Row t p t i → Row t p t j → i ≡ j
one_row t p i j first second =
    ⊎_elim (λ e. e)
    (⊎_elim (λ h. absurd (omega (arith, row_start_mono t (i + 1) j (omega arith) (omega arith)))) (λ h. absurd (omega (arith, row_start_mono t (j + 1) i (omega arith) (omega arith)))))
    (cases_order i j)

pub row_of_place : (t i j : ℕ) → i ≤ j → j ≤ t → row_of t (place t i j) ≡ i
row_of_place t i j h most =
    one_row t (place t i j) (row_of t (place t i j)) i (row_is t (place t i j) (place_in_lane t i j h most))
    (record { most = omega arith; from = omega arith; before = place_in_row t i j h most })

pub column_of_place : (t i j : ℕ) → i ≤ j → j ≤ t → column_of t (place t i j) ≡ j
unfolding column_of
column_of_place t i j h most =
    let row = row_of_place t i j h most in
    omega (arith, ap (row_start t) row)
