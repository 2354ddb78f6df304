-- The scheme's definitions on lists of codes, carried over to the codes as elements of an abstract field.
use Rattle.std.proofs.Common.{◌≡◌, ℕ, zero, suc, ◌+◌, ◌*◌, ◌/◌, ◌%◌, ◌<◌, min, max, List, map, length, get_or, sym, ap, ◌∙◌, subst, zero-add, arith}
use native.Mathlib.Nat.{min_comm, max_comm}
use Rattle.std.specs.List.{range_with_len}
use lib.Arith.{digits_lt}
use Rattle.std.proofs.lemmas.Nat.{div-mul-add, mod-mul-add}
use Rattle.std.proofs.lemmas.List.FromFn.{fill_by_all, get_or-map-range_with_len, length-map-range_with_len}
use Rattle.std.proofs.ByRecursion.{All-from_get_or}
use Rattle.field.specs.Arith.{Arith, Laws, power}
use Rattle.field.proofs.Codes.{Code, codes}
use Rattle.field.proofs.Ring.{Ring}
use Rattle.polynomial.specs.PairKey.{pair_key}
use Rattle.polynomial.specs.Polynomial.{sum_over, evaluation, Codes}
use Rattle.polynomial.specs.Seat.{seat_code, seat}
use Rattle.polynomial.specs.Share.{share_code, share, master_key}
use Rattle.polynomial.specs.Table.{lane_size, place, coefficient, master_size}
use Rattle.polynomial.proofs.Evaluation.{code_at, value_code, sum_over_same}
use Rattle.polynomial.proofs.Places.{place_in_lane}
use Rattle.polynomial.proofs.Sums.{value_at}

-- lists made from functions of the index are equal where the functions are
pub counted_same : (n : ℕ) (f g : ℕ → ℕ) → ((i : ℕ) → i < n → f i ≡ g i) → map f (range_with_len 0 n) ≡ map g (range_with_len 0 n)
counted_same n f g same =
    fill_by_all g (map f (range_with_len 0 n)) n 0 (length-map-range_with_len f 0 n) (λ k h. get_or-map-range_with_len f 0 n k k 0 h (zero-add k) ∙ same k h)

pub counted_at : (n : ℕ) (f : ℕ → ℕ) (i : ℕ) → i < n → get_or (map f (range_with_len 0 n)) i 0 ≡ f i
counted_at n f i h = get_or-map-range_with_len f 0 n i i 0 h (zero-add i)

-- what such a list holds can be read out again
pub counted_apart : (n : ℕ) (f g : ℕ → ℕ) → map f (range_with_len 0 n) ≡ map g (range_with_len 0 n) → (i : ℕ) → i < n → f i ≡ g i
counted_apart n f g e i h = sym (counted_at n f i h) ∙ ap (λ xs. get_or xs i 0) e ∙ counted_at n g i h

-- a row that has a place has a width
pub some_width : (rows width n : ℕ) → n < rows * width → 0 < width
some_width rows zero n h = absurd (omega arith)
some_width rows (suc width) n h = omega arith

-- the place of a(i,j) of a lane in the master
abbrev pub spot : ℕ → ℕ → ℕ → ℕ → ℕ
spot t lane i j = lane * lane_size t + place t (min i j) (max i j)

pub spot_within : (t m lane i j : ℕ) → lane < m → i < t + 1 → j < t + 1 → spot t lane i j < master_size t m
spot_within t m lane i j in_lanes h k =
    digits_lt in_lanes (place_in_lane t (min i j) (max i j) (omega arith) (omega arith))

pub spot_symmetric : (t lane i j : ℕ) → spot t lane i j ≡ spot t lane j i
spot_symmetric t lane i j = ap (λ n. lane * lane_size t + place t n (max i j)) (min_comm i j) ∙ ap (λ n. lane * lane_size t + place t (min j i) n) (max_comm i j)

module _ (A : Arith) (L : Laws A) where
  abbrev R : Ring (Code A)
  R = codes A L

  pub evaluation_is : (cs : List ℕ) (below : Codes A cs) (x : Code A) → evaluation A cs x.0 ≡ (value_at R (length cs) (code_at A L cs below) x).0
  unfolding evaluation
  evaluation_is cs below x = sym (value_code A L (length cs) (code_at A L cs below) x)

  -- every list made from elements by the index is one of codes
  pub counted_codes : (n : ℕ) (f : ℕ → Code A) → Codes A (map (λ i. (f i).0) (range_with_len 0 n))
  counted_codes n f =
      let xs = map (λ i. (f i).0) (range_with_len 0 n) in
      All-from_get_or (λ c. c < A.order) xs 0
      (λ i h.
      let long : length xs ≡ n = length-map-range_with_len (λ i. (f i).0) 0 n in
      rw (counted_at n (λ i. (f i).0) i (omega arith)) (f i).1)

  pub counted_made : (n : ℕ) (f : ℕ → Code A) (xs : List ℕ) → xs ≡ map (λ i. (f i).0) (range_with_len 0 n) → Codes A xs × (length xs ≡ n)
  counted_made n f xs e = (subst (Codes A) (sym e) (counted_codes n f), ap length e ∙ length-map-range_with_len (λ i. (f i).0) 0 n)

  module _ (t : ℕ) (D : List ℕ) (below : Codes A D) where
    -- a(i,j) of a lane
    abbrev pub square : ℕ → ℕ → ℕ → Code A
    square lane i j = code_at A L D below (spot t lane i j)

    abbrev pub share_element : Code A → ℕ → ℕ → Code A
    share_element u lane j = value_at R (t + 1) (λ i. square lane i j) u

    abbrev pub key_element : Code A → Code A → ℕ → Code A
    key_element u v lane = value_at R (t + 1) (share_element u lane) v

    -- the codes of a share, by their number
    abbrev pub share_by : Code A → ℕ → Code A
    share_by u n = share_element u (n / (t + 1)) (n % (t + 1))

    pub share_is : (m : ℕ) (u : Code A) → share A t m D u.0 ≡ map (λ n. (share_by u n).0) (range_with_len 0 (m * (t + 1)))
    unfolding share share_code coefficient
    share_is m u =
        counted_same (m * (t + 1)) (λ n. share_code A t D u.0 (n / (t + 1)) (n % (t + 1))) (λ n. (share_by u n).0) (λ n h. sym (value_code A L (t + 1) (λ i. square (n / (t + 1)) i (n % (t + 1))) u))

    pub share_at : (m : ℕ) (u : Code A) (lane j : ℕ) → lane < m → j < t + 1 → get_or (share A t m D u.0) (lane * (t + 1) + j) 0 ≡ (share_element u lane j).0
    share_at m u lane j h k =
        ap (λ xs. get_or xs (lane * (t + 1) + j) 0) (share_is m u)
        ∙ counted_at (m * (t + 1)) (λ n. (share_by u n).0) (lane * (t + 1) + j) (digits_lt h k)
        ∙ ap (λ l. (share_element u l ((lane * (t + 1) + j) % (t + 1))).0) (div-mul-add lane (t + 1) j k)
        ∙ ap (λ n. (share_element u lane n).0) (mod-mul-add lane (t + 1) j k)

    pub key_is : (m : ℕ) (u v : Code A) → master_key A t m D u.0 v.0 ≡ map (λ lane. (key_element u v lane).0) (range_with_len 0 m)
    unfolding pair_key
    key_is m u v =
        counted_same m (λ lane. sum_over A (t + 1) (λ j. A.product (get_or (share A t m D u.0) (lane * (t + 1) + j) 0) (power A.product v.0 j))) (λ lane. (key_element u v lane).0)
        (λ lane h.
        sum_over_same A (t + 1) (λ j. A.product (get_or (share A t m D u.0) (lane * (t + 1) + j) 0) (power A.product v.0 j)) (λ j. A.product (share_element u lane j).0 (power A.product v.0 j))
        (λ j k. ap (λ c. A.product c (power A.product v.0 j)) (share_at m u lane j h k))
        ∙ sym (value_code A L (t + 1) (share_element u lane) v))

  module _ (size k : ℕ) (D : List ℕ) (below : Codes A D) where
    abbrev pub seat_element : Code A → ℕ → Code A
    seat_element s p = value_at R k (λ e. code_at A L D below (e * size + p)) s

    pub seat_is : (s : Code A) → seat A size k D s.0 ≡ map (λ p. (seat_element s p).0) (range_with_len 0 size)
    unfolding seat seat_code
    seat_is s = counted_same size (seat_code A size k D s.0) (λ p. (seat_element s p).0) (λ p h. sym (value_code A L k (λ e. code_at A L D below (e * size + p)) s))
