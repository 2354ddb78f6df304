-- What holds of shares, keys, seats and restoring in every field, from its laws alone.
use Rattle.std.specs.Prelude.{◌≡◌, ℕ, ◌+◌, ◌*◌, ◌<◌, ◌≤◌, cond, List, ◌++◌, map, length, take, replicate, ◌==◌, ◌≢◌, slice_index_or}
use Rattle.std.specs.List.Sorted.{IsPermutation}
use Rattle.std.specs.List.{AllByRecursion}
use Rattle.field.specs.Arith.{Arith}
use Rattle.polynomial.specs.Adding.{plus, negated, PairedOff}
use Rattle.polynomial.specs.Interpolation.{difference, quotient, weight, interpolation, restored}
use Rattle.polynomial.specs.Polynomial.{evaluation, product_over, Codes, Different}
use Rattle.polynomial.specs.Seat.{seat}
use Rattle.polynomial.specs.Share.{share, master_key}
use Rattle.polynomial.specs.Table.{master_size, Master, Draw}

module _ (A : Arith) where
  -- The key is symmetric: worked out from the share of u for v, and from the share of v for u, it is the same, whatever the master.
  abbrev pub SymmetricKey : Type 0
  SymmetricKey =
      (t m : ℕ) (master : List ℕ) (u v : ℕ) → Codes A master → u < A.order → v < A.order → master_key A t m master u v ≡ master_key A t m master v u

  -- What stands behind the master has no part in shares.
  abbrev pub OfMaster : Type 0
  OfMaster = (t m : ℕ) (master behind : List ℕ) (u : ℕ) → length master ≡ master_size t m → share A t m (master ++ behind) u ≡ share A t m master u

  -- A polynomial with as many different zeros as coefficients has only zero coefficients.
  abbrev pub Vanishing : Type 0
  Vanishing =
      (coefficients points : List ℕ) → Codes A coefficients → Codes A points → Different points → length points ≡ length coefficients →
      AllByRecursion (λ x. evaluation A coefficients x ≡ 0) points → AllByRecursion (λ c. c ≡ 0) coefficients

  -- a polynomial through points: it has as many coefficients as there are points, and these values at them
  pub record Through (points values coefficients : List ℕ) : Type 0 where
    pub count : length coefficients ≡ length points
    pub codes : Codes A coefficients
    pub meets : map (evaluation A coefficients) points ≡ values

  -- different points, and a value for each, all of them codes
  pub record Points (points values : List ℕ) : Type 0 where
    pub different : Different points
    pub point_codes : Codes A points
    pub value_codes : Codes A values
    pub count : length values ≡ length points

  -- Through different points goes exactly one polynomial; the Lagrange sum gives its value everywhere; the order of the points does not matter.
  pub record Interpolates : Type 0 where
    pub one : (points values : List ℕ) → Points points values → (coefficients : List ℕ) × Through points values coefficients
    pub only : (points values first second : List ℕ) → Points points values → Through points values first → Through points values second → first ≡ second
    pub value : (points values coefficients : List ℕ) (x : ℕ) → Points points values → Through points values coefficients → x < A.order →
        interpolation A points values x ≡ evaluation A coefficients x
    pub unordered : (first second : List (ℕ × ℕ)) (x : ℕ) → IsPermutation first second → Points (map (λ p. p.0) first) (map (λ p. p.1) first) → x < A.order →
        interpolation A (map (λ p. p.0) first) (map (λ p. p.1) first) x ≡ interpolation A (map (λ p. p.0) second) (map (λ p. p.1) second) x
    pub at_zero : (points : List ℕ) (s : ℕ) → Codes A points →
        weight A points s 0 ≡ product_over A (length points) (λ i. let r = slice_index_or points i 0 in cond (r == s) 1 (quotient A r (difference A r s)))

  -- From the codes of any k different seats of a draw its master is restored, and the codes of every seat agree with theirs.
  pub record Restores : Type 0 where
    pub master : (t m k : ℕ) (draw seats : List ℕ) → Draw A t m k draw → Different seats → Codes A seats → length seats ≡ k → 0 < k →
        restored A seats (map (seat A (master_size t m) k draw) seats) (master_size t m) 0 ≡ take (master_size t m) draw
    pub agrees : (t m k : ℕ) (draw seats : List ℕ) (s : ℕ) → Draw A t m k draw → Different seats → Codes A seats → length seats ≡ k → s < A.order →
        restored A seats (map (seat A (master_size t m) k draw) seats) (master_size t m) s ≡ seat A (master_size t m) k draw s

  -- Shares of t + 1 different kiosks come from one master alone, and codes of k different seats from one draw alone.
  pub record Determines : Type 0 where
    pub master : (t m : ℕ) (kiosks first second : List ℕ) → Master A t m first → Master A t m second → Different kiosks → Codes A kiosks → length kiosks ≡ t + 1 →
        AllByRecursion (λ u. share A t m first u ≡ share A t m second u) kiosks → first ≡ second
    pub draw : (t m k : ℕ) (seats first second : List ℕ) → Draw A t m k first → Draw A t m k second → Different seats → Codes A seats → length seats ≡ k →
        AllByRecursion (λ s. seat A (master_size t m) k first s ≡ seat A (master_size t m) k second s) seats → first ≡ second

  -- Adding a draw adds shares, keys and seat codes, code by code; a draw and its negative undo one another.
  pub record Adds (t m k : ℕ) (first second : List ℕ) : Type 0 where
    pub draw : Draw A t m k (plus A first second)
    pub opposite : Draw A t m k (negated A second)
    pub shares : (u : ℕ) → u < A.order → share A t m (plus A first second) u ≡ plus A (share A t m first u) (share A t m second u)
    pub keys : (u v : ℕ) → u < A.order → v < A.order →
        master_key A t m (plus A first second) u v ≡ plus A (master_key A t m first u v) (master_key A t m second u v)
    pub seats : (s : ℕ) → s < A.order →
        seat A (master_size t m) k (plus A first second) s ≡ plus A (seat A (master_size t m) k first s) (seat A (master_size t m) k second s)
    pub undone : plus A (plus A first second) (negated A second) ≡ first
    pub redone : plus A (plus A first (negated A second)) second ≡ first

  abbrev pub Adding : Type 0
  Adding = (t m k : ℕ) (first second : List ℕ) → Draw A t m k first → Draw A t m k second → Adds t m k first second

  -- A pool: kiosks and seats that lay together what they hold.
  pub record Pool : Type 0 where
    pub kiosks : List ℕ
    pub seats : List ℕ

  -- all the numbers of a pool are codes
  pub record Numbered (pool : Pool) : Type 0 where
    pub kiosks : Codes A pool.kiosks
    pub seats : Codes A pool.seats

  -- a draw that the pool cannot see: its kiosks would have shares of zeros, and its seats codes of zeros
  pub record Unseen (t m k : ℕ) (pool : Pool) (shift : List ℕ) : Type 0 where
    pub kiosks : AllByRecursion (λ u. share A t m shift u ≡ replicate (m * (t + 1)) 0) pool.kiosks
    pub seats : AllByRecursion (λ s. seat A (master_size t m) k shift s ≡ replicate (master_size t m) 0) pool.seats

  -- a draw that gives the pool what another draw gives it
  pub record Fits (t m k : ℕ) (pool : Pool) (other draw : List ℕ) : Type 0 where
    pub is_draw : Draw A t m k draw
    pub kiosks : AllByRecursion (λ u. share A t m draw u ≡ share A t m other u) pool.kiosks
    pub seats : AllByRecursion (λ s. seat A (master_size t m) k draw s ≡ seat A (master_size t m) k other s) pool.seats

  -- For a pool of at most t kiosks and at most k - 1 seats, none of them zero, two kiosk numbers outside of it, equal or not, and any m codes: some draw
  -- that the pool cannot see has these codes for the pair key of the two.
  abbrev pub UnseenShift : Type 0
  UnseenShift =
      (t m k : ℕ) (pool : Pool) (u v : ℕ) (key : List ℕ) → Numbered pool → length pool.kiosks ≤ t → length pool.seats < k → AllByRecursion (λ s. s ≢ 0) pool.seats →
      u < A.order → v < A.order → AllByRecursion (λ w. w ≢ u) pool.kiosks → AllByRecursion (λ w. w ≢ v) pool.kiosks → Codes A key → length key ≡ m →
      (shift : List ℕ) × Draw A t m k shift × Unseen t m k pool shift × (master_key A t m shift u v ≡ key)

  -- m codes as the key of each of some pairs of kiosk numbers
  abbrev pub Keys : Type 0
  Keys = ℕ → ℕ → List ℕ

  -- the draw gives every one of these pairs the key that is said
  abbrev pub Gives : ℕ → ℕ → List (ℕ × ℕ) → Keys → List ℕ → Type 0
  Gives t m pairs keys draw = AllByRecursion (λ p. master_key A t m draw p.0 p.1 ≡ keys p.0 p.1) pairs

  -- The pairing, over any draw to be added: where the pool cannot see the shift, and the shift takes the one keys to the others, the draws that fit the pool
  -- and give the one keys are paired off with those that fit it and give the others.
  pub record Taken (t m : ℕ) (shift : List ℕ) (one others : Keys) (p : ℕ × ℕ) : Type 0 where
    pub numbers : (p.0 < A.order) × (p.1 < A.order)
    pub codes : Codes A (one p.0 p.1)
    pub count : length (one p.0 p.1) ≡ m
    pub taken : plus A (one p.0 p.1) (master_key A t m shift p.0 p.1) ≡ others p.0 p.1

  abbrev pub Pairing : Type 0
  Pairing =
      (t m k : ℕ) (pool : Pool) (draw shift : List ℕ) (pairs : List (ℕ × ℕ)) (one others : Keys) → Numbered pool → Draw A t m k draw → Draw A t m k shift →
      Unseen t m k pool shift → AllByRecursion (Taken t m shift one others) pairs →
      PairedOff (λ d. Fits t m k pool draw d × Gives t m pairs one d) (λ d. Fits t m k pool draw d × Gives t m pairs others d)

  -- Whatever the pool holds, every value of an outside pair's key is as open as every other: the draws that fit what the pool holds and give one value are
  -- paired off with those that give another.
  abbrev pub OpenKey : Type 0
  OpenKey =
      (t m k : ℕ) (pool : Pool) (draw : List ℕ) (u v : ℕ) (one other : List ℕ) → Numbered pool → length pool.kiosks ≤ t → length pool.seats < k →
      AllByRecursion (λ s. s ≢ 0) pool.seats → u < A.order → v < A.order → AllByRecursion (λ w. w ≢ u) pool.kiosks → AllByRecursion (λ w. w ≢ v) pool.kiosks →
      Draw A t m k draw → Codes A one → Codes A other → length one ≡ m → length other ≡ m →
      PairedOff (λ d. Fits t m k pool draw d × (master_key A t m d u v ≡ one)) (λ d. Fits t m k pool draw d × (master_key A t m d u v ≡ other))
