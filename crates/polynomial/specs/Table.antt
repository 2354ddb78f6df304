-- The layout of the secret table: the master, a symmetric square of coefficients in each lane, of which one half is kept, and behind it the
-- blocks that hide it from custodians.
use Rattle.std.specs.Prelude.{◌≡◌, ℕ, ◌+◌, ◌-◌, ◌*◌, ◌/◌, min, max, List, length, slice_index}
use Rattle.field.specs.Arith.{Arith}
use Rattle.polynomial.specs.Polynomial.{Codes}

-- the number of codes in one lane: a(i,j) for i from 0 to j and j from 0 to t
abbrev pub lane_size : ℕ → ℕ
lane_size t = (t + 1) * (t + 2) / 2

-- the place of a(i,j) within its lane, for i at most j: the rows stand one behind the other, and row i begins with a(i,i)
abbrev pub place : ℕ → ℕ → ℕ → ℕ
place t i j = i * (t + 1) - i * (i - 1) / 2 + (j - i)

-- a(i,j) of a lane; a(j,i) means a(i,j)
unfoldable pub coefficient : ℕ → List ℕ → ℕ → ℕ → ℕ → ℕ
coefficient t master lane i j = slice_index master (lane * lane_size t + place t (min i j) (max i j))

-- the number of codes in a master of m lanes
abbrev pub master_size : ℕ → ℕ → ℕ
master_size t m = m * lane_size t

pub record Master (A : Arith) (t m : ℕ) (master : List ℕ) : Type 0 where
  pub size : length master ≡ master_size t m
  pub codes : Codes A master

-- A draw is a master, and then for each power from 1 to k - 1 a block of as many codes, in the same order. It is drawn by chance.
pub record Draw (A : Arith) (t m k : ℕ) (draw : List ℕ) : Type 0 where
  pub size : length draw ≡ k * master_size t m
  pub codes : Codes A draw
