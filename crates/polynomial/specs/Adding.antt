-- Adding lists of codes, and lists that are paired off.
use Rattle.std.specs.Prelude.{◌≡◌, ℕ, List, map, length, slice_index}
use Rattle.std.specs.List.{range_with_len}
use Rattle.field.specs.Arith.{Arith}

-- the field's sums, code by code
unfoldable pub plus : Arith → List ℕ → List ℕ → List ℕ
plus A xs ys = map (λ n. A.sum (slice_index xs n) (slice_index ys n)) (range_with_len 0 (length xs))

-- the field's negatives, code by code
unfoldable pub negated : Arith → List ℕ → List ℕ
negated A xs = map A.negative xs

-- The lists of one kind are paired off one to one with those of another: a map each way, and each undoes the other.
pub record PairedOff (First Second : List ℕ → Type 0) : Type 0 where
  pub there : List ℕ → List ℕ
  pub back : List ℕ → List ℕ
  pub there_is : (xs : List ℕ) → First xs → Second (there xs)
  pub back_is : (xs : List ℕ) → Second xs → First (back xs)
  pub back_there : (xs : List ℕ) → First xs → back (there xs) ≡ xs
  pub there_back : (xs : List ℕ) → Second xs → there (back xs) ≡ xs
