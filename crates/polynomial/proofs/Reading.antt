-- What is known where numbers are read as codes.
use Rattle.std.proofs.Common.{◌≡◌, ℕ, ◌+◌, ◌<◌, ◌≤◌, true, cond, ltb, List, length, get_or, take, drop, Some, None, Decides, Option, refl, ◌∙◌, arith}
use Rattle.std.proofs.ByRecursion.{All-more, Decides-by_and}
use Rattle.std.proofs.lemmas.List.{take_all, length-take, length-drop, get_or-take, get_or-drop}
use Rattle.std.proofs.lemmas.Bool.Decides.{nat_tests, Decides-ltb}
use Rattle.field.specs.Arith.{Arith}
use Rattle.polynomial.specs.Polynomial.{Codes, are_codes}

-- a part of a list, and what stands in it
module _ (xs : List ℕ) (start width : ℕ) where
  pub length_part : start + width ≤ length xs → length (take width (drop start xs)) ≡ width
  length_part within = simp (length-take, length-drop) (omega arith)

  pub part_at : (i : ℕ) → i < width → get_or (take width (drop start xs)) i 0 ≡ get_or xs (start + i) 0
  part_at i h = get_or-take width (drop start xs) i 0 h ∙ get_or-drop start xs i 0

-- what is read of a number: the code that it is, unless it is none
abbrev pub Read : Arith → ℕ → Option ℕ → Type 0
Read A n o = o ≡ cond (ltb n A.order) (Some n) None

pub codes_decided : (A : Arith) (cs : List ℕ) → Decides (are_codes A cs) (Codes A cs)
codes_decided A cs = Decides-by_and (λ c. ltb c A.order) (λ c. c < A.order) (are_codes A) (λ c. Decides-ltb c A.order) refl (λ _ _. refl) cs

pub codes_more : (A : Arith) (cs : List ℕ) (i c : ℕ) → i < length cs → Codes A (take i cs) → Read A (get_or cs i 0) (Some c) → Codes A (take (i + 1) cs)
codes_more A cs i c inside so_far read = All-more (λ d. d < A.order) cs i 0 inside so_far (grind (arith, nat_tests))

pub all_codes : (A : Arith) (cs : List ℕ) (i : ℕ) → length cs ≤ i → Codes A (take i cs) → are_codes A cs ≡ true
all_codes A cs i ended so_far = (codes_decided A cs).1 (rw (take_all i cs ended) at so_far)
