-- What a loop leaves that writes a list into the first places of a buffer.
use Rattle.std.proofs.Common.{◌≡◌, ℕ, ◌+◌, ◌<◌, List, ◌++◌, length, get_or, drop, set, sym, ap, ◌∙◌, zero-add, arith}
use lib.Seq.{paste}
use Rattle.std.proofs.lemmas.List.Edits.{paste_more, paste_all}

-- one more is written
pub written_more : {X : Type 0} (xs now was : List X) (i : ℕ) (x d : X) → now ≡ paste was 0 xs i → x ≡ get_or xs i d → i < length was → i < length xs → set now i x ≡ paste was 0 xs (i + 1)
written_more xs now was i x d so_far here room inside =
    ap (λ k. set k i x) so_far
    ∙ ap (set (paste was 0 xs i) i) here
    ∙ ap (λ n. set (paste was 0 xs i) n (get_or xs i d)) (sym (zero-add i))
    ∙ paste_more was 0 xs i d (omega arith) inside

-- all are written
pub written_all : {X : Type 0} (xs now was : List X) (i n : ℕ) → now ≡ paste was 0 xs i → i ≡ n → n ≡ length xs → now ≡ xs ++ drop n was
written_all xs now was i n so_far ended whole = so_far ∙ ap (paste was 0 xs) ended ∙ paste_all was 0 xs n whole ∙ ap (λ k. xs ++ drop k was) (zero-add n)
