-- A buffer that is written from its front on: what is written so far, and behind it what the buffer held.
use Rattle.std.proofs.Common.{◌≡◌, ℕ, suc, ◌+◌, ◌-◌, ◌*◌, ◌<◌, ◌≤◌, List, [], ◌∷◌, ◌++◌, length, take, drop, set, sym, refl, ap, ◌∙◌, arith, add-one}
use borrow.Rule.Slice.PartMut.{put_mid}
use Rattle.std.specs.List.{flat_map}
use Rattle.std.proofs.lemmas.List.{append-nil, append_assoc, length-append, length-drop, take_at, take_rest, drop_all, drop-drop, set_split}
use Rattle.std.proofs.lemmas.Slice.{drop-append-drop}
use Rattle.line.specs.Digits.{eight}
use Rattle.line.proofs.Numbers.{length_eight}

-- the buffer has these n bytes in front, and is else as it was
pub record Front (bytes : List ℕ) (n : ℕ) (was buffer : List ℕ) : Type 0 where
  pub count : length bytes ≡ n
  pub holds : buffer ≡ bytes ++ drop n was

-- k bytes more are written behind the front
pub front_more : (n k : ℕ) (bytes more was buffer after : List ℕ) → Front bytes n was buffer → length more ≡ k → after ≡ take n buffer ++ (more ++ drop (n + k) buffer) → Front (bytes ++ more) (n + k) was after
front_more n k bytes more was buffer after front long e = record {
  count = length-append bytes more ∙ omega (arith, front.count);
  holds =
      let kept : drop (n + k) buffer ≡ drop (n + k) was = ap (drop (n + k)) front.holds ∙ drop-append-drop n was bytes (n + k) (omega arith) front.count in
      let before : take n buffer ≡ bytes = ap (take n) front.holds ∙ take_at bytes (drop n was) n front.count in
      e
      ∙ ap (λ bs. bs ++ (more ++ drop (n + k) buffer)) before
      ∙ ap (λ bs. bytes ++ (more ++ bs)) kept
      ∙ sym (append_assoc bytes more (drop (n + k) was));
}

pub front_length : {n : ℕ} {bytes was buffer : List ℕ} → Front bytes n was buffer → n ≤ length was → length buffer ≡ length was
front_length {n} {bytes} {was} front l = ap length front.holds ∙ length-append bytes (drop n was) ∙ omega (arith, front.count, length-drop n was)

-- nothing is written yet
pub front_none : (was : List ℕ) → Front [] 0 was was
front_none was = record { count = refl; holds = refl }

-- one byte is written
pub front_byte : (b : ℕ) {n : ℕ} {bytes was buffer : List ℕ} → Front bytes n was buffer → n < length buffer → Front (bytes ++ (b ∷ [])) (n + 1) was (set buffer n b)
front_byte b {n} {bytes} {was} {buffer} front l = front_more n 1 bytes (b ∷ []) was buffer (set buffer n b) front refl (rw add-one (set_split buffer n b l))

-- a tab and a number are written
pub front_field : (number : ℕ) {n : ℕ} {bytes was buffer after : List ℕ} → Front bytes n was buffer → after ≡ take n buffer ++ (9 ∷ (eight number ++ drop (n + 9) buffer)) → Front (bytes ++ (9 ∷ eight number)) (n + 9) was after
front_field number {n} {bytes} {was} {buffer} {after} front e = front_more n 9 bytes (9 ∷ eight number) was buffer after front (ap suc (length_eight number)) e

-- the rest of the buffer is lent, and bytes are written into its front
pub lent_at : (n k : ℕ) (more buffer lent : List ℕ) → n ≤ length buffer → lent ≡ more ++ drop k (take (length buffer - n) (drop n buffer)) → put_mid n (length buffer - n) buffer lent ≡ take n buffer ++ (more ++ drop (n + k) buffer)
lent_at n k more buffer lent l e =
    let past : drop (length buffer - n) (drop n buffer) ≡ [] = drop_all (length buffer - n) (drop n buffer) (omega (arith, length-drop n buffer)) in
    ap (λ bs. take n buffer ++ bs)
    (ap (λ bs. lent ++ bs) past ∙ append-nil lent ∙ e
    ∙ ap (λ bs. more ++ drop k bs) (take_rest buffer n)
    ∙ ap (λ bs. more ++ bs) (drop-drop k n buffer))

-- Codes

pub length_codes : (codes : List ℕ) → length (flat_map eight codes) ≡ 8 * length codes
length_codes [] = refl
length_codes (c ∷ codes) = length-append (eight c) (flat_map eight codes) ∙ omega (arith, length_eight c, length_codes codes)
