-- Draws that a pool cannot tell apart are paired off, by adding a draw that it cannot see and taking it away again.
use Rattle.std.proofs.Common.{◌≡◌, ℕ, ◌+◌, ◌*◌, ◌<◌, List, [], ◌∷◌, length, replicate, sym, ap, ◌∙◌}
use Rattle.std.specs.List.{AllByRecursion}
use Rattle.field.specs.Arith.{Arith, Laws}
use Rattle.polynomial.specs.Adding.{plus, negated}
use Rattle.polynomial.specs.Polynomial.{Codes}
use Rattle.polynomial.specs.Seat.{seat}
use Rattle.polynomial.specs.Share.{share, master_key}
use Rattle.polynomial.specs.Table.{master_size, Draw}
use Rattle.polynomial.specs.Theorems.{Pool, Numbered, Unseen, Fits, Keys, Gives, Taken, Pairing, OpenKey}
use Rattle.polynomial.proofs.Added.{adding, length_plus, plus_codes, negated_codes, plus_comm, plus_negated, negated_plus, plus_zeros}
use Rattle.polynomial.proofs.Carried.{counted_made, share_by, share_is, key_element, key_is, seat_element, seat_is}
use Rattle.polynomial.proofs.Shift.{unseen_shift}

-- what holds of each of a list, from two facts that do
all_both : {X : Type 0} (P Q S : X → Type 0) → ((x : X) → P x → Q x → S x) → (xs : List X) → AllByRecursion P xs → AllByRecursion Q xs → AllByRecursion S xs
all_both P Q S join [] p q = tt
all_both P Q S join (x ∷ xs) p q = (join x p.0 q.0, all_both P Q S join xs p.1 q.1)

module _ (A : Arith) (L : Laws A) where
  module _ (t m k : ℕ) (draw : List ℕ) (d : Draw A t m k draw) where
    abbrev size : ℕ
    size = master_size t m

    share_made : (u : ℕ) → u < A.order → Codes A (share A t m draw u) × (length (share A t m draw u) ≡ m * (t + 1))
    share_made u h = counted_made A L (m * (t + 1)) (share_by A L t draw d.codes (u, h)) _ (share_is A L t draw d.codes m (u, h))

    key_made : (u v : ℕ) → u < A.order → v < A.order → Codes A (master_key A t m draw u v) × (length (master_key A t m draw u v) ≡ m)
    key_made u v h l = counted_made A L m (key_element A L t draw d.codes (u, h) (v, l)) _ (key_is A L t draw d.codes m (u, h) (v, l))

    seat_made : (s : ℕ) → s < A.order → Codes A (seat A size k draw s) × (length (seat A size k draw s) ≡ size)
    seat_made s h = counted_made A L size (seat_element A L size k draw d.codes (s, h)) _ (seat_is A L size k draw d.codes (s, h))

  module _ (t m k : ℕ) (pool : Pool A) (shift : List ℕ) (numbered : Numbered A pool) (s : Draw A t m k shift) (unseen : Unseen A t m k pool shift) where
    -- the pool has the same of a draw and of its sum with the shift
    same_shares : (draw : List ℕ) → Draw A t m k draw → AllByRecursion (λ u. share A t m (plus A draw shift) u ≡ share A t m draw u) pool.kiosks
    same_shares draw d =
        all_both (λ u. u < A.order) (λ u. share A t m shift u ≡ replicate (m * (t + 1)) 0) (λ u. share A t m (plus A draw shift) u ≡ share A t m draw u)
        (λ u h none.
        let (made, long) = share_made t m k draw d u h in
        (adding A L t m k draw shift d s).shares u h
        ∙ ap (plus A (share A t m draw u)) none
        ∙ plus_zeros A L (share A t m draw u) (m * (t + 1)) made long)
        pool.kiosks numbered.kiosks unseen.kiosks

    same_seats : (draw : List ℕ) → Draw A t m k draw → AllByRecursion (λ n. seat A (master_size t m) k (plus A draw shift) n ≡ seat A (master_size t m) k draw n) pool.seats
    same_seats draw d =
        all_both (λ n. n < A.order) (λ n. seat A (master_size t m) k shift n ≡ replicate (master_size t m) 0) (λ n. seat A (master_size t m) k (plus A draw shift) n ≡ seat A (master_size t m) k draw n)
        (λ n h none.
        let (made, long) = seat_made t m k draw d n h in
        (adding A L t m k draw shift d s).seats n h
        ∙ ap (plus A (seat A (master_size t m) k draw n)) none
        ∙ plus_zeros A L (seat A (master_size t m) k draw n) (master_size t m) made long)
        pool.seats numbered.seats unseen.seats

    fits_there : (other draw : List ℕ) → Fits A t m k pool other draw → Fits A t m k pool other (plus A draw shift)
    fits_there other draw fits = record {
      is_draw = (adding A L t m k draw shift fits.is_draw s).draw;
      kiosks = all_both (λ u. share A t m (plus A draw shift) u ≡ share A t m draw u) (λ u. share A t m draw u ≡ share A t m other u) (λ u. share A t m (plus A draw shift) u ≡ share A t m other u)
          (λ u e₁ e₂. e₁ ∙ e₂) pool.kiosks (same_shares draw fits.is_draw) fits.kiosks;
      seats = all_both (λ n. seat A (master_size t m) k (plus A draw shift) n ≡ seat A (master_size t m) k draw n) (λ n. seat A (master_size t m) k draw n ≡ seat A (master_size t m) k other n) (λ n. seat A (master_size t m) k (plus A draw shift) n ≡ seat A (master_size t m) k other n)
          (λ n e₁ e₂. e₁ ∙ e₂) pool.seats (same_seats draw fits.is_draw) fits.seats;
    }

    -- a draw less the shift, of which the draw is the sum with the shift again
    less : List ℕ → List ℕ
    less draw = plus A draw (negated A shift)

    less_draw : (draw : List ℕ) → Draw A t m k draw → Draw A t m k (less draw)
    unfolding less
    less_draw draw d = (adding A L t m k draw (negated A shift) d (adding A L t m k draw shift d s).opposite).draw

    less_again : (draw : List ℕ) → Draw A t m k draw → plus A (less draw) shift ≡ draw
    unfolding less
    less_again draw d = (adding A L t m k draw shift d s).redone

    fits_back : (other draw : List ℕ) → Fits A t m k pool other draw → Fits A t m k pool other (less draw)
    fits_back other draw fits =
        let d = fits.is_draw in
        let l = less_draw draw d in
        let again = less_again draw d in
        record {
          is_draw = l;
          kiosks = all_both (λ u. share A t m (plus A (less draw) shift) u ≡ share A t m (less draw) u) (λ u. share A t m draw u ≡ share A t m other u) (λ u. share A t m (less draw) u ≡ share A t m other u)
              (λ u e₁ e₂. sym e₁ ∙ ap (λ x. share A t m x u) again ∙ e₂) pool.kiosks (same_shares (less draw) l) fits.kiosks;
          seats = all_both (λ n. seat A (master_size t m) k (plus A (less draw) shift) n ≡ seat A (master_size t m) k (less draw) n) (λ n. seat A (master_size t m) k draw n ≡ seat A (master_size t m) k other n) (λ n. seat A (master_size t m) k (less draw) n ≡ seat A (master_size t m) k other n)
              (λ n e₁ e₂. sym e₁ ∙ ap (λ x. seat A (master_size t m) k x n) again ∙ e₂) pool.seats (same_seats (less draw) l) fits.seats;
        }

    module _ (one others : Keys A) where
      gives_there : (pairs : List (ℕ × ℕ)) → AllByRecursion (Taken A t m shift one others) pairs → (draw : List ℕ) → Draw A t m k draw → Gives A t m pairs one draw → Gives A t m pairs others (plus A draw shift)
      gives_there pairs taken draw d =
          all_both (Taken A t m shift one others) (λ p. master_key A t m draw p.0 p.1 ≡ one p.0 p.1) (λ p. master_key A t m (plus A draw shift) p.0 p.1 ≡ others p.0 p.1)
          (λ p T e.
          (adding A L t m k draw shift d s).keys p.0 p.1 T.numbers.0 T.numbers.1
          ∙ ap (λ x. plus A x (master_key A t m shift p.0 p.1)) e
          ∙ T.taken)
          pairs taken

      gives_back : (pairs : List (ℕ × ℕ)) → AllByRecursion (Taken A t m shift one others) pairs → (draw : List ℕ) → Draw A t m k draw → Gives A t m pairs others draw → Gives A t m pairs one (less draw)
      gives_back pairs taken draw d =
          all_both (Taken A t m shift one others) (λ p. master_key A t m draw p.0 p.1 ≡ others p.0 p.1) (λ p. master_key A t m (less draw) p.0 p.1 ≡ one p.0 p.1)
          (λ p T e.
          let u = p.0 in
          let v = p.1 in
          let h = T.numbers.0 in
          let l = T.numbers.1 in
          let K = master_key A t m shift u v in
          let X = master_key A t m (less draw) u v in
          let ld = less_draw draw d in
          let (K_codes, K_length) = key_made t m k shift s u v h l in
          let (X_codes, X_length) = key_made t m k (less draw) ld u v h l in
          sym (plus_negated A L X K X_codes K_codes (K_length ∙ sym X_length))
          ∙ ap (λ x. plus A x (negated A K)) (sym ((adding A L t m k (less draw) shift ld s).keys u v h l) ∙ ap (λ x. master_key A t m x u v) (less_again draw d) ∙ e ∙ sym T.taken)
          ∙ plus_negated A L (one u v) K T.codes K_codes (K_length ∙ sym T.count))
          pairs taken

  pub pairing : Pairing A
  unfolding less
  pairing t m k pool draw shift pairs one others numbered d s unseen taken = record {
    there = λ x. plus A x shift;
    back = less t m k pool shift numbered s unseen;
    there_is = λ x (fits, gives). (
      fits_there t m k pool shift numbered s unseen draw x fits,
      gives_there t m k pool shift numbered s unseen one others pairs taken x fits.is_draw gives,
    );
    back_is = λ x (fits, gives). (
      fits_back t m k pool shift numbered s unseen draw x fits,
      gives_back t m k pool shift numbered s unseen one others pairs taken x fits.is_draw gives,
    );
    back_there = λ x (fits, gives). (adding A L t m k x shift fits.is_draw s).undone;
    there_back = λ x (fits, gives). (adding A L t m k x shift fits.is_draw s).redone;
  }

  pub open_key : OpenKey A
  open_key t m k pool draw u v one other numbered few_kiosks few_seats nonzero u_below v_below u_apart v_apart d one_codes other_codes one_count other_count =
      let between = plus A other (negated A one) in
      let opposite = negated_codes A L one one_codes in
      let (shift, s, unseen, key) = unseen_shift A L t m k pool u v between numbered few_kiosks few_seats nonzero u_below v_below u_apart v_apart
      (plus_codes A L other (negated A one) other_codes opposite)
      (length_plus A L other (negated A one) ∙ other_count) in
      let taken : Taken A t m shift (λ a b. one) (λ a b. other) (u, v) = record {
        numbers = (u_below, v_below);
        codes = one_codes;
        count = one_count;
        taken =
            ap (plus A one) key
            ∙ plus_comm A L one between one_codes (plus_codes A L other (negated A one) other_codes opposite) (one_count ∙ sym (length_plus A L other (negated A one) ∙ other_count))
            ∙ negated_plus A L other one other_codes one_codes (one_count ∙ sym other_count);
      } in
      let paired = pairing t m k pool draw shift ((u, v) ∷ []) (λ a b. one) (λ a b. other) numbered d s unseen (taken, tt) in
      record {
        there = paired.there;
        back = paired.back;
        there_is = λ x (fits, gives). let (f, g) = paired.there_is x (fits, (gives, tt)) in (f, g.0);
        back_is = λ x (fits, gives). let (f, g) = paired.back_is x (fits, (gives, tt)) in (f, g.0);
        back_there = λ x (fits, gives). paired.back_there x (fits, (gives, tt));
        there_back = λ x (fits, gives). paired.there_back x (fits, (gives, tt));
      }
