-- From the codes of enough seats a master is restored.
use Rattle.std.proofs.Common.{◌≡◌, ℕ, ◌+◌, ◌*◌, ◌<◌, ◌≤◌, List, map, length, get_or, take, sym, ap, ◌∙◌, subst, mul-le-mul_right, arith}
use Rattle.std.specs.List.{range_with_len}
use Rattle.std.proofs.lemmas.List.FromFn.{length-map-range_with_len, fill_by_all}
use Rattle.std.proofs.ByRecursion.{All-from_get_or}
use Rattle.std.proofs.lemmas.List.{ext_get_or, get_or-map, length-map, length-take-le, get_or-take}
use Rattle.field.specs.Arith.{Arith, Laws}
use Rattle.field.proofs.Codes.{Code, codes}
use Rattle.field.proofs.Ring.{Ring}
use Rattle.polynomial.specs.Interpolation.{interpolation, at_place, restored}
use Rattle.polynomial.specs.Polynomial.{evaluation, Codes, Different}
use Rattle.polynomial.specs.Seat.{seat}
use Rattle.polynomial.specs.Table.{master_size}
use Rattle.polynomial.specs.Theorems.{Through, Points, Restores}
use Rattle.polynomial.proofs.Carried.{counted_same, counted_at, counted_codes, seat_element, seat_is}
use Rattle.polynomial.proofs.Evaluation.{code_at}
use Rattle.polynomial.proofs.Lagrange.{evaluation_counted, value_through}
use Rattle.polynomial.proofs.Sums.{value_zero}

module _ (A : Arith) (L : Laws A) where
  abbrev R : Ring (Code A)
  R = codes A L

  module _ (size k : ℕ) (draw seats : List ℕ) (below : Codes A draw) (different : Different seats) (seats_below : Codes A seats) (count : length seats ≡ k) where
    abbrev lines : List (List ℕ)
    lines = map (seat A size k draw) seats

    -- the codes of all blocks at a place
    abbrev blocks : ℕ → ℕ → Code A
    blocks p e = code_at A L draw below (e * size + p)

    abbrev stacked : ℕ → List ℕ
    stacked p = map (λ e. (blocks p e).0) (range_with_len 0 k)

    line_count : (p : ℕ) → length (at_place lines p) ≡ length seats
    line_count p = length-map lines (λ (line : List ℕ). get_or line p 0) ∙ length-map seats (seat A size k draw)

    line_code : (p : ℕ) → p < size → (i : ℕ) → i < length seats → get_or (at_place lines p) i 0 ≡ (seat_element A L size k draw below (code_at A L seats seats_below i) p).0
    line_code p h i inside =
        let s = code_at A L seats seats_below i in
        let long : length lines ≡ length seats = length-map seats (seat A size k draw) in
        get_or-map (λ (line : List ℕ). get_or line p 0) lines i (seat A size k draw 0) 0 (omega arith)
        ∙ ap (λ (line : List ℕ). get_or line p 0) (get_or-map (seat A size k draw) seats i 0 (seat A size k draw 0) inside)
        ∙ ap (λ (line : List ℕ). get_or line p 0) (seat_is A L size k draw below s)
        ∙ counted_at size (λ q. (seat_element A L size k draw below s q).0) p h

    points : (p : ℕ) → p < size → Points A seats (at_place lines p)
    points p h =
        let long = line_count p in
        record {
          different = different;
          point_codes = seats_below;
          value_codes = All-from_get_or (λ c. c < A.order) (at_place lines p) 0
              (λ i l.
              let inside : i < length seats = omega arith in
              subst (λ c. c < A.order) (sym (line_code p h i inside)) (seat_element A L size k draw below (code_at A L seats seats_below i) p).1);
          count = long;
        }

    stacked_through : (p : ℕ) → p < size → Through A seats (at_place lines p) (stacked p)
    stacked_through p h =
        let long = line_count p in
        let values = map (evaluation A (stacked p)) seats in
        let long₂ = length-map seats (evaluation A (stacked p)) in
        record {
          count = length-map-range_with_len (λ e. (blocks p e).0) 0 k ∙ sym count;
          codes = counted_codes A L k (blocks p);
          meets = ext_get_or 0 values (at_place lines p) (long₂ ∙ sym long)
              (λ i l.
              let inside : i < length seats = omega arith in
              get_or-map (evaluation A (stacked p)) seats i 0 0 inside
              ∙ evaluation_counted A L k (blocks p) (code_at A L seats seats_below i)
              ∙ sym (line_code p h i inside));
        }

    restored_at : (x : Code A) → restored A seats lines size x.0 ≡ map (λ p. (seat_element A L size k draw below x p).0) (range_with_len 0 size)
    unfolding restored
    restored_at x =
        counted_same size (λ p. interpolation A seats (at_place lines p) x.0) (λ p. (seat_element A L size k draw below x p).0)
        (λ p h.
        value_through A L seats (at_place lines p) (points p h) (stacked p) x.0 (stacked_through p h) x.1
        ∙ evaluation_counted A L k (blocks p) x)

    pub seat_restored : (s : ℕ) → s < A.order → restored A seats lines size s ≡ seat A size k draw s
    seat_restored s h = let x : Code A = (s, h) in restored_at x ∙ sym (seat_is A L size k draw below x)

  -- at zero only the master counts
  at_zero : (size k : ℕ) (draw : List ℕ) (below : Codes A draw) (p : ℕ) → 0 < k → (seat_element A L size k draw below R.zero p).0 ≡ get_or draw p 0
  at_zero size k draw below p some =
      let here : 0 * size + p ≡ p = omega arith in
      ap (λ (c : Code A). c.0) (value_zero R k (λ e. code_at A L draw below (e * size + p)) some) ∙ ap (λ n. get_or draw n 0) here

  master_restored : (size k : ℕ) (draw seats : List ℕ) → length draw ≡ k * size → Codes A draw → Different seats → Codes A seats → length seats ≡ k → 0 < k →
      restored A seats (map (seat A size k draw) seats) size 0 ≡ take size draw
  master_restored size k draw seats long below different seats_below count some =
      let enough : size ≤ length draw = omega (arith, mul-le-mul_right size some) in
      let f = λ (p : ℕ). (seat_element A L size k draw below R.zero p).0 in
      restored_at size k draw seats below different seats_below count R.zero
      ∙ sym
      (fill_by_all f (take size draw) size 0 (length-take-le size draw enough)
      (λ p h. get_or-take size draw p 0 h ∙ sym (at_zero size k draw below p some)))

  pub restores : Restores A
  restores = record {
    master = λ t m k draw seats d different seats_below count some. master_restored (master_size t m) k draw seats d.size d.codes different seats_below count some;
    agrees = λ t m k draw seats s d different seats_below count h. seat_restored (master_size t m) k draw seats d.codes different seats_below count s h;
  }
