-- A draw that a pool cannot see, and that moves the key of an outside pair to any value. With f for the product of w - x over the pooled kiosks w, and g for
-- that of (s - x)/s over the pooled seats s, it has c·f(i)·f(j)·g(e) for a(i,j) in block e, where f(i) and g(e) are coefficients.
use Rattle.std.proofs.Common.{◌≡◌, ℕ, suc, ◌+◌, ◌*◌, ◌/◌, ◌%◌, ◌<◌, ◌≤◌, max, List, [], ◌∷◌, map, length, replicate, sym, refl, ap, ◌∙◌, ⊎_elim, arith}
use native.Mathlib.Nat.{min-eq_left, min-eq_right, max-eq_left, max-eq_right}
use Rattle.std.specs.List.{range_with_len, AllByRecursion}
use lib.Arith.{digits_lt}
use Rattle.std.proofs.lemmas.Nat.{div-mul-add, mod-mul-add, div_below, mod_below}
use Rattle.std.proofs.lemmas.List.FromFn.{fill_by_all, length-map-range_with_len}
use Rattle.std.proofs.ByRecursion.{All-get_or, All-from_get_or}
use Rattle.std.proofs.lemmas.List.{length-replicate, get_or-replicate}
use Rattle.std.proofs.lemmas.Bool.{cases_lt}
use Rattle.field.specs.Arith.{Arith, Laws}
use Rattle.field.proofs.Codes.{Code, codes, codes_field, same_code}
use Rattle.field.proofs.Ring.{Ring, mul_zero, mul_one, equal, zero_factor}
use Rattle.field.proofs.Solve.{var, ◌⊗◌, ring}
use Rattle.polynomial.specs.Polynomial.{Codes}
use Rattle.polynomial.specs.Seat.{seat}
use Rattle.polynomial.specs.Share.{share, master_key}
use Rattle.polynomial.specs.Table.{lane_size, place, master_size, Draw}
use Rattle.polynomial.specs.Theorems.{Pool, Numbered, Unseen, UnseenShift}
use Rattle.polynomial.proofs.Carried.{counted_at, counted_codes, spot, spot_within, share_element, share_by, share_is, key_element, key_is, seat_element, seat_is}
use Rattle.polynomial.proofs.Evaluation.{code_at}
use Rattle.polynomial.proofs.Places.{row_of, column_of, place_in_lane, row_of_place, column_of_place}
use Rattle.polynomial.proofs.Sums.{products, value_at, value_zero, value_same, value_mul}
use Rattle.polynomial.proofs.Through.{minus, Polynomial, lengthened, scaled, with_roots, product_zero, product_nonzero}

zeros_counted : (n : ℕ) (f : ℕ → ℕ) → ((i : ℕ) → i < n → f i ≡ 0) → map f (range_with_len 0 n) ≡ replicate n 0
zeros_counted n f none =
    sym (fill_by_all f (replicate n 0) n 0 (length-replicate n 0) (λ i h. get_or-replicate n i 0 0 h ∙ sym (none i h)))

module _ (A : Arith) (L : Laws A) where
  abbrev R : Ring (Code A)
  R = codes A L

  one_nonzero : R.one ≡ R.zero → ⊥
  one_nonzero e = let Codes-same : ◌≡◌ {A = ℕ} 1 0 = ap (λ (c : Code A). c.0) e in omega arith

  -- a product of differences from given points, as a polynomial of any number of coefficients that suffices
  module _ (points : List ℕ) (below : Codes A points) where
    abbrev from : Code A → Code A
    from x = products R (length points) (λ i. minus R (code_at A L points below i) x)

    from_polynomial : (n : ℕ) → length points < n → Polynomial R n from
    from_polynomial n h = lengthened R (suc (length points)) n from h (with_roots R (length points) (code_at A L points below))

    from_zero : (i : ℕ) → i < length points → from (code_at A L points below i) ≡ R.zero
    from_zero i h =
        let r = code_at A L points below i in
        product_zero R (length points) (λ j. minus R (code_at A L points below j) r) i h (R.add_neg r)

    from_nonzero : (x : Code A) → AllByRecursion (λ w. w ≡ x.0 → ⊥) points → from x ≡ R.zero → ⊥
    from_nonzero x apart =
        product_nonzero (codes_field A L) (length points) (λ i. minus R (code_at A L points below i) x) one_nonzero
        (λ i h e. All-get_or (λ w. w ≡ x.0 → ⊥) points i 0 h apart (ap (λ (c : Code A). c.0) (equal R (code_at A L points below i) x e)))

  -- the square c·f(i)·f(j) in each lane, times g(e) in block e
  module _ (t m k : ℕ) (some : 0 < k) (c f g : ℕ → Code A) (g_one : g 0 ≡ R.one) where
    abbrev T : ℕ
    T = lane_size t

    abbrev size : ℕ
    size = master_size t m

    at_master : ℕ → Code A
    at_master p = R.mul (c (p / T)) (R.mul (f (row_of t (p % T))) (f (column_of t (p % T))))

    at_draw : ℕ → Code A
    at_draw n = R.mul (at_master (n % size)) (g (n / size))

    abbrev shift : List ℕ
    shift = map (λ n. (at_draw n).0) (range_with_len 0 (k * size))

    abbrev shift_codes : Codes A shift
    shift_codes = counted_codes A L (k * size) at_draw

    shift_at : (e p : ℕ) → e < k → p < size → code_at A L shift shift_codes (e * size + p) ≡ R.mul (at_master p) (g e)
    unfolding at_draw
    shift_at e p h l =
        same_code A _ _ (counted_at (k * size) (λ n. (at_draw n).0) (e * size + p) (digits_lt h l))
        ∙ ap (λ n. R.mul (at_master n) (g ((e * size + p) / size))) (mod-mul-add e size p l)
        ∙ ap (λ n. R.mul (at_master p) (g n)) (div-mul-add e size p l)

    at_place : (lane i j : ℕ) → i ≤ j → j ≤ t → at_master (lane * T + place t i j) ≡ R.mul (c lane) (R.mul (f i) (f j))
    unfolding at_master
    at_place lane i j le most =
        let p = place t i j in
        let inside = place_in_lane t i j le most in
        ap (λ q. R.mul (c ((lane * T + p) / T)) (R.mul (f (row_of t q)) (f (column_of t q)))) (mod-mul-add lane T p inside)
        ∙ ap (λ q. R.mul (c q) (R.mul (f (row_of t p)) (f (column_of t p)))) (div-mul-add lane T p inside)
        ∙ ap (λ q. R.mul (c lane) (R.mul (f q) (f (column_of t p)))) (row_of_place t i j le most)
        ∙ ap (λ q. R.mul (c lane) (R.mul (f i) (f q))) (column_of_place t i j le most)

    -- the coefficient at (i,j), in either order
    at_spot : (lane i j : ℕ) → i < t + 1 → j < t + 1 → at_master (spot t lane i j) ≡ R.mul (c lane) (R.mul (f i) (f j))
    at_spot lane i j h l =
        ⊎_elim
        (λ less.
        let le : i ≤ j = omega arith in
        ap (λ a. at_master (lane * T + place t a (max i j))) (min-eq_left le)
        ∙ ap (λ b. at_master (lane * T + place t i b)) (max-eq_right le)
        ∙ at_place lane i j le (omega arith))
        (λ le.
        ap (λ a. at_master (lane * T + place t a (max i j))) (min-eq_right le)
        ∙ ap (λ b. at_master (lane * T + place t j b)) (max-eq_left le)
        ∙ at_place lane j i le (omega arith)
        ∙ ap (R.mul (c lane)) (R.mul_comm (f j) (f i)))
        (cases_lt i j)

    coefficient_is : (lane i j : ℕ) → lane < m → i < t + 1 → j < t + 1 → code_at A L shift shift_codes (spot t lane i j) ≡ R.mul (R.mul (c lane) (f j)) (f i)
    coefficient_is lane i j in_lanes h l =
        let first : 0 * size + spot t lane i j ≡ spot t lane i j = omega arith in
        ap (code_at A L shift shift_codes) (sym first)
        ∙ shift_at 0 (spot t lane i j) some (spot_within t m lane i j in_lanes h l)
        ∙ ap (R.mul (at_master (spot t lane i j))) g_one
        ∙ mul_one R (at_master (spot t lane i j))
        ∙ at_spot lane i j h l
        ∙ ring R (c lane ∷ f i ∷ f j ∷ []) (var 0 ⊗ (var 1 ⊗ var 2)) (var 0 ⊗ var 2 ⊗ var 1) refl

    share_shift : (u : Code A) (lane j : ℕ) → lane < m → j < t + 1 → share_element A L t shift shift_codes u lane j ≡ R.mul (R.mul (c lane) (f j)) (value_at R (t + 1) f u)
    share_shift u lane j in_lanes l =
        value_same R (t + 1) (λ i. code_at A L shift shift_codes (spot t lane i j)) (λ i. R.mul (R.mul (c lane) (f j)) (f i)) u (λ i h. coefficient_is lane i j in_lanes h l)
        ∙ value_mul R (t + 1) (R.mul (c lane) (f j)) f u

    key_shift : (u v : Code A) (lane : ℕ) → lane < m → key_element A L t shift shift_codes u v lane ≡ R.mul (c lane) (R.mul (value_at R (t + 1) f u) (value_at R (t + 1) f v))
    key_shift u v lane in_lanes =
        let fu = value_at R (t + 1) f u in
        value_same R (t + 1) (share_element A L t shift shift_codes u lane) (λ j. R.mul (R.mul (c lane) fu) (f j)) v
        (λ j l. share_shift u lane j in_lanes l ∙ ring R (c lane ∷ f j ∷ fu ∷ []) (var 0 ⊗ var 1 ⊗ var 2) (var 0 ⊗ var 2 ⊗ var 1) refl)
        ∙ value_mul R (t + 1) (R.mul (c lane) fu) f v
        ∙ R.mul_assoc (c lane) fu (value_at R (t + 1) f v)

    seat_shift : (s : Code A) (p : ℕ) → p < size → seat_element A L size k shift shift_codes s p ≡ R.mul (at_master p) (value_at R k g s)
    seat_shift s p inside =
        value_same R k (λ e. code_at A L shift shift_codes (e * size + p)) (λ e. R.mul (at_master p) (g e)) s (λ e h. shift_at e p h inside)
        ∙ value_mul R k (at_master p) g s

  -- the pieces put together
  unseen_shift_of : (t m k : ℕ) (pool : Pool A) (u v : Code A) (key : List ℕ) → Numbered A pool → length pool.kiosks ≤ t → length pool.seats < k →
      AllByRecursion (λ s. s ≡ 0 → ⊥) pool.seats → AllByRecursion (λ w. w ≡ u.0 → ⊥) pool.kiosks → AllByRecursion (λ w. w ≡ v.0 → ⊥) pool.kiosks → Codes A key → length key ≡ m →
      (shift : List ℕ) × Draw A t m k shift × Unseen A t m k pool shift × (master_key A t m shift u.0 v.0 ≡ key)
  unseen_shift_of t m k pool u v key numbered few_kiosks few_seats nonzero u_apart v_apart key_codes count =
      let kiosks = pool.kiosks in
      let seats = pool.seats in
      let kb = numbered.kiosks in
      let sb = numbered.seats in
      let F = from kiosks kb in
      let pf = from_polynomial kiosks kb (t + 1) (omega arith) in
      let f = pf.coefficient in
      let some : 0 < k = omega arith in
      let (z, z_unit) = (codes_field A L).inverse (R.mul (F u) (F v))
      (λ e. ⊎_elim (from_nonzero kiosks kb u u_apart) (from_nonzero kiosks kb v v_apart) (zero_factor (codes_field A L) (F u) (F v) e)) in
      let c = λ (lane : ℕ). R.mul (code_at A L key key_codes lane) z in
      let G = from seats sb in
      let (y, y_unit) = (codes_field A L).inverse (G R.zero) (from_nonzero seats sb R.zero nonzero) in
      let pg = scaled R k G y (from_polynomial seats sb k few_seats) in
      let g = pg.coefficient in
      let g_one : g 0 ≡ R.one = sym (value_zero R k g some) ∙ sym (pg.gives R.zero) ∙ R.mul_comm y (G R.zero) ∙ y_unit in
      let Δ = shift t m k some c f g g_one in
      let Δb = shift_codes t m k some c f g g_one in
      let size = master_size t m in (
        Δ,
        record { size = length-map-range_with_len (λ n. (at_draw t m k some c f g g_one n).0) 0 (k * size); codes = Δb },
        record {
          kiosks = All-from_get_or (λ w. share A t m Δ w ≡ replicate (m * (t + 1)) 0) kiosks 0
              (λ i h.
              let w = code_at A L kiosks kb i in
              share_is A L t Δ Δb m w
              ∙ zeros_counted (m * (t + 1)) (λ n. (share_by A L t Δ Δb w n).0)
              (λ n l.
              let width : 0 < t + 1 = omega arith in
              let lane = n / (t + 1) in
              let j = n % (t + 1) in
              ap (λ (d : Code A). d.0)
              (share_shift t m k some c f g g_one w lane j (div_below n (t + 1) m width l) (mod_below n (t + 1) width)
              ∙ ap (R.mul (R.mul (c lane) (f j))) (sym (pf.gives w) ∙ from_zero kiosks kb i h)
              ∙ mul_zero R (R.mul (c lane) (f j)))));
          seats = All-from_get_or (λ s. seat A size k Δ s ≡ replicate size 0) seats 0
              (λ i h.
              let s = code_at A L seats sb i in
              seat_is A L size k Δ Δb s
              ∙ zeros_counted size (λ p. (seat_element A L size k Δ Δb s p).0)
              (λ p l.
              ap (λ (d : Code A). d.0)
              (seat_shift t m k some c f g g_one s p l
              ∙ ap (R.mul (at_master t m k some c f g g_one p)) (sym (pg.gives s) ∙ ap (R.mul y) (from_zero seats sb i h) ∙ mul_zero R y)
              ∙ mul_zero R (at_master t m k some c f g g_one p))));
        },
        key_is A L t Δ Δb m u v
            ∙ sym
            (fill_by_all (λ lane. (key_element A L t Δ Δb u v lane).0) key m 0 count
            (λ lane h.
            ap (λ (d : Code A). d.0)
            (sym
            (key_shift t m k some c f g g_one u v lane h
            ∙ ap (λ w. R.mul (c lane) (R.mul w (value_at R (t + 1) f v))) (sym (pf.gives u))
            ∙ ap (λ w. R.mul (c lane) (R.mul (F u) w)) (sym (pf.gives v))
            ∙ ring R (code_at A L key key_codes lane ∷ z ∷ R.mul (F u) (F v) ∷ []) (var 0 ⊗ var 1 ⊗ var 2) (var 0 ⊗ (var 2 ⊗ var 1)) refl
            ∙ ap (R.mul (code_at A L key key_codes lane)) z_unit
            ∙ mul_one R (code_at A L key key_codes lane))))),
      )

  pub unseen_shift : UnseenShift A
  unseen_shift t m k pool u v key numbered few_kiosks few_seats nonzero u_below v_below u_apart v_apart key_codes count =
      unseen_shift_of t m k pool (u, u_below) (v, v_below) key numbered few_kiosks few_seats nonzero u_apart v_apart key_codes count
