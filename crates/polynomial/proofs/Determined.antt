-- What shares and seat codes determine: a polynomial with too many zeros vanishes, so two masters or draws that agree often enough are one.
use Rattle.std.proofs.Common.{◌≡◌, ℕ, ◌+◌, ◌*◌, ◌/◌, ◌%◌, ◌<◌, max, List, length, get_or, sym, ap, ◌∙◌, arith}
use native.Mathlib.Nat.{min-eq_left, max-eq_right}
use Rattle.std.specs.List.{AllByRecursion}
use Rattle.std.proofs.lemmas.Nat.{div-add-mod', div_below, mod_below}
use Rattle.std.proofs.ByRecursion.{All-get_or, All-from_get_or}
use Rattle.std.proofs.lemmas.List.{ext_get_or}
use Rattle.field.specs.Arith.{Arith, Laws}
use Rattle.field.proofs.Codes.{Code, codes_field, same_code}
use Rattle.polynomial.specs.Polynomial.{evaluation, Codes, Different}
use Rattle.polynomial.specs.Seat.{seat}
use Rattle.polynomial.specs.Share.{share}
use Rattle.polynomial.specs.Table.{lane_size, place, master_size, Master}
use Rattle.polynomial.specs.Theorems.{Vanishing, Determines}
use Rattle.polynomial.proofs.Carried.{counted_apart, some_width, spot, evaluation_is, square, share_at, seat_element, seat_is}
use Rattle.polynomial.proofs.Evaluation.{code_at}
use Rattle.polynomial.proofs.Places.{row_of, column_of, row_before_column, column_most, place_of_row}
use Rattle.polynomial.proofs.Roots.{Apart, vanishing, same_coefficients}

-- every place of a master is that of some coefficient
pub spot_of : (t m n : ℕ) → n < master_size t m → spot t (n / lane_size t) (row_of t (n % lane_size t)) (column_of t (n % lane_size t)) ≡ n
spot_of t m n h =
    let T = lane_size t in
    let p = n % T in
    let some : 0 < T = omega arith in
    let inside : p < T = mod_below n T some in
    let rising = row_before_column t p in
    ap (λ i. n / T * T + place t i (max (row_of t p) (column_of t p))) (min-eq_left rising)
    ∙ ap (λ j. n / T * T + place t (row_of t p) j) (max-eq_right rising)
    ∙ ap (λ q. n / T * T + q) (place_of_row t p inside)
    ∙ div-add-mod' n T

module _ (A : Arith) (L : Laws A) where
  -- different codes are different elements
  pub apart : (points : List ℕ) (below : Codes A points) → Different points → Apart (length points) (code_at A L points below)
  apart points below different i j h k e = different i j h k (ap (λ (c : Code A). c.0) e)

  pub polynomial_vanishes : Vanishing A
  polynomial_vanishes coefficients points below points_below different count zeros =
      All-from_get_or (λ c. c ≡ 0) coefficients 0
      (λ j h.
      ap (λ (c : Code A). c.0)
      (vanishing (codes_field A L) (length coefficients) (code_at A L coefficients below) (code_at A L points points_below)
      (λ i l k n. apart points points_below different i l (omega arith) (omega arith))
      (λ i k.
      same_code A _ _
      (sym (evaluation_is A L coefficients below (code_at A L points points_below i))
      ∙ All-get_or (λ x. evaluation A coefficients x ≡ 0) points i 0 (omega arith) zeros))
      j h))

  -- where the shares of t + 1 different kiosks are the same, so is every coefficient
  same_square : (t m : ℕ) (kiosks first second : List ℕ) (b₁ : Codes A first) (b₂ : Codes A second) → Different kiosks → Codes A kiosks → length kiosks ≡ t + 1 →
      AllByRecursion (λ u. share A t m first u ≡ share A t m second u) kiosks → (lane i j : ℕ) → lane < m → i < t + 1 → j < t + 1 → square A L t first b₁ lane i j ≡ square A L t second b₂ lane i j
  same_square t m kiosks first second b₁ b₂ different below count same lane i j in_lanes h k =
      same_coefficients (codes_field A L) (t + 1) (λ n. square A L t first b₁ lane n j) (λ n. square A L t second b₂ lane n j) (code_at A L kiosks below)
      (λ n l a b. apart kiosks below different n l (omega arith) (omega arith))
      (λ n l.
      let u = code_at A L kiosks below n in
      same_code A _ _
      (sym (share_at A L t first b₁ m u lane j in_lanes k)
      ∙ ap (λ xs. get_or xs (lane * (t + 1) + j) 0) (All-get_or (λ u. share A t m first u ≡ share A t m second u) kiosks n 0 (omega arith) same)
      ∙ share_at A L t second b₂ m u lane j in_lanes k))
      i h

  one_master : (t m : ℕ) (kiosks first second : List ℕ) → Master A t m first → Master A t m second → Different kiosks → Codes A kiosks → length kiosks ≡ t + 1 →
      AllByRecursion (λ u. share A t m first u ≡ share A t m second u) kiosks → first ≡ second
  one_master t m kiosks first second m₁ m₂ different below count same =
      ext_get_or 0 first second (m₁.size ∙ sym m₂.size)
      (λ n h.
      let inside : n < master_size t m = omega (arith, m₁.size) in
      let T = lane_size t in
      let some : 0 < T = omega arith in
      let p = n % T in
      let last = column_most t p (mod_below n T some) in
      ap (λ k. get_or first k 0) (sym (spot_of t m n inside))
      ∙ ap (λ (c : Code A). c.0)
      (same_square t m kiosks first second m₁.codes m₂.codes different below count same (n / T) (row_of t p) (column_of t p)
      (div_below n T m some inside)
      (omega (arith, row_before_column t p))
      (omega arith))
      ∙ ap (λ k. get_or second k 0) (spot_of t m n inside))

  one_draw : (size k : ℕ) (seats first second : List ℕ) → length first ≡ k * size → length second ≡ k * size → Codes A first → Codes A second → Different seats → Codes A seats → length seats ≡ k →
      AllByRecursion (λ s. seat A size k first s ≡ seat A size k second s) seats → first ≡ second
  one_draw size k seats first second size₁ size₂ b₁ b₂ different below count same =
      ext_get_or 0 first second (size₁ ∙ sym size₂)
      (λ n h.
      let inside : n < k * size = omega (arith, size₁) in
      let some : 0 < size = some_width k size n inside in
      let p = n % size in
      ap (λ q. get_or first q 0) (sym (div-add-mod' n size))
      ∙ ap (λ (c : Code A). c.0)
      (same_coefficients (codes_field A L) k (λ e. code_at A L first b₁ (e * size + p)) (λ e. code_at A L second b₂ (e * size + p)) (code_at A L seats below)
      (λ i j a b. apart seats below different i j (omega arith) (omega arith))
      (λ i a.
      let s = code_at A L seats below i in
      same_code A _ _
      (counted_apart size (λ q. (seat_element A L size k first b₁ s q).0) (λ q. (seat_element A L size k second b₂ s q).0)
      (sym (seat_is A L size k first b₁ s) ∙ All-get_or (λ s. seat A size k first s ≡ seat A size k second s) seats i 0 (omega arith) same ∙ seat_is A L size k second b₂ s)
      p (mod_below n size some)))
      (n / size) (div_below n size k some inside))
      ∙ ap (λ q. get_or second q 0) (div-add-mod' n size))

  pub determines : Determines A
  determines = record {
    master = one_master;
    draw = λ t m k seats first second d₁ d₂. one_draw (master_size t m) k seats first second d₁.size d₂.size d₁.codes d₂.codes;
  }
