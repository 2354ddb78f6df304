-- Adding a draw adds what it gives to kiosks and seats, code by code.
use Rattle.std.proofs.Common.{◌≡◌, ℕ, ◌+◌, ◌*◌, ◌/◌, ◌%◌, ◌<◌, List, map, length, get_or, replicate, sym, ap, ◌∙◌, ⊎_elim, arith}
use Rattle.std.specs.List.{range_with_len}
use Rattle.std.proofs.lemmas.List.FromFn.{length-map-range_with_len}
use Rattle.std.proofs.ByRecursion.{All-map, All-weaker}
use Rattle.std.proofs.lemmas.List.{ext_get_or, get_or-map, length-map, get_or_past, get_or-replicate}
use Rattle.std.proofs.lemmas.Bool.{cases_lt}
use Rattle.field.specs.Arith.{Arith, Laws}
use Rattle.field.proofs.Codes.{Code, codes, same_code}
use Rattle.field.proofs.Ring.{Ring, add_zero}
use Rattle.polynomial.specs.Adding.{plus, negated}
use Rattle.polynomial.specs.Polynomial.{Codes}
use Rattle.polynomial.specs.Seat.{seat}
use Rattle.polynomial.specs.Share.{share, master_key}
use Rattle.polynomial.specs.Table.{master_size}
use Rattle.polynomial.specs.Theorems.{Adding}
use Rattle.polynomial.proofs.Carried.{counted_same, counted_at, counted_codes, spot, share_element, share_by, share_is, key_element, key_is, seat_element, seat_is}
use Rattle.polynomial.proofs.Evaluation.{code_at, code_below}
use Rattle.polynomial.proofs.Sums.{value_same, value_add}

module _ (A : Arith) (L : Laws A) where
  abbrev R : Ring (Code A)
  R = codes A L

  pub length_plus : (xs ys : List ℕ) → length (plus A xs ys) ≡ length xs
  unfolding plus
  length_plus xs ys = length-map-range_with_len (λ n. A.sum (get_or xs n 0) (get_or ys n 0)) 0 (length xs)

  pub plus_codes : (xs ys : List ℕ) → Codes A xs → Codes A ys → Codes A (plus A xs ys)
  unfolding plus
  plus_codes xs ys b₁ b₂ = counted_codes A L (length xs) (λ n. R.add (code_at A L xs b₁ n) (code_at A L ys b₂ n))

  pub negated_codes : (xs : List ℕ) → Codes A xs → Codes A (negated A xs)
  unfolding negated
  negated_codes xs below = All-map (λ c. c < A.order) A.negative xs (All-weaker (λ c. c < A.order) (λ c. A.negative c < A.order) L.negative_below xs below)

  pub length_negated : (xs : List ℕ) → length (negated A xs) ≡ length xs
  unfolding negated
  length_negated xs = length-map xs A.negative

  -- sums of lists that are made from functions of the index
  plus_counted : (n : ℕ) (f g : ℕ → ℕ) → plus A (map f (range_with_len 0 n)) (map g (range_with_len 0 n)) ≡ map (λ i. A.sum (f i) (g i)) (range_with_len 0 n)
  unfolding plus
  plus_counted n f g =
      let xs = map f (range_with_len 0 n) in
      let ys = map g (range_with_len 0 n) in
      ap (λ k. map (λ i. A.sum (get_or xs i 0) (get_or ys i 0)) (range_with_len 0 k)) (length-map-range_with_len f 0 n)
      ∙ counted_same n (λ i. A.sum (get_or xs i 0) (get_or ys i 0)) (λ i. A.sum (f i) (g i))
      (λ i h. ap (λ c. A.sum c (get_or ys i 0)) (counted_at n f i h) ∙ ap (A.sum (f i)) (counted_at n g i h))

  -- at every place, also past the end, where all are zero
  plus_at : (xs ys : List ℕ) (b₁ : Codes A xs) (b₂ : Codes A ys) → length xs ≡ length ys → (n : ℕ) →
      code_at A L (plus A xs ys) (plus_codes xs ys b₁ b₂) n ≡ R.add (code_at A L xs b₁ n) (code_at A L ys b₂ n)
  unfolding plus
  plus_at xs ys b₁ b₂ same n =
      same_code A _ _
      (⊎_elim (counted_at (length xs) (λ k. A.sum (get_or xs k 0) (get_or ys k 0)) n)
      (λ past.
      get_or_past (plus A xs ys) n 0 (omega (arith, length_plus xs ys))
      ∙ sym
      (ap (λ c. A.sum c (get_or ys n 0)) (get_or_past xs n 0 past)
      ∙ ap (A.sum 0) (get_or_past ys n 0 (omega arith))
      ∙ L.sum_zero 0 (omega (arith, L.order_least))))
      (cases_lt n (length xs)))

  pub plus_comm : (xs ys : List ℕ) → Codes A xs → Codes A ys → length xs ≡ length ys → plus A xs ys ≡ plus A ys xs
  plus_comm xs ys b₁ b₂ same =
      ext_get_or 0 (plus A xs ys) (plus A ys xs) (length_plus xs ys ∙ same ∙ sym (length_plus ys xs))
      (λ n h.
      ap (λ (c : Code A). c.0)
      (plus_at xs ys b₁ b₂ same n ∙ R.add_comm (code_at A L xs b₁ n) (code_at A L ys b₂ n) ∙ sym (plus_at ys xs b₂ b₁ (sym same) n)))

  -- what is added can be taken away again, if the two sum up to zeros
  taken_away : (xs ys zs : List ℕ) → Codes A xs → Codes A ys → Codes A zs → length ys ≡ length xs → length zs ≡ length xs →
      ((n : ℕ) → n < length xs → A.sum (get_or ys n 0) (get_or zs n 0) ≡ 0) → plus A (plus A xs ys) zs ≡ xs
  taken_away xs ys zs b₁ b₂ b₃ same₂ same₃ zeros =
      let long = length_plus xs ys in
      let long₂ = length_plus (plus A xs ys) zs in
      ext_get_or 0 (plus A (plus A xs ys) zs) xs (long₂ ∙ long)
      (λ n h.
      let inside : n < length xs = omega arith in
      let x = code_at A L xs b₁ n in
      let y = code_at A L ys b₂ n in
      let z = code_at A L zs b₃ n in
      ap (λ (c : Code A). c.0)
      (plus_at (plus A xs ys) zs (plus_codes xs ys b₁ b₂) b₃ (omega arith) n
      ∙ ap (λ w. R.add w z) (plus_at xs ys b₁ b₂ (omega arith) n)
      ∙ R.add_assoc x y z
      ∙ ap (R.add x) (same_code A (R.add y z) R.zero (zeros n inside))
      ∙ add_zero R x))

  negated_at : (xs : List ℕ) (n : ℕ) → n < length xs → get_or (negated A xs) n 0 ≡ A.negative (get_or xs n 0)
  unfolding negated
  negated_at xs n h = get_or-map A.negative xs n 0 0 h

  pub plus_negated : (xs ys : List ℕ) → Codes A xs → Codes A ys → length ys ≡ length xs → plus A (plus A xs ys) (negated A ys) ≡ xs
  plus_negated xs ys b₁ b₂ same =
      taken_away xs ys (negated A ys) b₁ b₂ (negated_codes ys b₂) same (length_negated ys ∙ same)
      (λ n h. ap (A.sum (get_or ys n 0)) (negated_at ys n (omega arith)) ∙ L.sum_negative (get_or ys n 0) (code_below A L ys b₂ n))

  pub negated_plus : (xs ys : List ℕ) → Codes A xs → Codes A ys → length ys ≡ length xs → plus A (plus A xs (negated A ys)) ys ≡ xs
  negated_plus xs ys b₁ b₂ same =
      let y_below = code_below A L ys b₂ in
      taken_away xs (negated A ys) ys b₁ (negated_codes ys b₂) b₂ (length_negated ys ∙ same) same
      (λ n h.
      ap (λ c. A.sum c (get_or ys n 0)) (negated_at ys n (omega arith))
      ∙ L.sum_comm (A.negative (get_or ys n 0)) (get_or ys n 0) (L.negative_below (get_or ys n 0) (y_below n)) (y_below n)
      ∙ L.sum_negative (get_or ys n 0) (y_below n))

  -- zeros change nothing
  pub plus_zeros : (xs : List ℕ) (n : ℕ) → Codes A xs → length xs ≡ n → plus A xs (replicate n 0) ≡ xs
  unfolding plus
  plus_zeros xs n below long =
      ext_get_or 0 (plus A xs (replicate n 0)) xs (length_plus xs (replicate n 0))
      (λ i h.
      let inside : i < length xs = omega (arith, length_plus xs (replicate n 0)) in
      counted_at (length xs) (λ k. A.sum (get_or xs k 0) (get_or (replicate n 0) k 0)) i inside
      ∙ ap (A.sum (get_or xs i 0)) (get_or-replicate n i 0 0 (omega arith))
      ∙ ap (λ (c : Code A). c.0) (add_zero R (code_at A L xs below i)))

  module _ (first second : List ℕ) (b₁ : Codes A first) (b₂ : Codes A second) (same : length first ≡ length second) where
    abbrev both : Codes A (plus A first second)
    both = plus_codes first second b₁ b₂

    module _ (t : ℕ) where
      share_added : (u : Code A) (lane j : ℕ) →
          share_element A L t (plus A first second) both u lane j ≡ R.add (share_element A L t first b₁ u lane j) (share_element A L t second b₂ u lane j)
      share_added u lane j =
          value_same R (t + 1) (λ i. code_at A L (plus A first second) both (spot t lane i j)) (λ i. R.add (code_at A L first b₁ (spot t lane i j)) (code_at A L second b₂ (spot t lane i j))) u
          (λ i h. plus_at first second b₁ b₂ same (spot t lane i j))
          ∙ value_add R (t + 1) (λ i. code_at A L first b₁ (spot t lane i j)) (λ i. code_at A L second b₂ (spot t lane i j)) u

      key_added : (u v : Code A) (lane : ℕ) →
          key_element A L t (plus A first second) both u v lane ≡ R.add (key_element A L t first b₁ u v lane) (key_element A L t second b₂ u v lane)
      key_added u v lane =
          value_same R (t + 1) (share_element A L t (plus A first second) both u lane) (λ j. R.add (share_element A L t first b₁ u lane j) (share_element A L t second b₂ u lane j)) v
          (λ j h. share_added u lane j)
          ∙ value_add R (t + 1) (share_element A L t first b₁ u lane) (share_element A L t second b₂ u lane) v

    -- lists made from elements that add up
    lists_added : (n : ℕ) (f g h : ℕ → Code A) (xs ys zs : List ℕ) → xs ≡ map (λ i. (f i).0) (range_with_len 0 n) → ys ≡ map (λ i. (g i).0) (range_with_len 0 n) → zs ≡ map (λ i. (h i).0) (range_with_len 0 n) →
        ((i : ℕ) → f i ≡ R.add (g i) (h i)) → xs ≡ plus A ys zs
    lists_added n f g h xs ys zs e₁ e₂ e₃ sums_are =
        e₁
        ∙ counted_same n (λ i. (f i).0) (λ i. A.sum (g i).0 (h i).0) (λ i k. ap (λ (c : Code A). c.0) (sums_are i))
        ∙ sym (plus_counted n (λ i. (g i).0) (λ i. (h i).0))
        ∙ ap (λ us. plus A us (map (λ i. (h i).0) (range_with_len 0 n))) (sym e₂)
        ∙ ap (plus A ys) (sym e₃)

  pub adding : Adding A
  adding t m k first second d₁ d₂ =
      let b₁ = d₁.codes in
      let b₂ = d₂.codes in
      let same : length first ≡ length second = d₁.size ∙ sym d₂.size in
      let sum = plus A first second in
      let b = plus_codes first second b₁ b₂ in
      let size = master_size t m in
      record {
        draw = record { size = length_plus first second ∙ d₁.size; codes = b };
        opposite = record { size = length_negated second ∙ d₂.size; codes = negated_codes second b₂ };
        shares = λ u h.
            let x : Code A = (u, h) in
            lists_added first second b₁ b₂ same (m * (t + 1)) (share_by A L t sum b x) (share_by A L t first b₁ x) (share_by A L t second b₂ x) (share A t m sum u) (share A t m first u) (share A t m second u)
            (share_is A L t sum b m x) (share_is A L t first b₁ m x) (share_is A L t second b₂ m x)
            (λ n. share_added first second b₁ b₂ same t x (n / (t + 1)) (n % (t + 1)));
        keys = λ u v h h'.
            let x : Code A = (u, h) in
            let y : Code A = (v, h') in
            lists_added first second b₁ b₂ same m (key_element A L t sum b x y) (key_element A L t first b₁ x y) (key_element A L t second b₂ x y) (master_key A t m sum u v) (master_key A t m first u v) (master_key A t m second u v)
            (key_is A L t sum b m x y) (key_is A L t first b₁ m x y) (key_is A L t second b₂ m x y)
            (key_added first second b₁ b₂ same t x y);
        seats = λ s h.
            let x : Code A = (s, h) in
            lists_added first second b₁ b₂ same size (seat_element A L size k sum b x) (seat_element A L size k first b₁ x) (seat_element A L size k second b₂ x) (seat A size k sum s) (seat A size k first s) (seat A size k second s)
            (seat_is A L size k sum b x) (seat_is A L size k first b₁ x) (seat_is A L size k second b₂ x)
            (λ p.
            value_same R k (λ e. code_at A L sum b (e * size + p)) (λ e. R.add (code_at A L first b₁ (e * size + p)) (code_at A L second b₂ (e * size + p))) x (λ e l. plus_at first second b₁ b₂ same (e * size + p))
            ∙ value_add R k (λ e. code_at A L first b₁ (e * size + p)) (λ e. code_at A L second b₂ (e * size + p)) x);
        undone = plus_negated first second b₁ b₂ (sym same);
        redone = negated_plus first second b₁ b₂ (sym same);
      }
