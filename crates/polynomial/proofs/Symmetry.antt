-- The key of two kiosks is the same from either share, and comes from the master alone.
use Rattle.std.proofs.Common.{◌+◌, ◌*◌, ◌/◌, ◌%◌, ◌++◌, sym, ap, ◌∙◌, arith}
use Rattle.std.proofs.lemmas.Nat.{div_below, mod_below}
use Rattle.std.proofs.lemmas.List.{get_or_append_left}
use Rattle.field.specs.Arith.{Arith, Laws, power}
use Rattle.field.proofs.Codes.{Code, codes}
use Rattle.polynomial.specs.Share.{share_code, share}
use Rattle.polynomial.specs.Table.{coefficient}
use Rattle.polynomial.specs.Theorems.{SymmetricKey, OfMaster}
use Rattle.polynomial.proofs.Carried.{counted_same, spot, spot_symmetric, spot_within, square, key_element, key_is}
use Rattle.polynomial.proofs.Evaluation.{code_at, sum_over_same}
use Rattle.polynomial.proofs.Sums.{symmetric}

pub symmetric_key : (A : Arith) (L : Laws A) → SymmetricKey A
symmetric_key A L t m master u v below u_below v_below =
    let first : Code A = (u, u_below) in
    let second : Code A = (v, v_below) in
    key_is A L t master below m first second
    ∙ counted_same m (λ lane. (key_element A L t master below first second lane).0) (λ lane. (key_element A L t master below second first lane).0)
    (λ lane h.
    ap (λ (c : Code A). c.0)
    (symmetric (codes A L) (t + 1) (square A L t master below lane) (λ i j. ap (code_at A L master below) (spot_symmetric t lane i j)) first second))
    ∙ sym (key_is A L t master below m second first)

pub of_master : (A : Arith) → OfMaster A
unfolding share share_code coefficient
of_master A t m master behind u size =
    counted_same (m * (t + 1)) (λ n. share_code A t (master ++ behind) u (n / (t + 1)) (n % (t + 1))) (λ n. share_code A t master u (n / (t + 1)) (n % (t + 1)))
    (λ n h.
    let lane = n / (t + 1) in
    let j = n % (t + 1) in
    sum_over_same A (t + 1) (λ i. A.product (coefficient t (master ++ behind) lane i j) (power A.product u i)) (λ i. A.product (coefficient t master lane i j) (power A.product u i))
    (λ i k.
    ap (λ c. A.product c (power A.product u i))
    (get_or_append_left master behind 0 (spot t lane i j) (omega (arith, size, spot_within t m lane i j (div_below n (t + 1) m (omega arith) h) k (mod_below n (t + 1) (omega arith)))))))
