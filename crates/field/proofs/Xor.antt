-- Exclusive or on numbers, and maps that respect it, which are known by what they do to the powers of two.
use Rattle.std.proofs.Common.{◌≡◌, ℕ, zero, suc, ◌-◌, ◌*◌, ◌/◌, ◌%◌, ◌^◌, ◌<◌, sym, ap, ◌∙◌, ⊎_elim, add-zero, one-mul, pow-suc, zero-mul, arith, pow_pos}
use lib.Bits.{bit_xor, xor_zero_l, xor_zero_r, xor_assoc, xor_comm, xor_self, xor_block, xor_shifted, xor_shr, xor_mod, xor_lt}
use Rattle.std.specs.Int.{bit_at}
use Rattle.std.proofs.lemmas.Bool.{cases_lt}

-- a map that takes exclusive or to exclusive or
abbrev pub Additive : (ℕ → ℕ) → Type 0
Additive f = (x y : ℕ) → f (bit_xor x y) ≡ bit_xor (f x) (f y)

-- What holds of zero and of the powers of two below 2^k, and of the exclusive or of any two numbers of which it holds, holds of every number below 2^k.
pub by_bits : (P : ℕ → Type 0) → P 0 → ((x y : ℕ) → P x → P y → P (bit_xor x y)) → (k : ℕ) → ((i : ℕ) → i < k → P (2 ^ i)) → (x : ℕ) → x < 2 ^ k → P x
by_bits P none both zero bits x h = let e : x ≡ 0 = omega arith in rw e none
by_bits P none both (suc k) bits x h =
    ⊎_elim
    (λ low. by_bits P none both k (λ i hi. bits i (omega arith)) x low)
    (λ high.
    let rest : x - 2 ^ k < 2 ^ k = omega (arith, pow-suc 2 k) in
    let whole : bit_xor (2 ^ k) (x - 2 ^ k) ≡ x = ap (λ n. bit_xor n (x - 2 ^ k)) (sym (one-mul (2 ^ k))) ∙ xor_shifted 1 k (x - 2 ^ k) rest ∙ omega arith in
    rw (← whole) (both (2 ^ k) (x - 2 ^ k) (bits k (omega arith)) (by_bits P none both k (λ i hi. bits i (omega arith)) (x - 2 ^ k) rest)))
    (cases_lt x (2 ^ k))

pub additive_zero : (f : ℕ → ℕ) → Additive f → f 0 ≡ 0
additive_zero f add = add 0 0 ∙ xor_self (f 0)

-- two additive maps that agree at the powers of two agree
pub agree : (f g : ℕ → ℕ) → Additive f → Additive g → (k : ℕ) → ((i : ℕ) → i < k → f (2 ^ i) ≡ g (2 ^ i)) → (x : ℕ) → x < 2 ^ k → f x ≡ g x
agree f g f_add g_add =
    by_bits (λ x. f x ≡ g x) (additive_zero f f_add ∙ sym (additive_zero g g_add))
    (λ x y p q. f_add x y ∙ ap (λ n. bit_xor n (f y)) p ∙ ap (bit_xor (g x)) q ∙ sym (g_add x y))

-- an additive map is bounded as it is at the powers of two
pub additive_below : (f : ℕ → ℕ) → Additive f → (m k : ℕ) → ((i : ℕ) → i < k → f (2 ^ i) < 2 ^ m) → (x : ℕ) → x < 2 ^ k → f x < 2 ^ m
additive_below f add m =
    by_bits (λ x. f x < 2 ^ m) (rw (additive_zero f add) (pow_pos m)) (λ x y p q. rw (add x y) (xor_lt m (f x) (f y) p q))

pub xor_swap : (a b c d : ℕ) → bit_xor (bit_xor a b) (bit_xor c d) ≡ bit_xor (bit_xor a c) (bit_xor b d)
xor_swap a b c d =
    xor_assoc a b (bit_xor c d)
    ∙ ap (bit_xor a) (sym (xor_assoc b c d) ∙ ap (λ n. bit_xor n d) (xor_comm b c) ∙ xor_assoc c b d)
    ∙ sym (xor_assoc a c (bit_xor b d))

pub bit_additive : (n : ℕ) → Additive (λ x. bit_at x n)
bit_additive n x y = ap (λ m. m % 2) (xor_shr x y n) ∙ xor_mod (x / 2 ^ n) (y / 2 ^ n) 1

pub shift_additive : (n : ℕ) → Additive (λ x. x * 2 ^ n)
shift_additive n x y = sym (simp add-zero at (xor_block n x y 0 0 (pow_pos n) (pow_pos n)))

-- a product with a number below two is additive in each factor
pub bit_times : (p : ℕ) → p < 2 → Additive (λ x. p * x)
bit_times zero h x y = simp (zero-mul)
bit_times (suc zero) h x y = simp (one-mul)
bit_times (suc (suc p)) h x y = absurd (omega arith)

pub times_bits : (c p q : ℕ) → p < 2 → q < 2 → bit_xor p q * c ≡ bit_xor (p * c) (q * c)
times_bits c zero zero hp hq = simp (zero-mul, xor_self)
times_bits c zero (suc zero) hp hq = simp (zero-mul, one-mul, xor_zero_l)
times_bits c (suc zero) zero hp hq = simp (zero-mul, one-mul, xor_zero_r)
times_bits c (suc zero) (suc zero) hp hq = simp (zero-mul, one-mul, xor_self)
times_bits c (suc (suc p)) q hp hq = absurd (omega arith)
times_bits c zero (suc (suc q)) hp hq = absurd (omega arith)
times_bits c (suc zero) (suc (suc q)) hp hq = absurd (omega arith)
