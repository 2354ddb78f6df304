-- Laws of checks that are made in turn: what the first fault of all says of each check, and back.
use Rattle.std.proofs.Common.{◌≡◌, ℕ, zero, suc, ◌+◌, ◌<◌, ◌≤◌, ◌⊎◌, List, [], ◌∷◌, map, get_or, take, Some, None, Ok, Err, Option, sym, refl, ◌∙◌, subst, inl, inr, arith, MatchOption}
use Rattle.std.specs.List.{range_with_len, AllByRecursion}
use Rattle.std.specs.Option.{option_map}
use Rattle.std.proofs.lemmas.List.FromFn.{get_or-map-range_with_len, length-map-range_with_len, take-map-range_with_len}
use Rattle.std.proofs.ByRecursion.{All-from_get_or, All-get_or}
use Rattle.line.specs.Faults.{first, unless}

pub either : {X : Type 0} (o : Option X) → ((x : X) × (o ≡ Some x)) ⊎ (o ≡ None)
either None = inr refl
either (Some x) = inl (x, refl)

-- behind checks that find no fault, the next decides
pub first_at : {X : Type 0} (checks : List (Option X)) (k : ℕ) (x : X) → AllByRecursion (λ c. c ≡ None) (take k checks) → get_or checks k None ≡ Some x → first checks ≡ Some x
first_at [] k x none e = e
first_at (c ∷ checks) zero x none e = rw e
first_at (c ∷ checks) (suc k) x none e = rw none.0 (first_at checks k x none.1 e)

-- where no check finds a fault, none is found
pub first_all : {X : Type 0} (checks : List (Option X)) → AllByRecursion (λ c. c ≡ None) checks → first checks ≡ None
first_all [] none = refl
first_all (c ∷ checks) none = rw none.0 (first_all checks none.1)

-- where no fault is found, no check finds one
pub all_none : {X : Type 0} (checks : List (Option X)) → first checks ≡ None → AllByRecursion (λ c. c ≡ None) checks
all_none [] e = tt
all_none (None ∷ checks) e = (refl, all_none checks e)
all_none (Some x ∷ checks) e = cc

-- Checks by a count
module _ {X : Type 0} (f : ℕ → Option X) (n : ℕ) where
  abbrev counted : List (Option X)
  counted = map f (range_with_len 0 n)

  counted_at : (k : ℕ) → k < n → get_or counted k None ≡ f k
  counted_at k l = get_or-map-range_with_len f 0 n k k None l (omega arith)

  pub counted_none : ((k : ℕ) → k < n → f k ≡ None) → first counted ≡ None
  counted_none h =
      first_all counted
      (All-from_get_or (λ c. c ≡ None) counted None
      (λ k l. let within : k < n = omega (arith, length-map-range_with_len f 0 n) in counted_at k within ∙ h k within))

  pub counted_each : first counted ≡ None → (k : ℕ) → k < n → f k ≡ None
  counted_each e k l =
      sym (counted_at k l) ∙ All-get_or (λ c. c ≡ None) counted k None (omega (arith, length-map-range_with_len f 0 n)) (all_none counted e)

-- the first fault of counted checks
pub counted_some : {X : Type 0} (f : ℕ → Option X) (n i : ℕ) (x : X) → i < n → ((k : ℕ) → k < i → f k ≡ None) → f i ≡ Some x → first (map f (range_with_len 0 n)) ≡ Some x
counted_some f n i x l h e =
    let few : i ≤ n = omega arith in
    first_at (map f (range_with_len 0 n)) i x
    (subst (AllByRecursion (λ c. c ≡ None)) (sym (take-map-range_with_len f 0 n i few)) (all_none (map f (range_with_len 0 i)) (counted_none f i h)))
    (counted_at f n i l ∙ e)

pub first_one : {X : Type 0} (o : Option X) → first (o ∷ []) ≡ o
first_one None = refl
first_one (Some x) = refl

-- what holds where a check finds no fault, and what of the fault that it finds
pub record Passes {X : Type 0} (P : Type 0) (R : X → Type 0) (check : Option X) : Type 0 where
  pub by : MatchOption check P R

-- It goes from check to check.

pub passes : {X : Type 0} {P Q : Type 0} {R : X → Type 0} (c : Option X) (checks : List (Option X)) → Passes P R c → (P → Passes Q R (first checks)) → Passes Q R (first (c ∷ checks))
passes None checks here behind = behind here.by
passes (Some x) checks here behind = record { by = here.by }

pub passes_last : {X : Type 0} {P : Type 0} {R : X → Type 0} (c : Option X) → Passes P R c → Passes P R (first (c ∷ []))
passes_last c here = passes c [] here (λ p. record { by = p })

pub passes_mapped : {X Y : Type 0} {P : Type 0} (R : Y → Type 0) (f : X → Y) (c : Option X) → Passes P (λ x. R (f x)) c → Passes P R (option_map f c)
passes_mapped R f None here = record { by = here.by }
passes_mapped R f (Some x) here = record { by = here.by }

module _ {X : Type 0} (P : ℕ → Type 0) (R : X → Type 0) (f : ℕ → Option X) (n : ℕ) (each : (k : ℕ) → k < n → P k → Passes (P (k + 1)) R (f k)) where
  passes_from : (m a : ℕ) → a + m ≡ n → P a → Passes (P n) R (first (map f (range_with_len a m)))
  passes_from zero a e p = let same : a ≡ n = omega arith in record { by = subst P same p }
  passes_from (suc m) a e p = passes (f a) (map f (range_with_len (a + 1) m)) (each a (omega arith) p) (passes_from m (a + 1) (omega arith))

  pub passes_counted : P 0 → Passes (P n) R (first (map f (range_with_len 0 n)))
  passes_counted = passes_from n 0 (omega arith)

-- What an answer says of the fault

pub no_fault : {X F : Type 0} (o : Option F) (x y : X) → Ok y ≡ unless o x → o ≡ None
no_fault None x y e = refl
no_fault (Some fault) x y e = cc

pub was_read : {X F : Type 0} (o : Option F) (x y : X) → Ok y ≡ unless o x → y ≡ x
was_read None x y e = cc
was_read (Some fault) x y e = cc

pub the_fault : {X F : Type 0} (o : Option F) (x : X) (fault : F) → Err fault ≡ unless o x → o ≡ Some fault
the_fault None x fault e = cc
the_fault (Some found) x fault e = cc

pub ruleset answered = (no_fault, was_read, the_fault)
