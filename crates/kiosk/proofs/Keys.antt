-- The first places of the buffer after an accepted derivation hold the key.
use Rattle.std.proofs.Common.{◌≡◌, ℕ, List, ◌++◌, length, take, drop, Some, None, Option, sym, ap, ◌∙◌}
use Rattle.std.proofs.lemmas.List.{take_at}
use Rattle.field.specs.Arith.{Arith}
use Rattle.polynomial.proofs.Evaluation.{length_pair_key}
use Rattle.line.specs.declared.refusal.Refusal.{Refusal}
use Rattle.line.specs.KioskLine.{kiosk_head, kiosk_codes}
use Rattle.line.specs.Steps.{codes_in}
use Rattle.kiosk.specs.Derivation.{refusal, key_of, left_in}

pub key_part : (A : Arith) (text : List ℕ) (other : ℕ) (buffer after : List ℕ) (count : ℕ) → refusal A text other (length buffer) ≡ None → count ≡ (kiosk_head text).lanes → after ≡ left_in A text other buffer → take count after ≡ key_of A text other
key_part A text other buffer after count none count_is after_is =
    let head = kiosk_head text in
    let key = key_of A text other in
    let rest = drop head.lanes buffer in
    ap (take count) (after_is ∙ ap (λ (o : Option Refusal). elim o [ None ↦ key ++ rest | Some r ↦ buffer ]) none)
    ∙ take_at key rest count (length_pair_key A head.degree head.lanes (codes_in (kiosk_codes text)) other ∙ sym count_is)
