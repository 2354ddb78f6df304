-- That a field has no root of z·z = d·z + e, by a test of every code.
use Rattle.std.proofs.Common.{◌≡◌, ℕ, true, false, eqb, refl}
use Rattle.std.proofs.lemmas.Bool.{eqb-false, agree_below, agree_below_at}
use Rattle.field.specs.Arith.{Arith}
use Rattle.field.specs.Bytes.{byte_arith, byte_product, carryless, remainder}
use Rattle.field.specs.Doubled.{Rootless}
use Rattle.field.specs.Residues.{residue_arith}

tested : (A : Arith) (d e : ℕ) → agree_below (λ z. eqb (A.product z z) (A.sum (A.product d z) e)) (λ z. false) A.order ≡ true → Rootless A d e
tested A d e passed z below = eqb-false _ _ (agree_below_at (λ z. eqb (A.product z z) (A.sum (A.product d z) e)) (λ z. false) A.order z passed below)

pub byte_rootless : Rootless byte_arith 1 0x20
unfolding byte_product carryless remainder
byte_rootless = tested byte_arith 1 0x20 refl

pub residue_rootless : Rootless residue_arith 0 3
residue_rootless = tested residue_arith 0 3 refl
