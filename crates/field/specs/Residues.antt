-- The field of residues modulo the prime 257.
use Rattle.std.specs.Prelude.{ℕ, ◌+◌, ◌-◌, ◌*◌, ◌%◌, cond, Some, None, ◌==◌}
use Rattle.field.specs.Arith.{Arith, power}

abbrev pub residue_product : ℕ → ℕ → ℕ
residue_product x y = (x * y) % 257

-- by Fermat's theorem the 255th power of a residue other than zero is its inverse
abbrev pub residue_arith : Arith
residue_arith = record {
  order = 257;
  mark = 2;
  sum = λ x y. (x + y) % 257;
  negative = λ x. (257 - x) % 257;
  product = residue_product;
  inverse = λ x. cond (x == 0) None (Some (power residue_product x 255));
}
