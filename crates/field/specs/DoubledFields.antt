-- The doubled fields that there are.
use Rattle.field.specs.Arith.{Arith}
use Rattle.field.specs.Bytes.{byte_arith}
use Rattle.field.specs.Doubled.{doubled}
use Rattle.field.specs.Residues.{residue_arith}

abbrev pub doubled_bytes : Arith
doubled_bytes = doubled byte_arith 1 0x20

abbrev pub doubled_residues : Arith
doubled_residues = doubled residue_arith 0 3
