use Rattle.field.proofs.Residues.{residue_laws, residue_coding}
use Rattle.field.proofs.residue.arithmetic.ResidueField.laws.Goals as goal

pub returns : goal.returns
returns c = record { arithmetic = residue_laws; coding = residue_coding }
