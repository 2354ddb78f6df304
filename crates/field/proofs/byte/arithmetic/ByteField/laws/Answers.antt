use Rattle.field.proofs.Bytes.{byte_laws, byte_coding}
use Rattle.field.proofs.byte.arithmetic.ByteField.laws.Goals as goal

pub returns : goal.returns
returns c = record { arithmetic = byte_laws; coding = byte_coding }
