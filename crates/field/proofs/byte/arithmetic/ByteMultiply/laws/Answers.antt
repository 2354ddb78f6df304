use Rattle.field.proofs.Bytes.{byte_monoid}
use Rattle.field.proofs.byte.arithmetic.ByteMultiply.laws.Goals as goal

pub returns-clause-monoid : goal.returns-clause-monoid
returns-clause-monoid c = byte_monoid
