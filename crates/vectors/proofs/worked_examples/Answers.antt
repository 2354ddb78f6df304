use Rattle.std.proofs.Common.{refl}
use Rattle.field.specs.Arith.{power}
use Rattle.field.specs.Bytes.{byte_product, carryless, remainder}
use Rattle.polynomial.specs.Interpolation.{weight, weighted, restored}
use Rattle.polynomial.specs.PairKey.{pair_key}
use Rattle.polynomial.specs.Polynomial.{sum_over, product_over}
use Rattle.polynomial.specs.Seat.{seat_code, seat}
use Rattle.polynomial.specs.Share.{share_code, share}
use Rattle.polynomial.specs.Table.{coefficient}
use Rattle.vectors.proofs.worked_examples.Goals as goal

pub returns-clause-hold : goal.returns-clause-hold
unfolding power byte_product carryless remainder sum_over product_over pair_key coefficient share_code share seat_code seat weight weighted restored
returns-clause-hold c = refl
