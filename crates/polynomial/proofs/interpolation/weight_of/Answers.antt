use Rattle.std.proofs.Common.{rules}
use Rattle.polynomial.specs.Interpolation.{weight}
use Rattle.polynomial.specs.Polynomial.{product_over}
use Rattle.polynomial.proofs.Reading.{codes_more, all_codes}
use Rattle.polynomial.proofs.interpolation.weight_of.Goals as goal

pub loop-point-init : goal.loop-point-init
unfolding product_over
loop-point-init g c = (c.one-product.ensures, tt)

pub loop-point-preserved : goal.loop-point-preserved
unfolding product_over
loop-point-preserved g c = search (rules, codes_more)

pub returns : goal.returns
unfolding weight
returns g c = search (rules, all_codes)
