use Rattle.tl_geom.proofs.Fitting.{whole_product_fits, whole_product}
use Rattle.tl_geom.proofs.round.product.Goals as goal

pub overflow_mul-result : goal.overflow_mul-result
overflow_mul-result c = whole_product_fits c.args.a c.args.b c.from.result c.from-2.result c.ranges.a c.ranges.b c.from.ensures c.from-2.ensures

pub returns : goal.returns
returns c = whole_product c.args.a c.args.b c.from.result c.from-2.result c.ranges.a c.ranges.b c.from.ensures c.from-2.ensures
