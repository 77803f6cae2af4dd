use Rattle.tl_geom.proofs.Fitting.{product_fits, product_value, product_below}
use Rattle.tl_geom.proofs.difference.product.Goals as goal

pub overflow_mul-result : goal.overflow_mul-result
overflow_mul-result c = product_fits c.args.a c.args.b c.from.result c.from-2.result c.requires.first c.requires.second c.from.ensures c.from-2.ensures

pub returns-clause-value : goal.returns-clause-value
returns-clause-value c = product_value c.args.a c.args.b c.from.result c.from-2.result c.requires.first c.requires.second c.from.ensures c.from-2.ensures

pub returns-clause-bound : goal.returns-clause-bound
returns-clause-bound c = product_below c.args.a c.args.b c.from.result c.from-2.result c.requires.first c.requires.second c.from.ensures c.from-2.ensures
