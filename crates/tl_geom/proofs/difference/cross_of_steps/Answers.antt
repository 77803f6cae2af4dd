use Rattle.std.proofs.Common.{lit≤, ◌^◌, rules}
use Rattle.tl_geom.proofs.Fitting.{bound64, bound128, step_found, product_found, cross_found}
use Rattle.tl_geom.proofs.difference.cross_of_steps.Goals as goal

pub product-requires-clause-first : goal.product-requires-clause-first
product-requires-clause-first c = bound64 c.difference-ux.result c.difference-ux.ensures.bound

pub product-requires-clause-second : goal.product-requires-clause-second
product-requires-clause-second c = bound64 c.difference-vy.result c.difference-vy.ensures.bound

pub product-requires-2-clause-first : goal.product-requires-2-clause-first
product-requires-2-clause-first c = bound64 c.difference-uy.result c.difference-uy.ensures.bound

pub product-requires-2-clause-second : goal.product-requires-2-clause-second
product-requires-2-clause-second c = bound64 c.difference-vx.result c.difference-vx.ensures.bound

pub spread-requires-clause-first : goal.spread-requires-clause-first
spread-requires-clause-first c = bound128 (2 ^ 64) c.product.result (lit≤ tt) c.product.ensures.bound

pub spread-requires-clause-second : goal.spread-requires-clause-second
spread-requires-clause-second c = bound128 (2 ^ 64) c.product-2.result (lit≤ tt) c.product-2.ensures.bound

pub returns-clause-value : goal.returns-clause-value
returns-clause-value c =
    cross_found c.args.a c.args.b c.args.p c.args.q c.difference-ux.result c.difference-uy.result c.difference-vx.result c.difference-vy.result c.product.result c.product-2.result c.spread.result
    (step_found c.args.a.x c.args.b.x _ (search rules) (search rules) c.difference-ux.ensures.value)
    (step_found c.args.a.y c.args.b.y _ (search rules) (search rules) c.difference-uy.ensures.value)
    (step_found c.args.p.x c.args.q.x _ (search rules) (search rules) c.difference-vx.ensures.value)
    (step_found c.args.p.y c.args.q.y _ (search rules) (search rules) c.difference-vy.ensures.value)
    (product_found c.difference-ux.result c.difference-vy.result c.product.result c.difference-ux.ensures.bound c.difference-vy.ensures.bound c.product.ensures.value)
    (product_found c.difference-uy.result c.difference-vx.result c.product-2.result c.difference-uy.ensures.bound c.difference-vx.ensures.bound c.product-2.ensures.value)
    c.product.ensures.bound c.product-2.ensures.bound c.spread.ensures.bound c.spread.ensures.value

pub returns-clause-bound : goal.returns-clause-bound
returns-clause-bound c = bound128 (2 ^ 65) c.spread.result (lit≤ tt) c.spread.ensures.bound
