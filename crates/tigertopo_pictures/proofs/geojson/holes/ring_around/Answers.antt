use Rattle.std.proofs.Common.{map, arith}
use Rattle.tigertopo_pictures.proofs.WalkLemmas.{few_walks, many_lists}
use Rattle.tigertopo_pictures.proofs.geojson.holes.ring_around.Goals as goal

pub overflow_cast-result : goal.overflow_cast-result
overflow_cast-result c =
    let few = few_walks c.args.map.now.chains (map (λ w. w.items) c.args.walks.now) c.requires.walks in
    omega (arith, few, many_lists c.args.walks.now, c.darts-darts.ensures, c.darts-darts.type_inv, c.requires.beside, c.items.ensures, c.if-first-items.false)

pub overflow_cast-result-2 : goal.overflow_cast-result-2
overflow_cast-result-2 c =
    let few = few_walks c.args.map.now.chains (map (λ w. w.items) c.args.walks.now) c.requires.walks in
    omega (arith, few, many_lists c.args.walks.now, c.darts-darts.ensures, c.darts-darts.type_inv, c.innermost.ensures.within)
