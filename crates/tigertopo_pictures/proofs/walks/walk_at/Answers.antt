use Rattle.std.proofs.Common.{ℕ, ◌∙◌, sym, ap, arith, map, Vec, Global}
use Rattle.tigertopo_pictures.proofs.WalkLemmas.{list_of_walk, some_in_walk, few_in_walk, darts_in_walk, many_lists}
use Rattle.tigertopo_pictures.proofs.walks.walk_at.Goals as goal

pub returns-clause-walk : goal.returns-clause-walk
returns-clause-walk c =
    c.as_slice.ensures.value ∙ ap (λ (w : Vec ℕ Global). w.items) c.index-walks-number.is ∙ sym (list_of_walk c.args.walks.now c.args.number c.index-walks-number.result c.requires)

pub returns-clause-some : goal.returns-clause-some
returns-clause-some c chains are =
    let walk = returns-clause-walk c in
    rw walk (some_in_walk chains (map (λ w. w.items) c.args.walks.now) c.args.number are (omega (arith, c.requires, many_lists c.args.walks.now)))

pub returns-clause-darts : goal.returns-clause-darts
returns-clause-darts c chains are =
    let walk = returns-clause-walk c in
    rw walk (darts_in_walk chains (map (λ w. w.items) c.args.walks.now) c.args.number are (omega (arith, c.requires, many_lists c.args.walks.now)))

pub returns-clause-few : goal.returns-clause-few
returns-clause-few c chains are =
    let walk = returns-clause-walk c in
    rw walk (few_in_walk chains (map (λ w. w.items) c.args.walks.now) c.args.number are (omega (arith, c.requires, many_lists c.args.walks.now)))
