use Rattle.std.proofs.Common.{sym, subst, ◌∙◌, arith}
use Rattle.tl_tree_index.proofs.Times.{same_or}
use Rattle.tl_check_sides.specs.Sides.{IsRing}
use Rattle.tl_check_sides.specs.Lists.{list_at}
use Rattle.tl_build_propose.specs.Keeping.Lists.{lists_in}
use Rattle.tl_build_propose.specs.Keeping.Siding.{HasOneLeft}
use Rattle.tl_build_propose.proofs.SideLemmas.{agree, walk_at, many_walks}
use Rattle.tl_build_propose.proofs.sides.find_sides_at_odds.Goals as goal

pub side_at_odds-requires : goal.side_at_odds-requires
side_at_odds-requires c =
    let within = c.loop-walk-test.true in
    let is = walk_at c.args.walks.now c.loop-walk.walk-index c.walk-item.result within c.walk-item.is ∙ sym c.deref.ensures.value in
    subst (IsRing c.args.map.now.chains) is (c.requires.walks.rings c.loop-walk.walk-index (omega (arith, within, many_walks c.args.walks.now)))

pub loop-walk-preserved : goal.loop-walk-preserved
loop-walk-preserved c = λ k lt. same_or k c.loop-walk.walk-index
    (λ e.
    let is = walk_at c.args.walks.now c.loop-walk.walk-index c.walk-item.result c.loop-walk-test.true c.walk-item.is ∙ sym c.deref.ensures.value in
    subst (λ n. HasOneLeft c.args.map.now.chains (list_at (lists_in c.args.walks.now) n)) (sym e) (subst (HasOneLeft c.args.map.now.chains) (sym is) c.in-None.ensures))
    (λ ne. c.loop-walk.invariant k (omega (arith, lt, ne)))

pub returns : goal.returns
returns c =
    agree c.args.map.now.chains c.requires.apart (lists_in c.args.walks.now) c.requires.walks
    (λ k lt. c.loop-walk.invariant k (let done = c.loop-walk-test.false in omega (arith, lt, done, many_walks c.args.walks.now)))
