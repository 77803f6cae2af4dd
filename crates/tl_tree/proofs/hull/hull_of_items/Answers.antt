use Rattle.std.proofs.Common.{ℕ, List, [], ◌∷◌, get_or, take, sym, subst}
use Rattle.std.proofs.lemmas.List.{take_more, take_all}
use Rattle.tl_geom.specs.declared.rect.Rect.{Rect}
use Rattle.tl_tree.specs.Keeping.Checking.{IsHull}
use Rattle.tl_tree.proofs.Steps.{below-at}
use Rattle.tl_tree.proofs.Hulls.{hull-none, hull-both, hull-one, nothing-empty}
use Rattle.tl_tree.proofs.hull.hull_of_items.Goals as goal

pub bounds-requires : goal.bounds-requires
bounds-requires g c = below-at _ _ c.loop-i.i-index c.loop-i-test.true c.requires

pub loop-i-init : goal.loop-i-init
loop-i-init g c = hull-none (g.I.Items.bounds_of c.args.items.now) _ nothing-empty

pub loop-i-preserved : goal.loop-i-preserved
loop-i-preserved g c =
    let b = g.I.Items.bounds_of c.args.items.now in
    let xs = c.args.some.now in
    let k = c.loop-i.i-index in
    let P : List ℕ → Type 0 = λ ys. IsHull b ys c.hull_of-hull.result in
    let Q : Rect → Type 0 = IsHull b (get_or xs k 0 ∷ []) in
    subst P (sym (take_more xs k 0 c.loop-i-test.true))
    (hull-both b (take k xs) (get_or xs k 0 ∷ []) c.loop-i.hull c.bounds.result c.hull_of-hull.result c.loop-i.invariant (subst Q (sym c.bounds.ensures) (hull-one b (get_or xs k 0))) c.hull_of-hull.ensures)

pub returns : goal.returns
returns g c =
    let P : List ℕ → Type 0 = λ ys. IsHull (g.I.Items.bounds_of c.args.items.now) ys c.loop-i.hull in
    subst P (take_all c.loop-i.i-index c.args.some.now c.loop-i-test.false) c.loop-i.invariant
