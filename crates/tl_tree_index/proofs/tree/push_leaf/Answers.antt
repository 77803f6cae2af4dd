use Rattle.std.proofs.Common.{◌≡◌, ◌<◌, ◌≤◌, ◌+◌, ◌++◌, [], ◌∷◌, length, take, get_or, ◌∙◌, ap, sym, map, subst}
use Rattle.std.proofs.lemmas.List.{take_all, take_more, length-map, map-append}
use Rattle.std.proofs.lemmas.Result.{err_from_is_err_and}
use Rattle.tl_geom.specs.Rectangle.{Covers}
use Rattle.tl_tree_index.specs.Fits.{CoversAll}
use Rattle.tl_tree_index.proofs.Covering.{all-append}
use Rattle.tl_tree_index.specs.declared.order.Placed.{Placed}
use Rattle.tl_tree_index.specs.Keeping.Nodes.{Push}
use Rattle.tl_tree_index.proofs.Forests.{covers_more}
use Rattle.tl_tree_index.proofs.NodeLemmas.{push_leaf_node}
use Rattle.tl_tree_index.proofs.tree.push_leaf.Goals as goal

pub loop-placed-preserved : goal.loop-placed-preserved
loop-placed-preserved g c =
    let part = c.args.part.now in
    let at = c.loop-placed.placed-index in
    let first : Placed = record { place = 0; item = 0 } in
    let x = get_or part at first in
    let bounds = g.I.Items.bounds_of c.args.items.now in
    let number = map (λ (p : Placed). p.item) in
    let before = number (take at part) in
    let rect = c.join-rect.result in
    let one : take (at + 1) part ≡ take at part ++ x ∷ [] = take_more part at first c.loop-placed-test.true in
    let more : number (take (at + 1) part) ≡ before ++ x.item ∷ [] = ap number one ∙ map-append _ (take at part) (x ∷ []) in
    let here : Covers rect (bounds x.item) = subst (Covers rect) c.bounds.ensures c.join-rect.ensures.holds_second in
    let covered : CoversAll bounds rect (before ++ x.item ∷ []) =
    (all-append bounds rect before (x.item ∷ [])).1
    (covers_more bounds c.loop-placed.rect rect before c.join-rect.ensures.holds_first c.loop-placed.invariant.covered, (here, tt)) in
    record {
      held = c.push.ensures.items ∙ (ap (λ l. l ++ x.item ∷ []) c.loop-placed.invariant.held ∙ sym more);
      covered = subst (CoversAll bounds rect) (sym more) covered;
    }

pub returns : goal.returns
returns g c =
    let part = c.args.part.now in
    let bounds = g.I.Items.bounds_of c.args.items.now in
    let number = map (λ (p : Placed). p.item) in
    let all : take c.loop-placed.placed-index part ≡ part = take_all c.loop-placed.placed-index part c.loop-placed-test.false in
    let long : length (number part) ≡ length part = length-map part (λ (p : Placed). p.item) in
    let some : 0 < length (number part) = subst (λ m. 0 < m) (sym long) c.requires.some in
    let covered : CoversAll bounds c.loop-placed.rect (number part) = subst (λ xs. CoversAll bounds c.loop-placed.rect (number xs)) all c.loop-placed.invariant.covered in
    let leaf = push_leaf_node bounds c.args.nodes.now.items c.push-2.new.self.items c.loop-placed.rect _ (number part) c.in_ok-push.ensures.items
    (c.loop-placed.invariant.held ∙ ap number all) some (subst (λ m. m ≤ 8) (sym long) c.requires.few) covered in
    subst (λ m. Push bounds 1 m m c.args.nodes.now.items c.push-2.new.self.items (number part) c.loop-placed.rect) long leaf

pub returns-in_err-push : goal.returns-in_err-push
returns-in_err-push g c = let p = err_from_is_err_and c.from_residual.result c.from_residual.ensures.1 in rw p.1 tt
