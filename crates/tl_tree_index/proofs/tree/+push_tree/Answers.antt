use Rattle.std.proofs.Common.{◌≡◌, suc, ◌<◌, ◌≤◌, ◌+◌, ◌-◌, ◌/◌, ◌++◌, [], ◌∷◌, set, length, refl, sym, ◌∙◌, ap, map, min, subst, append_assoc, append-nil, arith, pos, negsuc}
use Rattle.std.proofs.lemmas.List.{map-append, length-map}
use Rattle.std.proofs.lemmas.List.Elements.{All-same, All-take, All-drop}
use Rattle.std.proofs.lemmas.Result.{err_from_is_err_and}
use Rattle.tl_geom.specs.declared.rect.Rect.{Rect}
use Rattle.tl_tree_index.specs.declared.node.TreeNode.TheVariants.{Inner}
use Rattle.tl_tree_index.specs.declared.order.Placed.{Placed}
use Rattle.tl_tree_index.specs.Keeping.Nodes.{most_items, Push}
use Rattle.tl_tree_index.proofs.ListLemmas.{no_items}
use Rattle.tl_tree_index.proofs.NodeLemmas.{push_start, push_more, push_root}
use Rattle.tl_tree_index.proofs.Sizes.{greatest_of, level_below, least_of, differ_by_one, four_each}
use Rattle.tl_tree_index.proofs.Splitting.{AreLeft, all_left, IsSplitOff, split_off, none_left, gone_more, one_less, at_end, at_least, some_left, fewer_left, first_within, four_some, is_fewer}
use Rattle.tl_tree_index.proofs.tree.+push_tree.Goals as goal

-- the rectangle of a root whose children aren't pushed yet
abbrev nothing_yet : Rect
nothing_yet = record { xmin = pos 2147483647; ymin = pos 2147483647; xmax = negsuc 2147483647; ymax = negsuc 2147483647 }

pub loop-pushed-init : goal.loop-pushed-init
loop-pushed-init g t c =
    let n = length c.args.part.now in
    let k = c.child_count-children.result in
    let many : 8 < n = c.if-part-le-LEAF.false in
    let left : AreLeft n k 0 n = all_left n k c.child_count-children.ensures.count c.child_count-children.ensures.several many in
    record {
      done = [];
      room = nothing_yet;
      split = refl;
      push = push_start (g.I.Items.bounds_of c.args.items.now) (least_of n k) (greatest_of n k) (c.args.nodes.now.items ++ Inner nothing_yet k ∷ []) c.push.new.self.items nothing_yet c.in_ok-push.ensures.items;
      most = left.most;
      least = left.least;
      four = left.four;
      gone = at_least 0;
      known = c.requires.known;
    }

pub loop-pushed-preserved : goal.loop-pushed-preserved
loop-pushed-preserved g t c =
    let number = map (λ (p : Placed). p.item) in
    let m = g.I.Items.count c.args.items.now in
    let n = length c.args.part.now in
    let k = c.child_count-children.result in
    let done = c.loop-pushed.invariant.done in
    let child = c.split_at.result.0.now in
    let behind = c.split_at.result.1.now in
    let left = length c.loop-pushed.rest.now in
    let before : AreLeft n k c.loop-pushed.pushed left = record { most = c.loop-pushed.invariant.most; least = c.loop-pushed.invariant.least; four = c.loop-pushed.invariant.four } in
    let off : IsSplitOff n k c.loop-pushed.pushed (length child) (length behind) =
    split_off n k c.loop-pushed.pushed left (length child) (length behind) c.child_count-children.ensures.count c.if-part-le-LEAF.false c.loop-pushed-test.true before c.split_at.ensures.front_len c.split_at.ensures.back_len in
    record {
      done = done ++ child;
      room = c.loop-pushed.invariant.room;
      split = c.loop-pushed.invariant.split ∙ (ap (λ l. done ++ l) c.split_at.ensures.by_index.0 ∙ sym (append_assoc done child behind));
      push = push_more (g.I.Items.bounds_of c.args.items.now) c.loop-pushed.pushed (least_of n k) (greatest_of n k) (length child) _ _ _ (number done) (number child) (number (done ++ child)) _ _ _
          c.loop-pushed.invariant.push c.in_ok-push_tree.ensures (map-append _ done child) c.join-rect.ensures.holds_first c.join-rect.ensures.holds_second off.low off.high;
      most = off.left.most;
      least = off.left.least;
      four = off.left.four;
      gone = gone_more done child c.loop-pushed.pushed c.loop-pushed.invariant.gone off.some;
      known = All-same (λ (p : Placed). p.item < m) behind _ c.split_at.ensures.back (All-drop (λ (p : Placed). p.item < m) _ _ c.loop-pushed.invariant.known);
    }

pub returns : goal.returns
returns g t c =
    let number = map (λ (p : Placed). p.item) in
    let bounds = g.I.Items.bounds_of c.args.items.now in
    let part = c.args.part.now in
    let n = length part in
    let k = c.child_count-children.result in
    let done = c.loop-pushed.invariant.done in
    let at : c.loop-pushed.pushed ≡ k = at_end c.loop-pushed.pushed k c.loop-pushed-test.false c.loop-pushed.auto.pushed-end in
    let left : AreLeft n k c.loop-pushed.pushed (length c.loop-pushed.rest.now) = record { most = c.loop-pushed.invariant.most; least = c.loop-pushed.invariant.least; four = c.loop-pushed.invariant.four } in
    let rest : c.loop-pushed.rest.now ≡ [] = no_items _ (none_left n k c.loop-pushed.pushed (length c.loop-pushed.rest.now) left at) in
    let whole : part ≡ done = c.loop-pushed.invariant.split ∙ (ap (λ l. done ++ l) rest ∙ append-nil done) in
    let base = c.args.nodes.now.items ++ Inner c.loop-pushed.invariant.room k ∷ [] in
    let long : length (number part) ≡ n = length-map part (λ (p : Placed). p.item) in
    let many : 8 < n = c.if-part-le-LEAF.false in
    let all : Push bounds k (least_of n k) (greatest_of n k) base c.loop-pushed.nodes.items (number done) c.loop-pushed.rect =
    subst (λ p. Push bounds p (least_of n k) (greatest_of n k) base c.loop-pushed.nodes.items (number done) c.loop-pushed.rect) at c.loop-pushed.invariant.push in
    let push : Push bounds k (least_of n k) (greatest_of n k) base c.loop-pushed.nodes.items (number part) c.loop-pushed.rect =
    subst (λ xs. Push bounds k (least_of n k) (greatest_of n k) base c.loop-pushed.nodes.items (number xs) c.loop-pushed.rect) (sym whole) all in
    let room : c.len-root.result ≡ length c.args.nodes.now.items = omega (arith, c.len-root.ensures, c.args.nodes.now.ok) in
    let rooted = push_root bounds k (least_of n k) (greatest_of n k) c.args.nodes.now.items c.loop-pushed.nodes.items
    (set c.loop-pushed.nodes.items c.len-root.result (Inner c.loop-pushed.rect k)) c.loop-pushed.invariant.room c.loop-pushed.rect (number part)
    c.child_count-children.ensures.several c.child_count-children.ensures.few (subst (λ m. 8 < m) (sym long) many)
    (c.child_count-children.ensures.count ∙ ap (λ l. min 8 ((l + 7) / 8)) (sym long)) (four_each n k c.child_count-children.ensures.count many)
    (differ_by_one n k (k - 1) (one_less k c.child_count-children.ensures.several)) push
    (ap (λ i. set c.loop-pushed.nodes.items i (Inner c.loop-pushed.rect k)) room)
    (λ d l. level_below n k d c.child_count-children.ensures.count many (subst (λ m. m ≤ most_items (suc (suc d))) long l)) in
    subst (λ m. Push bounds 1 m m c.args.nodes.now.items (set c.loop-pushed.nodes.items c.len-root.result (Inner c.loop-pushed.rect k)) (number part) c.loop-pushed.rect) long rooted

pub returns-in_err-push : goal.returns-in_err-push
returns-in_err-push g t c = let p = err_from_is_err_and c.from_residual.result c.from_residual.ensures.1 in rw p.1 tt

pub returns-in_err-push_tree : goal.returns-in_err-push_tree
returns-in_err-push_tree g t c = let p = err_from_is_err_and c.from_residual-in_err-push_tree.result c.from_residual-in_err-push_tree.ensures.1 in rw p.1 tt

pub push_leaf-requires-clause-some : goal.push_leaf-requires-clause-some
push_leaf-requires-clause-some g t c = c.requires.some

pub push_leaf-requires-clause-few : goal.push_leaf-requires-clause-few
push_leaf-requires-clause-few g t c = c.if-part-le-LEAF.true

pub push_leaf-requires-clause-known : goal.push_leaf-requires-clause-known
push_leaf-requires-clause-known g t c = c.requires.known

pub returns-then-part-le-LEAF : goal.returns-then-part-le-LEAF
returns-then-part-le-LEAF g t c = c.push_leaf.ensures

pub child_count-children-requires : goal.child_count-children-requires
child_count-children-requires g t c = c.if-part-le-LEAF.false

pub overflow_sub-children : goal.overflow_sub-children
overflow_sub-children g t c = c.loop-pushed.auto.pushed-end

pub nonzero_div-rest : goal.nonzero_div-rest
nonzero_div-rest g t c = some_left _ _ c.loop-pushed-test.true

pub split_at-requires : goal.split_at-requires
split_at-requires g t c = first_within _ _ c.loop-pushed-test.true _

pub loop-pushed-smaller : goal.loop-pushed-smaller
loop-pushed-smaller g t c = fewer_left _ _ c.loop-pushed-test.true

pub push_tree-requires : goal.push_tree-requires
push_tree-requires g t c κs within =
    let m = g.I.Items.count c.args.items.now in
    let n = length c.args.part.now in
    let k = c.child_count-children.result in
    let child = c.split_at.result.0.now in
    let left = length c.loop-pushed.rest.now in
    let before : AreLeft n k c.loop-pushed.pushed left = record { most = c.loop-pushed.invariant.most; least = c.loop-pushed.invariant.least; four = c.loop-pushed.invariant.four } in
    let off : IsSplitOff n k c.loop-pushed.pushed (length child) (length c.split_at.result.1.now) =
    split_off n k c.loop-pushed.pushed left (length child) (length c.split_at.result.1.now) c.child_count-children.ensures.count c.if-part-le-LEAF.false c.loop-pushed-test.true before c.split_at.ensures.front_len c.split_at.ensures.back_len in
    let fewer : length child < n =
    is_fewer c.args.part.now c.loop-pushed.invariant.done c.loop-pushed.rest.now k c.loop-pushed.pushed (length child) (length c.split_at.result.1.now) _ c.loop-pushed.invariant.split c.split_at.ensures.front_len c.split_at.ensures.back_len c.loop-pushed.invariant.gone c.child_count-children.ensures.several c.loop-pushed-test.true off.left.four in
    (subst (λ m. length child < m) c.decreases fewer, (within.0, (within.1, (four_some (length child) off.some, All-same (λ (p : Placed). p.item < m) child _ c.split_at.ensures.front (All-take (λ (p : Placed). p.item < m) _ _ c.loop-pushed.invariant.known)))))
