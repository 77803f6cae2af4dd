use Rattle.std.proofs.Common.{◌≡◌, ℕ, List, ◌+◌, ◌≤◌, refl, sym, ap, ◌∙◌, subst, arith}
use Rattle.std.proofs.lemmas.Bool.{false≢true}
use Rattle.tl_geom.specs.Rectangle.{AreMeeting}
use Rattle.std.specs.Result.{OnOk}
use Rattle.tl_tree.specs.declared.walk.Below.{Below}
use Rattle.tl_tree_index.specs.Fits.{AreBelow}
use Rattle.tl_tree_index.specs.Hits.{times}
use Rattle.tl_tree_index.specs.Trees.{leaf_items, node_count}
use Rattle.tl_tree.specs.Keeping.Walking.{items_below, size_of, AreSound, IsSound, Collects}
use Rattle.tl_tree.proofs.Hitting.{collects-nothing, grows-nothing, grows-both, none-hit, when-ok}
use Rattle.tl_tree.proofs.Roots.{first-root, includes-roots}
use Rattle.tl_tree.proofs.Walks.{collects-split, nodes-split, size-above_0, sound-children, sound-first, sound-others}
use Rattle.tl_tree.proofs.hits.+collect.Goals as goal
use Rattle.tl_tree.proofs.hits.+collect.Goals.{collect_trees-else-is_first_marked-via-then-is_first_marked+else-is_err, collect_trees-else-is_first_marked-via-else-is_first_marked}

pub collect_one-returns-then-not-meets-clause-hits : goal.collect_one-returns-then-not-meets-clause-hits
collect_one-returns-then-not-meets-clause-hits g t c =
    let hit = g.P.Probe.hit c.args.probe.now c.args.items.now in
    let xs = items_below g.W.Trees.forest c.args.tree.now.below in
    collects-nothing hit xs c.args.out.now.items c.args.out.now.items refl
    (none-hit (g.I.Items.count c.args.items.now) (g.I.Items.bounds_of c.args.items.now) hit c.args.region
    (λ i h e. rw c.requires.region (g.met.P.Probe.hits_meet c.args.probe.now c.args.items.now i h e))
    c.args.tree.now.rect xs (λ m. false≢true (sym c.if-not-meets.true ∙ c.meets.ensures.1 m)) c.requires.tree.known c.requires.tree.covers)

pub collect_one-returns-then-not-meets-clause-grows : goal.collect_one-returns-then-not-meets-clause-grows
collect_one-returns-then-not-meets-clause-grows g t c = grows-nothing c.args.out.now.items

pub collect_one-push_hits-requires-clause-known : goal.collect_one-push_hits-requires-clause-known
collect_one-push_hits-requires-clause-known g t c =
    let P : Below g.row.W.Denot → Type 0 = λ u. AreBelow (g.I.Items.count c.args.items.now) (items_below g.W.Trees.forest u) in
    subst P c.in-Items.is c.requires.tree.known

pub collect_one-collect_trees-requires : goal.collect_one-collect_trees-requires
collect_one-collect_trees-requires g t c κs within =
    let see = g.W.Trees.forest in
    let n = g.I.Items.count c.args.items.now in
    let b = g.I.Items.bounds_of c.args.items.now in
    let h : AreSound n b (see c.in-Children.children) = sound-children see n b c.args.tree.now c.in-Children.children c.in-Children.is c.requires.tree in
    let e = ap (λ (u : Below g.row.W.Denot). size_of see u) c.in-Children.is in
    (omega (arith, e), (within.0, (within.1.0, (within.1.1.0, (within.1.1.1, (h, c.requires.region))))))

pub collect_one-returns-in-Items-clause-hits : goal.collect_one-returns-in-Items-clause-hits
collect_one-returns-in-Items-clause-hits g t c =
    let hit = g.P.Probe.hit c.args.probe.now c.args.items.now in
    let P : Below g.row.W.Denot → Type 0 = λ u. OnOk c.push_hits.result (Collects hit (items_below g.W.Trees.forest u) c.args.out.now.items c.push_hits.new.out.items) in
    subst P (sym c.in-Items.is) c.push_hits.ensures.hits

pub collect_one-returns-in-Children-clause-hits : goal.collect_one-returns-in-Children-clause-hits
collect_one-returns-in-Children-clause-hits g t c =
    let hit = g.P.Probe.hit c.args.probe.now c.args.items.now in
    let P : Below g.row.W.Denot → Type 0 = λ u. OnOk c.collect_trees.result (Collects hit (items_below g.W.Trees.forest u) c.args.out.now.items c.collect_trees.new.out.items) in
    subst P (sym c.in-Children.is) c.collect_trees.ensures.hits

pub collect_trees-loop-tree-init : goal.collect_trees-loop-tree-init
collect_trees-loop-tree-init g t c =
    record {
      left = c.requires.trees;
      marks = c.meeting_roots-marks.ensures;
      nodes = omega arith;
      hits = λ new d. d;
      grows = grows-nothing c.args.out.now.items;
    }

pub collect_trees-loop-tree-smaller : goal.collect_trees-loop-tree-smaller
collect_trees-loop-tree-smaller g t c =
    let see = g.W.Trees.forest in
    omega (arith, nodes-split see (see c.loop-tree.left) c.in-Some.tree.rect c.in-Some.tree.below (see c.in-Some.rest) c.in-Some.ensures, size-above_0 see c.in-Some.tree.below)

pub collect_trees-returns-then-is_err-clause-grows : goal.collect_trees-returns-then-is_err-clause-grows
collect_trees-returns-then-is_err-clause-grows g t c =
    grows-both c.args.out.now.items c.loop-tree.out.items c.collect_one.new.out.items c.loop-tree.invariant.grows c.collect_one.ensures.grows

pub collect_trees-returns-clause-hits : goal.collect_trees-returns-clause-hits
collect_trees-returns-clause-hits g t c =
    let left = g.W.Trees.forest c.loop-tree.left in
    let now = c.loop-tree.out.items in
    c.loop-tree.invariant.hits now
    (collects-nothing (g.P.Probe.hit c.args.probe.now c.args.items.now) (leaf_items left) now now refl (λ i h. ap (λ us. times i (leaf_items us)) c.in_default.ensures))

pub collect_trees-collect_one-requires : goal.collect_trees-collect_one-requires
collect_trees-collect_one-requires g t c κs within =
    let see = g.W.Trees.forest in
    let n = g.I.Items.count c.args.items.now in
    let b = g.I.Items.bounds_of c.args.items.now in
    let tree = c.in-Some.tree in
    let h : IsSound n b see tree = sound-first see n b (see c.loop-tree.left) tree (see c.in-Some.rest) c.in-Some.ensures c.loop-tree.invariant.left in
    let e : node_count (see c.loop-tree.left) ≡ size_of see tree.below + node_count (see c.in-Some.rest) = nodes-split see (see c.loop-tree.left) tree.rect tree.below (see c.in-Some.rest) c.in-Some.ensures in
    let k : node_count (see c.loop-tree.left) ≤ node_count (see c.args.trees.now) = c.loop-tree.invariant.nodes in
    (omega (arith, e, k), (within.0, (within.1.0, (within.1.1.0, (within.1.1.1, (h, c.requires.region))))))

pub collect_trees-loop-tree-preserved : goal.collect_trees-loop-tree-preserved
collect_trees-loop-tree-preserved g t c =
    let see = g.W.Trees.forest in
    let hit = g.P.Probe.hit c.args.probe.now c.args.items.now in
    let n = g.I.Items.count c.args.items.now in
    let b = g.I.Items.bounds_of c.args.items.now in
    let left = see c.loop-tree.left in
    let tree = c.in-Some.tree in
    let rest = see c.in-Some.rest in
    let some = items_below see tree.below in
    let before = c.args.out.now.items in
    let now = c.loop-tree.out.items in
    let new = c.else-is_first_marked.out.items in
    let is = c.loop-tree.invariant in
    let sound : IsSound n b see tree = sound-first see n b left tree rest c.in-Some.ensures is.left in
    let found : Collects hit some now new =
    elim c.else-is_first_marked.branch [
      | collect_trees-else-is_first_marked-via-then-is_first_marked+else-is_err w ↦
          let P : List ℕ → Type 0 = Collects hit some now in
          subst P (sym (ap (λ v. v.items) w.out-is)) (when-ok w.collect_one.result w.if-is_err.ensures.negation w.collect_one.ensures.hits)
      | collect_trees-else-is_first_marked-via-else-is_first_marked w ↦
          let no : AreMeeting tree.rect c.args.region → ⊥ =
          λ m. false≢true (sym w.if-is_first_marked.false ∙ c.is_first_marked.ensures.1 (is.marks 0 (omega arith) (first-root see left tree.rect tree.below rest c.args.region c.in-Some.ensures m))) in
          collects-nothing hit some now new (ap (λ v. v.items) w.out-is)
          (none-hit n b hit c.args.region (λ i h e. rw c.requires.region (g.met.P.Probe.hits_meet c.args.probe.now c.args.items.now i h e)) tree.rect some no sound.known sound.covers)
    ] in
    record {
      left = sound-others see n b left tree rest c.in-Some.ensures is.left;
      marks = includes-roots see left tree.rect tree.below rest c.args.region c.loop-tree.marks c.later_marks-marks.result c.in-Some.ensures c.later_marks-marks.ensures.moved c.later_marks-marks.ensures.last is.marks;
      nodes = omega (arith, nodes-split see left tree.rect tree.below rest c.in-Some.ensures, is.nodes);
      hits = λ last d. is.hits last (collects-split see hit left tree.rect tree.below rest now new last c.in-Some.ensures found d);
      grows = grows-both before now new is.grows (record { added = found.found; appended = found.appended });
    }

pub collect_trees-returns-then-is_err-clause-hits : goal.collect_trees-returns-then-is_err-clause-hits
collect_trees-returns-then-is_err-clause-hits g t c = tt

pub collect_one-push_hits-requires-clause-region : goal.collect_one-push_hits-requires-clause-region
collect_one-push_hits-requires-clause-region g t c = c.requires.region

pub collect_one-returns-in-Items-clause-grows : goal.collect_one-returns-in-Items-clause-grows
collect_one-returns-in-Items-clause-grows g t c = c.push_hits.ensures.grows

pub collect_one-returns-in-Children-clause-grows : goal.collect_one-returns-in-Children-clause-grows
collect_one-returns-in-Children-clause-grows g t c = c.collect_trees.ensures.grows

pub collect_trees-returns-clause-grows : goal.collect_trees-returns-clause-grows
collect_trees-returns-clause-grows g t c = c.loop-tree.invariant.grows
