use Rattle.std.proofs.Common.{refl, arith}
use Rattle.tl_tree_index.specs.Pairs.{meeting, AreToldApart}
use Rattle.tl_tree.specs.Keeping.Walking.{items_below}
use Rattle.tl_tree.proofs.Walks.{cross-none, cross-split, all_cross-none, all_cross-split, nodes-split, size-above_0, sound-others}
use Rattle.tl_tree.proofs.near.list_trees.Goals as goal

pub loop-first-init : goal.loop-first-init
loop-first-init g c =
    record { sum = refl; most = λ f. omega arith; free = λ f h. (f, h); sound = λ k. k; left = c.requires.others; fits = c.requires.fits; complete = refl }

pub list_one-more-requires-clause-first : goal.list_one-more-requires-clause-first
list_one-more-requires-clause-first g c = record { others = _; split = c.in-Some.ensures }

pub loop-first-smaller : goal.loop-first-smaller
loop-first-smaller g c =
    let see = g.W.Trees.forest in
    omega (arith, nodes-split see (see c.loop-first.left) c.in-Some.first.rect c.in-Some.first.below (see c.in-Some.rest) c.in-Some.ensures, size-above_0 see c.in-Some.first.below)

pub loop-first-preserved : goal.loop-first-preserved
loop-first-preserved g c =
    let see = g.W.Trees.forest in
    let n = g.I.Items.count c.args.items.now in
    let b = g.I.Items.bounds_of c.args.items.now in
    let free = AreToldApart (g.I.Items.tells c.args.items.now) in
    let xs = items_below see c.args.tree.now.below in
    let first = c.in-Some.first in
    let s = c.list_one-more.ensures.listed in
    let m = cross-split see (meeting b) xs (see c.loop-first.left) first.rect first.below (see c.in-Some.rest) c.in-Some.ensures in
    record {
      sum = omega (arith, s.sum, m, c.loop-first.invariant.sum);
      most = λ f. omega (arith, s.most f, c.loop-first.invariant.most f, cross-split see f xs (see c.loop-first.left) first.rect first.below (see c.in-Some.rest) c.in-Some.ensures);
      free = λ f h. let p = s.free f in c.loop-first.invariant.free p.0 (all_cross-split see free xs (see c.loop-first.left) first.rect first.below (see c.in-Some.rest) c.in-Some.ensures p.1 h);
      sound = λ k. s.sound (c.loop-first.invariant.sound k);
      left = sound-others see n b (see c.loop-first.left) first (see c.in-Some.rest) c.in-Some.ensures c.loop-first.invariant.left;
      fits = omega (arith, c.list_one-more.ensures.fits, c.if-near-more.false, c.loop-first.invariant.complete);
      complete = omega (arith, c.list_one-more.ensures.complete, c.loop-first.invariant.complete);
    }

pub returns : goal.returns
returns g c =
    let see = g.W.Trees.forest in
    let meet = meeting (g.I.Items.bounds_of c.args.items.now) in
    let free = AreToldApart (g.I.Items.tells c.args.items.now) in
    let xs = items_below see c.args.tree.now.below in
    let m = cross-none meet xs (see c.loop-first.left) c.in_default.ensures in
    record {
      complete = c.loop-first.invariant.complete;
      fits = c.loop-first.invariant.fits;
      listed = record {
        sum = omega (arith, m, c.loop-first.invariant.sum);
        most = λ f. omega (arith, c.loop-first.invariant.most f);
        free = λ f. c.loop-first.invariant.free f (all_cross-none free xs (see c.loop-first.left) c.in_default.ensures);
        sound = c.loop-first.invariant.sound;
      };
    }

pub returns-then-near-more : goal.returns-then-near-more
returns-then-near-more g c = c.loop-first.invariant.complete

pub list_one-more-requires-clause-tree : goal.list_one-more-requires-clause-tree
list_one-more-requires-clause-tree g c = c.requires.tree

pub list_one-more-requires-clause-at : goal.list_one-more-requires-clause-at
list_one-more-requires-clause-at g c = c.loop-first.invariant.left
