use Rattle.std.proofs.Common.{inl, inr, ◌∙◌, sym, below_more}
use Rattle.tl_map.proofs.SequenceLemmas.{count_at_entry, count_more, placed_entry, misplaced_entry, last_entry, count_small, not_numbered}
use Rattle.tl_map.proofs.passes.are_numbered.Goals as goal
use Rattle.tl_map.proofs.passes.are_numbered.Goals.{then-shape-tlid, else-shape-tlid}

pub returns-then-from-count : goal.returns-then-from-count
returns-then-from-count c =
    let v = c.if-shape-tlid.tlid in
    let i = c.loop-shape.shape-index in
    let here = count_at_entry c.args.shapes.now _ i c.loop-shape.tlid c.loop-shape.count v c.if-shape-tlid.count c.loop-shape-test.true c.requires c.loop-shape.invariant.count c.loop-shape.invariant.last
    (elim c.if-shape-tlid.branch [ then-shape-tlid w ↦ inl (w.if-shape-tlid.true, w.tlid-is, w.count-is) | else-shape-tlid w ↦ inr (w.if-shape-tlid.false, w.tlid-is, w.count-is) ]) in (
      v,
      λ numbered. not_numbered c.args.shapes.now _ i c.loop-shape-test.true c.requires c.loop-shape.invariant.placed
          (misplaced_entry c.args.shapes.now _ i v _ _ here.0 here.1 c.from.ensures c.if-from-count.true) (rw here.0 at numbered),
    )

pub loop-shape-preserved : goal.loop-shape-preserved
loop-shape-preserved c =
    let v = c.if-shape-tlid.tlid in
    let i = c.loop-shape.shape-index in
    let here = count_at_entry c.args.shapes.now _ i c.loop-shape.tlid c.loop-shape.count v c.if-shape-tlid.count c.loop-shape-test.true c.requires c.loop-shape.invariant.count c.loop-shape.invariant.last
    (elim c.if-shape-tlid.branch [ then-shape-tlid w ↦ inl (w.if-shape-tlid.true, w.tlid-is, w.count-is) | else-shape-tlid w ↦ inr (w.if-shape-tlid.false, w.tlid-is, w.count-is) ]) in
    record {
      count = count_more c.args.shapes.now _ i v _ c.loop-shape-test.true here.0 here.1;
      small = count_small c.args.shapes.now i v _ c.loop-shape-test.true here.1;
      last = λ p. last_entry c.args.shapes.now _ i v c.loop-shape-test.true here.0;
      placed = below_more _ _ c.loop-shape.invariant.placed (placed_entry c.args.shapes.now _ i v _ c.loop-shape-test.true here.0 here.1 (sym c.from.ensures ∙ c.if-from-count.false));
    }
