use Rattle.std.proofs.Common.{◌∙◌, inl, inr, sym}
use Rattle.tl_map.proofs.SequenceLemmas.{last_entry}
use Rattle.tl_map.proofs.GapLemmas.{ended_at_entry, tlid_at_entry, late_found, free_more, ended_more, free_whole}
use Rattle.tl_map.proofs.passes.have_no_gap.Goals as goal
use Rattle.tl_map.proofs.passes.have_no_gap.Goals.{then-shape-tlid, else-shape-tlid}

pub returns-then-is_late : goal.returns-then-is_late
returns-then-is_late c =
    let shapes = c.args.shapes.now in
    let i = c.loop-shape.shape-index in
    let v = c.if-shape-tlid.tlid in
    let ended = c.if-shape-tlid.ended in
    λ rs pool h.
    let at = tlid_at_entry c.loop-shape.tlid v _ c.loop-shape.ended ended (elim c.if-shape-tlid.branch [ then-shape-tlid w ↦ inl (w.if-shape-tlid.true, w.tlid-is, w.ended-is) | else-shape-tlid w ↦ inr (w.if-shape-tlid.false, w.tlid-is, w.ended-is) ]) in
    let before = ended_at_entry rs shapes _ i c.loop-shape.tlid v c.loop-shape.ended ended c.loop-shape-test.true c.requires.ordered c.loop-shape.invariant.last (c.loop-shape.invariant.ended rs pool h) (elim c.if-shape-tlid.branch [ then-shape-tlid w ↦ inl (w.if-shape-tlid.true, w.tlid-is, w.ended-is) | else-shape-tlid w ↦ inr (w.if-shape-tlid.false, w.tlid-is, w.ended-is) ]) in
    (v, late_found rs pool shapes _ i v ended h c.requires.placed c.loop-shape-test.true at (c.loop-shape.invariant.free rs pool h v) before (sym c.is_late.ensures ∙ c.if-is_late.true))

pub loop-shape-preserved : goal.loop-shape-preserved
loop-shape-preserved c =
    let shapes = c.args.shapes.now in
    let i = c.loop-shape.shape-index in
    let v = c.if-shape-tlid.tlid in
    let ended = c.if-shape-tlid.ended in
    let at = tlid_at_entry c.loop-shape.tlid v _ c.loop-shape.ended ended (elim c.if-shape-tlid.branch [ then-shape-tlid w ↦ inl (w.if-shape-tlid.true, w.tlid-is, w.ended-is) | else-shape-tlid w ↦ inr (w.if-shape-tlid.false, w.tlid-is, w.ended-is) ]) in
    record {
      last = λ p. last_entry shapes _ i v c.loop-shape-test.true at;
      free = λ rs pool h.
          let before = ended_at_entry rs shapes _ i c.loop-shape.tlid v c.loop-shape.ended ended c.loop-shape-test.true c.requires.ordered c.loop-shape.invariant.last (c.loop-shape.invariant.ended rs pool h) (elim c.if-shape-tlid.branch [ then-shape-tlid w ↦ inl (w.if-shape-tlid.true, w.tlid-is, w.ended-is) | else-shape-tlid w ↦ inr (w.if-shape-tlid.false, w.tlid-is, w.ended-is) ]) in
          free_more rs pool shapes _ i v ended h c.requires.placed c.loop-shape-test.true at (c.loop-shape.invariant.free rs pool h) before (sym c.is_late.ensures ∙ c.if-is_late.false);
      ended = λ rs pool h.
          let before = ended_at_entry rs shapes _ i c.loop-shape.tlid v c.loop-shape.ended ended c.loop-shape-test.true c.requires.ordered c.loop-shape.invariant.last (c.loop-shape.invariant.ended rs pool h) (elim c.if-shape-tlid.branch [ then-shape-tlid w ↦ inl (w.if-shape-tlid.true, w.tlid-is, w.ended-is) | else-shape-tlid w ↦ inr (w.if-shape-tlid.false, w.tlid-is, w.ended-is) ]) in
          c.is_ended-ended.ensures ∙ ended_more rs pool shapes _ i v ended h c.requires.placed c.loop-shape-test.true at before;
    }

pub returns : goal.returns
returns c = λ rs pool h. free_whole rs pool c.args.shapes.now _ h c.loop-shape-test.false (c.loop-shape.invariant.free rs pool h)
