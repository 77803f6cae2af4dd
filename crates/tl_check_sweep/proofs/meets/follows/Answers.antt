use Rattle.std.proofs.Common.{ℕ, sym, subst, arith}
use Rattle.tl_map_county.specs.Segments.{IsSegmentOf}
use Rattle.tl_check_active.proofs.Meeting.{one_after, equal, is_true}
use Rattle.tl_check_sweep.proofs.meets.follows.Goals as goal

pub returns : goal.returns
returns c = λ h.
    let some = c.if-f-eq0.false in
    let before = c.if-e-f.false in
    one_after c.args.map.now.chains c.args.e c.args.f c.segment_chain.result c.if-e.false (is_true c.args.f.first c.if-not-f.false) (omega (arith, some, before)) c.segment_chain.ensures
    (subst (λ n. (k : ℕ) × IsSegmentOf c.args.map.now.chains c.args.f.segment n k) (sym (equal c.segment_chain.result c.segment_chain-2.result h)) c.segment_chain-2.ensures)
