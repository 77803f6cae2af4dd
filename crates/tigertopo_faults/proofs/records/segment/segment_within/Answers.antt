use Rattle.std.proofs.Common.{ℕ, sym, ap}
use Rattle.std.specs.Prelude.{option_map}
use Rattle.tigertopo_faults.proofs.SegmentLemmas.{no_place, at_most}
use Rattle.tigertopo_faults.proofs.records.segment.segment_within.Goals as goal

pub returns-in_default : goal.returns-in_default
returns-in_default c =
    rw c.in-Some.is (sym (ap (option_map (λ (place : ℕ × ℕ). place.1))
    (no_place c.in-Some.map.now.chains c.args.segment (at_most _ _ _ c.segments.ensures.count c.if-segment-segments.false))))
