use Rattle.std.proofs.Common.{◌≡◌, ℕ, ◌<◌, false, length, get_or}
use Rattle.tl_map_county.specs.Segments.{IsSegmentOf}
use Rattle.tl_check_planar.proofs.listing.meets.mark_segments.Given as goal

-- the segments so far have the marks of their chains
abbrev pub invariant-loop-s : goal.invariant-loop-s
invariant-loop-s l = record {
  long : length l.segments.items ≡ l.s;
  are : (t d j : ℕ) → t < l.s → IsSegmentOf l.map.chains t d j → get_or l.segments.items t false ≡ get_or l.marks d false;
}
