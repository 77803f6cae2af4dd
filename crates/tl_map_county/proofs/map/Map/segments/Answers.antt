use Rattle.std.proofs.Common.{arith}
use Rattle.tl_map_county.proofs.SegmentLemmas.{all_numbered}
use Rattle.tl_map_county.proofs.map.Map.segments.Goals as goal

pub returns-clause-count : goal.returns-clause-count
returns-clause-count c =
    let all = all_numbered c.self.inside.chains.chains c.self.inside.sides c.self.inside.segment_chains.items c.self.invariant.0 c.self.invariant.5 in
    rw (← c.self.view_is) (omega (arith, c.len.ensures, c.self.inside.segment_chains.ok.0, all))

pub returns-clause-few : goal.returns-clause-few
returns-clause-few c = omega (arith, c.len.ensures, c.self.inside.segment_chains.ok.0, c.self.invariant.9)
