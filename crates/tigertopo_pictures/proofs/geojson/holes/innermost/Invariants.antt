use Rattle.std.proofs.Common.{ℕ, List, ◌<◌, ◌-◌, length, map}
use Rattle.std.specs.Prelude.{slice_index}
use Rattle.tigertopo_pictures.specs.Groups.{GoesThrough}
use Rattle.tigertopo_pictures.proofs.GeojsonLemmas.HoleLemmas.{IsOnTheWayIn}
use Rattle.tigertopo_pictures.proofs.geojson.holes.innermost.Given as goal

abbrev pub invariant-loop-at : goal.invariant-loop-at
invariant-loop-at l = record {
  way : (ns : List ℕ) → GoesThrough l.outers.next (slice_index l.outers.next l.first) ns
      → IsOnTheWayIn l.map.chains (map (λ w. w.items) l.walks) l.q l.first l.outers.next l.at ns l.found;
  within : l.found < length l.walks;
}

abbrev pub decreases-loop-at : goal.decreases-loop-at
decreases-loop-at l = length l.outers.next - l.at
