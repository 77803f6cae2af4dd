use Rattle.std.proofs.Common.{◌≡◌, take, map}
use Rattle.tl_map_rules.specs.declared.entry.LandmarkEntry.{LandmarkEntry}
use Rattle.tl_map.proofs.left.lands_of.Given as goal

abbrev pub invariant-loop-landmark : goal.invariant-loop-landmark
invariant-loop-landmark l = l.made.items ≡ map (λ (x : LandmarkEntry). x.land) (take l.landmark-index l.landmarks)
