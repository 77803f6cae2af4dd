use Rattle.std.specs.Prelude.{nat_eq}
use Rattle.indexmap.specs.IndexMap.{IsUnique}
use Rattle.tl_map.proofs.LandmarkLemmas.{Listing}
use Rattle.tl_map.proofs.landmarks.first_landmarks.Given as goal

abbrev pub invariant-loop-entry : goal.invariant-loop-entry
invariant-loop-entry l = record {
  listing : Listing l.entries l.entry-index l.firsts.entries;
  unique : IsUnique nat_eq l.firsts;
}
