use Rattle.std.proofs.Common.{◌≡◌, ℕ, List, length}
use Rattle.tl_record_key.specs.declared.key.PolyKey.{PolyKey}
use Rattle.tl_map.specs.Keeping.Index.{Indexes}
use Rattle.tl_map.specs.Keeping.Landmarks.{IndexesLands, AreLinks}
use Rattle.tl_map.proofs.landmarks.resolve_links.Given as goal

abbrev pub invariant-loop-link : goal.invariant-loop-link
invariant-loop-link l = record {
  count : length l.made.items ≡ l.link-index;
  are : (ks : List PolyKey) (ns : List ℕ) → Indexes ks l.polygons → IndexesLands ns l.landmarks → AreLinks ks ns l.links l.made.items;
}
