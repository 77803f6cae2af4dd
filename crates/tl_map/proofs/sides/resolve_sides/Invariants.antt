use Rattle.std.proofs.Common.{◌≡◌, ℕ, ◌<◌, List, map, take, get_or}
use Rattle.tl_record_key.specs.declared.key.PolyKey.{PolyKey}
use Rattle.tl_map_rules.specs.declared.entry.SidesEntry.{SidesEntry}
use Rattle.tl_map.specs.Keeping.Index.{Indexes}
use Rattle.tl_map.specs.Keeping.Sided.{sided_by, NamesKnown}
use Rattle.tl_map.proofs.sides.resolve_sides.Given as goal

abbrev pub invariant-loop-place : goal.invariant-loop-place
invariant-loop-place l = record {
  sides : (ks : List PolyKey) → Indexes ks l.index → l.sides ≡ map (sided_by ks) (take l.place l.entries);
  known : (ks : List PolyKey) → Indexes ks l.index → (j : ℕ) (d : SidesEntry) → j < l.place → NamesKnown ks (get_or l.entries j d);
}
