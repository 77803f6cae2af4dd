-- Kept on the way: keys of polygons in their order, and the faults that they tell.
use Rattle.std.specs.Prelude.{ℕ, List}
use Rattle.std.specs.declared.cmp.Ordering.{Ordering}
use Rattle.std.specs.Ordering.{ordering_then, nat_cmp}
use Rattle.std.specs.Cmp.Lexicographic.{slice_cmp}
use Rattle.std.specs.List.Sorted.{IsSortedByKey}
use Rattle.tl_record_key.specs.declared.key.PolyKey.{PolyKey}
use Rattle.tl_map_rules.specs.declared.entry.LinkEntry.{LinkEntry}
use Rattle.tl_map_rules.specs.declared.fault.RecordFault.{RecordFault}
use Rattle.tl_map_rules.specs.declared.fault.RecordFault.TheVariants.{SideWithoutPolygon, LinkWithoutPolygon}
use Rattle.tl_map_rules.specs.declared.listing.kept.NamedSide.{NamedSide}

-- both parts of a key
abbrev pub parts : PolyKey → ℕ × List ℕ
parts k = (k.polyid, k.cenid)

-- by POLYID, and within one POLYID by CENID
abbrev pub parts_cmp : ℕ × List ℕ → ℕ × List ℕ → Ordering
parts_cmp p q = ordering_then (nat_cmp p.0 q.0) (slice_cmp nat_cmp p.1 q.1)

-- no key stands before a lower one
abbrev pub AreByKey : List PolyKey → Type 0
AreByKey keys = IsSortedByKey parts parts_cmp keys

-- a side names a key that no type P record has
abbrev pub side_fault : NamedSide → RecordFault
side_fault n = SideWithoutPolygon n.tlid n.key

-- a link has a key that no type P record has
abbrev pub link_fault : LinkEntry → RecordFault
link_fault l = LinkWithoutPolygon l.key l.land
