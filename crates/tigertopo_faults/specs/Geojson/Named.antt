-- What a fault names: TLIDs, polygons' keys and a LAND.
use Rattle.std.specs.Prelude.{ℕ, List, ◌++◌, Option, None, Some, option_to_list}
use Rattle.tl_record_key.specs.declared.key.PolyKey.{PolyKey}
use Rattle.tl_map_county.specs.TheMap.{MapChain}
use Rattle.tl_check_faces.specs.declared.fault.FaceFault.TheVariants.{Facing, Outward}
use Rattle.tl_check_verdict.specs.declared.rows.About.{About}
use Rattle.tl_check_verdict.specs.declared.rows.About.TheVariants.{Records, Meet, Darts, PolygonAlone, PolygonTlid, PolygonOther, Cells, Faces}
use Rattle.tl_map_rules.specs.declared.rows.AboutRecords.{AboutRecords}
use Rattle.tl_map_rules.specs.declared.rows.AboutRecords.TheVariants.{Tlid, Polygon, TlidPolygon, Land, PolygonLand}
use Rattle.tigertopo_faults.specs.Records.SpokenOf.{tlid_of, other_tlid}

-- one thing or two, or none
abbrev pub Pair : Type 0 → Type 0
Pair X = Option X × Option X

-- what a pair has, in a list
abbrev pub listed : {X : Type 0} → Pair X → List X
listed pair = option_to_list pair.0 ++ option_to_list pair.1

-- two TLIDs, each once
abbrev pub each_once : Option ℕ → Option ℕ → Pair ℕ
each_once tlid other = (tlid, other_tlid tlid other)

-- the TLID that is named where a fault is of records
abbrev pub tlid_about : AboutRecords → Option ℕ
tlid_about (Tlid t records) = Some t
tlid_about (TlidPolygon t k) = Some t
tlid_about other = None

-- the TLIDs that a fault names, each once; for a dart that of its chain, where these are the map's chains
abbrev pub tlids_of : List MapChain → About → Pair ℕ
tlids_of chains (Records it) = (tlid_about it, None)
tlids_of chains (Meet meet) = each_once (Some meet.tlid) (Some meet.other)
tlids_of chains (Darts node first next) = each_once (tlid_of chains first) (tlid_of chains next)
tlids_of chains (PolygonAlone k) = (None, None)
tlids_of chains (PolygonTlid k t) = (Some t, None)
tlids_of chains (PolygonOther k other) = (None, None)
tlids_of chains (Cells odds) = each_once (tlid_of chains odds.first) (tlid_of chains odds.second)
tlids_of chains (Faces (Facing first last)) = each_once (Some first.tlid) (Some last.tlid)
tlids_of chains (Faces (Outward face way)) = (Some face.tlid, None)

-- the key that is named where a fault is of records
abbrev pub key_about : AboutRecords → Option PolyKey
key_about (Polygon k) = Some k
key_about (TlidPolygon t k) = Some k
key_about (PolygonLand k n) = Some k
key_about other = None

-- the keys that it names
abbrev pub keys_of : About → Pair PolyKey
keys_of (Records it) = (key_about it, None)
keys_of (PolygonAlone k) = (Some k, None)
keys_of (PolygonTlid k t) = (Some k, None)
keys_of (PolygonOther k other) = (Some k, Some other)
keys_of (Faces (Facing first last)) = (first.polygon, last.polygon)
keys_of (Faces (Outward face way)) = (face.polygon, None)
keys_of other = (None, None)

-- the LAND that it names
abbrev pub land_of : About → Option ℕ
land_of (Records (Land n)) = Some n
land_of (Records (PolygonLand k n)) = Some n
land_of other = None
