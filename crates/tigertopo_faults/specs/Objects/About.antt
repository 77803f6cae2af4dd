-- What a fault is about, beside the TLIDs, the polygons and the LAND that it names.
use Rattle.std.specs.Prelude.{ℕ, Bool, true, false, List, [], ◌++◌, Option, None, Some, codes, decimal}
use Rattle.std.specs.Fmt.{signed_decimal}
use Rattle.tl_geom.specs.declared.point.Point.{Point}
use Rattle.tl_record_key.specs.declared.key.PolyKey.{PolyKey}
use Rattle.tl_map_rules.specs.declared.fault.Limited.{Limited}
use Rattle.tl_map_rules.specs.declared.lacking.Lacking.{Lacking}
use Rattle.tl_map_rules.specs.Messages.{limited_text}
use Rattle.tl_check_faces.specs.declared.fault.NamedFace.{NamedFace}
use Rattle.tl_check_faces.specs.declared.fault.FaceFault.{FaceFault}
use Rattle.tl_check_faces.specs.declared.fault.FaceFault.TheVariants.{Facing, Outward}
use Rattle.tl_check_faces.specs.FaultTexts.{way_text}
use Rattle.tl_check_verdict.specs.declared.rows.About.{About}
use Rattle.tl_check_verdict.specs.declared.rows.About.TheVariants.{Records, Meet, Darts, Cells, Faces}
use Rattle.tl_map_rules.specs.declared.rows.AboutRecords.TheVariants.{Limit, Types}
use Rattle.tigertopo_pictures.specs.Geojson.Strings.{key_string}
use Rattle.tigertopo_faults.specs.Objects.Places.{fractions_text}

-- a list of two numbers
unfoldable pub pair_text : (name : List ℕ) → ℕ → ℕ → List ℕ
pair_text name one other = name ++ codes "[" ++ decimal one ++ codes "," ++ decimal other ++ codes "]"

-- what there are too many of
abbrev pub limit_text : Limited → List ℕ
limit_text what = codes ",\"limit\":\"" ++ limited_text what ++ codes "\""

-- the types of which there is no record
abbrev pub type_strings : (chains sides polygons : Bool) → List ℕ
type_strings true true true = codes "\"1\",\"I\",\"P\""
type_strings true true false = codes "\"1\",\"I\""
type_strings true false true = codes "\"1\",\"P\""
type_strings true false false = codes "\"1\""
type_strings false true true = codes "\"I\",\"P\""
type_strings false true false = codes "\"I\""
type_strings false false true = codes "\"P\""
type_strings false false false = []

abbrev pub lacking_members : Lacking → List ℕ
lacking_members lacking = codes ",\"types\":[" ++ type_strings lacking.chains lacking.sides lacking.polygons ++ codes "]"

-- the point of a node, in whole millionths of a degree
unfoldable pub node_text : Point → List ℕ
node_text node = codes ",\"node\":[" ++ signed_decimal node.x ++ codes "," ++ signed_decimal node.y ++ codes "]"

-- what a chain names on a side: the key of a polygon, or null outside
abbrev pub named_text : Option PolyKey → List ℕ
named_text None = codes "null"
named_text (Some key) = key_string key

-- a chain, what it names on a side, and a place of it
unfoldable pub face_text : NamedFace → List ℕ
face_text face =
    codes "{\"tlid\":" ++ decimal face.tlid ++ codes ",\"polygon\":" ++ named_text face.polygon ++ codes ",\"at\":" ++ fractions_text face.at ++ codes "}"

-- faces that disagree: two that face one another, or one with nothing beyond it, and the way there
abbrev pub faces_text : FaceFault → List ℕ
faces_text (Facing first last) = codes ",\"faces\":[" ++ face_text first ++ codes "," ++ face_text last ++ codes "]"
faces_text (Outward face way) = codes ",\"faces\":[" ++ face_text face ++ codes "],\"outside\":\"" ++ way_text way ++ codes "\""

-- the segments by their numbers through all chains, the node, the darts, the ids of zero-cells, the faces, what there are too many of, or
-- the types of which there is no record
abbrev pub details_text : About → List ℕ
details_text (Records (Limit what)) = limit_text what
details_text (Records (Types lacking)) = lacking_members lacking
details_text (Meet meet) = pair_text (codes ",\"segments\":") meet.s meet.t
details_text (Darts node first next) = node_text node ++ pair_text (codes ",\"darts\":") first next
details_text (Cells odds) = pair_text (codes ",\"darts\":") odds.first odds.second ++ pair_text (codes ",\"ids\":") odds.first_id odds.second_id
details_text (Faces fault) = faces_text fault
details_text other = []
