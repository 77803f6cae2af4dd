-- What is printed of a fault of a map and of a certificate, and of a sound map.
use Rattle.std.specs.Prelude.{ℕ, List, ◌++◌, Option, None, Some, codes, decimal}
use Rattle.std.specs.Fmt.{signed_decimal}
use Rattle.tl_geom.specs.declared.point.Point.{Point}
use Rattle.tl_record_key.specs.KeyText.{key_text}
use Rattle.tl_map_rules.specs.Messages.{about_records_text}
use Rattle.tl_map_rules.specs.Rows.{Row}
use Rattle.tl_check_faces.specs.declared.fault.FaceFault.TheVariants.{Facing, Outward}
use Rattle.tl_check_faces.specs.FaultTexts.{rational_text, named_face_text, way_text}
use Rattle.tl_tree_index.specs.declared.fault.TreeFault.{TreeFault}
use Rattle.tl_tree_index.specs.declared.fault.TreeFault.TheVariants.{UnknownIndex, IndexTwice, IndexMissing, RectTooSmall}
use Rattle.tl_check_sides.specs.declared.fault.RoundFault.{RoundFault}
use Rattle.tl_check_sides.specs.declared.fault.RoundFault.TheVariants as round
use Rattle.tl_check_sides.specs.declared.fault.WalkFault.{WalkFault}
use Rattle.tl_check_sides.specs.declared.fault.WalkFault.TheVariants as walk
use Rattle.tl_check_verdict.specs.declared.fault.MapFault.{MapFault}
use Rattle.tl_check_verdict.specs.declared.rows.About.{About}
use Rattle.tl_check_verdict.specs.declared.rows.About.TheVariants as about
use Rattle.tl_check_verdict.specs.Rows.{row}
use Rattle.tl_check_verdict.specs.declared.fault.CertFault.{CertFault}
use Rattle.tl_check_verdict.specs.declared.fault.CertFault.TheVariants.{Text, Counts, Tree, TooDeep, Round, Walk}
use Rattle.tl_check_verdict.specs.declared.verdict.Report.{Report}

-- a segment: the TLID of its chain, and its number among all segments
abbrev pub segment_text : ℕ → ℕ → List ℕ
segment_text tlid s = codes "tlid " ++ decimal tlid ++ codes " segment " ++ decimal s

-- the point of a node: its longitude and its latitude
abbrev pub node_text : Point → List ℕ
node_text p = signed_decimal p.x ++ codes " " ++ signed_decimal p.y

-- what a fault is about, behind its name
abbrev pub about_text : About → List ℕ
about_text (about.Records it) = about_records_text it
about_text (about.Meet meet) =
    codes " " ++ segment_text meet.tlid meet.s ++ codes " " ++ segment_text meet.other meet.t ++ codes " at " ++ rational_text meet.at
about_text (about.Darts node first next) = codes " at " ++ node_text node ++ codes " darts " ++ decimal first ++ codes " " ++ decimal next
about_text (about.PolygonAlone k) = codes " polygon " ++ key_text k
about_text (about.PolygonTlid k t) = codes " polygon " ++ key_text k ++ codes " tlid " ++ decimal t
about_text (about.PolygonOther k other) = codes " polygon " ++ key_text k ++ codes " other " ++ key_text other
about_text (about.Cells odds) =
    codes " darts " ++ decimal odds.first ++ codes " " ++ decimal odds.second ++ codes " ids " ++ decimal odds.first_id ++ codes " " ++ decimal odds.second_id
about_text (about.Faces (Facing first last)) = codes " " ++ named_face_text first ++ codes " " ++ named_face_text last
about_text (about.Faces (Outward face way)) = codes " " ++ named_face_text face ++ codes " outside " ++ way_text way

-- the code and the name of a fault, and what it is about
abbrev pub row_text : Row About → List ℕ
row_text row = row.0 ++ codes " " ++ row.1 ++ about_text row.2

-- the same of a map's fault, behind what each has in front
abbrev pub map_fault_text : MapFault → List ℕ
map_fault_text fault = codes "map fault " ++ row_text (row fault)

-- how many polygons are touched by sides that don't agree: of these it isn't looked at whether points lie in them or outside
abbrev pub touched_words : ℕ → List ℕ
touched_words touched = codes "touched polygons=" ++ decimal touched ++ codes " not looked at"

-- what is wrong with a tree, and at which index or node
abbrev pub tree_text : TreeFault → List ℕ
tree_text (UnknownIndex i) = codes "UnknownIndex " ++ decimal i
tree_text (IndexTwice i) = codes "IndexTwice " ++ decimal i
tree_text (IndexMissing i) = codes "IndexMissing " ++ decimal i
tree_text (RectTooSmall n) = codes "RectTooSmall " ++ decimal n

-- what is wrong with rounds, and at which dart or round
abbrev pub round_text : RoundFault → List ℕ
round_text (round.UnknownDart d) = codes "UnknownDart " ++ decimal d
round_text (round.DartTwice d) = codes "DartTwice " ++ decimal d
round_text (round.DartMissing d) = codes "DartMissing " ++ decimal d
round_text (round.StartsElsewhere r) = codes "StartsElsewhere " ++ decimal r
round_text (round.NodeRepeated r) = codes "NodeRepeated " ++ decimal r
round_text (round.OrderNotRising r) = codes "OrderNotRising " ++ decimal r

-- what is wrong with walks, and at which dart or walk
abbrev pub walk_text : WalkFault → List ℕ
walk_text (walk.UnknownDart d) = codes "UnknownDart " ++ decimal d
walk_text (walk.DartTwice d) = codes "DartTwice " ++ decimal d
walk_text (walk.DartMissing d) = codes "DartMissing " ++ decimal d
walk_text (walk.WrongStep w) = codes "WrongStep " ++ decimal w
walk_text (walk.NotClosed w) = codes "NotClosed " ++ decimal w

-- a text, with a number behind it where there is one
abbrev pub numbered_text : List ℕ → Option ℕ → List ℕ
numbered_text name None = name
numbered_text name (Some number) = name ++ codes " " ++ decimal number

-- the code and the name of a certificate's fault, with what it is about
abbrev pub cert_fault_text : CertFault → List ℕ
cert_fault_text (Text line) = codes "certificate fault K1 Text line " ++ decimal line
cert_fault_text Counts = codes "certificate fault K2 Counts"
cert_fault_text (Tree fault) = codes "certificate fault K3 Tree " ++ tree_text fault
cert_fault_text TooDeep = codes "certificate fault K3 Tree TooDeep"
cert_fault_text (Round fault) = codes "certificate fault K4 Round " ++ round_text fault
cert_fault_text (Walk fault) = codes "certificate fault K5 Walk " ++ walk_text fault

-- the numbers of a sound map
abbrev pub report_text : Report → List ℕ
report_text r = codes "chains=" ++ (decimal r.chains ++ (codes " segments=" ++ (decimal r.segments ++ (codes " nodes=" ++ (decimal r.nodes
    ++ (codes " polygons=" ++ (decimal r.polygons ++ (codes " landmarks=" ++ (decimal r.landmarks ++ (codes " rings=" ++ decimal r.rings))))))))))
