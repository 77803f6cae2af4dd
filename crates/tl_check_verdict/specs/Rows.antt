-- What each fault of a map says: its code, its name, and what it is about. Of faults of the records it is said in `tl_map_rules`.
use Rattle.std.specs.Prelude.{codes}
use Rattle.tl_map_rules.specs.declared.rows.AboutRecords.{AboutRecords}
use Rattle.tl_map_rules.specs.Rows.{Row, record_row, lacking_row}
use Rattle.tl_check_inside.specs.declared.misplaced.Misplaced.{Misplaced}
use Rattle.tl_check_inside.specs.declared.misplaced.Misplaced.TheVariants.{OnChain, Outside, InOther}
use Rattle.tl_check_verdict.specs.declared.fault.MapFault.{MapFault}
use Rattle.tl_check_verdict.specs.declared.fault.MapFault.TheVariants.{Records, NoRecords, Meet, Side, PolygonPoint, Cell, Face}
use Rattle.tl_check_verdict.specs.declared.rows.About.{About}
use Rattle.tl_check_verdict.specs.declared.rows.About.TheVariants as about

-- the row of a fault of the records
abbrev pub about_records : Row AboutRecords → Row About
about_records row = (row.0, row.1, about.Records row.2)

-- what a polygon's point that lies wrong says
abbrev pub point_row : Misplaced → Row About
point_row (OnChain k t) = (codes "G3", codes "PointOnChain", about.PolygonTlid k t)
point_row (Outside k) = (codes "G4", codes "PointOutside", about.PolygonAlone k)
point_row (InOther k other) = (codes "G5", codes "PointInOther", about.PolygonOther k other)

-- what a fault says
abbrev pub row : MapFault → Row About
row (Records fault) = about_records (record_row fault)
row (NoRecords lacking) = about_records (lacking_row lacking)
row (Meet meet) = (codes "G1", codes "Meet", about.Meet meet)
row (Side node first next) = (codes "G2", codes "Side", about.Darts node first next)
row (PolygonPoint misplaced) = point_row misplaced
row (Cell odds) = (codes "G6", codes "Cell", about.Cells odds)
row (Face fault) = (codes "G7", codes "FaceDisagree", about.Faces fault)
