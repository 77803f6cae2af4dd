-- What each fault of the records says: its code, its name, and what it is about. No other place says this.
use Rattle.std.specs.Prelude.{ℕ, List, codes}
use Rattle.tl_map_rules.specs.declared.fault.RecordFault.{RecordFault}
use Rattle.tl_map_rules.specs.declared.fault.RecordFault.TheVariants.{DuplicateChain, ShapeWithoutChain, ShapeSequence, ShapeGap, ChainWithoutSides, SidesWithoutChain, DuplicateSides, DuplicatePolygon, SideWithoutPolygon, LinkWithoutLandmark, LinkWithoutPolygon, DegenerateChain, TooMany}
use Rattle.tl_map_rules.specs.declared.lacking.Lacking.{Lacking}
use Rattle.tl_map_rules.specs.declared.rows.AboutRecords.{AboutRecords}
use Rattle.tl_map_rules.specs.declared.rows.AboutRecords.TheVariants.{Tlid, Polygon, TlidPolygon, Land, PolygonLand, Limit, Types}
use Rattle.tl_map_rules.specs.declared.rows.Which.TheVariants.{Chain, Shape, Drawn, Sides}
use Rattle.tl_map_rules.specs.declared.rows.FaultRow.{FaultRow}

-- a code, a name, and what a fault is about
abbrev pub Row : Type 0 → Type 0
Row A = List ℕ × List ℕ × A

-- those of a row of the code
abbrev pub row_of : {A : Type 0} → FaultRow A → Row A
row_of row = (row.code.now, row.name.now, row.about)

-- what a fault of the records says
abbrev pub record_row : RecordFault → Row AboutRecords
record_row (DuplicateChain t) = (codes "M1", codes "DuplicateChain", Tlid t Chain)
record_row (ShapeWithoutChain t) = (codes "M2", codes "ShapeWithoutChain", Tlid t Shape)
record_row (ShapeSequence t) = (codes "M3", codes "ShapeSequence", Tlid t Shape)
record_row (ShapeGap t) = (codes "M4", codes "ShapeGap", Tlid t Shape)
record_row (ChainWithoutSides t) = (codes "M5", codes "ChainWithoutSides", Tlid t Chain)
record_row (SidesWithoutChain t) = (codes "M6", codes "SidesWithoutChain", Tlid t Sides)
record_row (DuplicateSides t) = (codes "M7", codes "DuplicateSides", Tlid t Sides)
record_row (DuplicatePolygon k) = (codes "M8", codes "DuplicatePolygon", Polygon k)
record_row (SideWithoutPolygon t k) = (codes "M9", codes "SideWithoutPolygon", TlidPolygon t k)
record_row (LinkWithoutLandmark n) = (codes "M10", codes "LinkWithoutLandmark", Land n)
record_row (LinkWithoutPolygon k n) = (codes "M11", codes "LinkWithoutPolygon", PolygonLand k n)
record_row (DegenerateChain t) = (codes "M12", codes "DegenerateChain", Tlid t Drawn)
record_row (TooMany what) = (codes "M13", codes "TooMany", Limit what)

-- what is said where there are no records of some type
abbrev pub lacking_row : Lacking → Row AboutRecords
lacking_row lacking = (codes "M14", codes "NoRecords", Types lacking)
