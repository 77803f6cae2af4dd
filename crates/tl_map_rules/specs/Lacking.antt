-- Records of the types that every county has, and of which of them there is none.
use Rattle.std.specs.Prelude.{◌≤◌, ◌==◌, Bool, false, ◌||◌, if◌then◌else◌, List, length}
use Rattle.tl_record.specs.declared.record.Record.{Record}
use Rattle.tl_map_rules.specs.declared.fault.RecordFault.{RecordFault}
use Rattle.tl_map_rules.specs.declared.fault.RecordFault.TheVariants.{DuplicateChain, ShapeWithoutChain, ShapeSequence, ShapeGap, ChainWithoutSides, SidesWithoutChain, DuplicateSides, DuplicatePolygon, SideWithoutPolygon, LinkWithoutLandmark, LinkWithoutPolygon, DegenerateChain, TooMany}
use Rattle.tl_map_rules.specs.declared.lacking.Lacking.{Lacking}
use Rattle.tl_map_rules.specs.ChainsOf.{chain_count}
use Rattle.tl_map_rules.specs.MapOf.{sides_in, polygons_in}

-- there is a record of each of the types 1, I and P
pub record IsComplete (rs : List Record) : Type 0 where
  pub chains : 1 ≤ chain_count rs
  pub sides : 1 ≤ length (sides_in rs)
  pub polygons : 1 ≤ length (polygons_in rs)

-- of which of them there is none
abbrev pub lacking_in : List Record → Lacking
lacking_in rs = record { chains = chain_count rs == 0; sides = length (sides_in rs) == 0; polygons = length (polygons_in rs) == 0 }

-- there is one of each, or none is asked for
abbrev pub nothing_lacking : Lacking
nothing_lacking = record { chains = false; sides = false; polygons = false }

-- of which of them there is none, where some of each is asked for
abbrev pub lacking_where : Bool → List Record → Lacking
lacking_where asked rs = if asked then lacking_in rs else nothing_lacking

-- is there none of some type
abbrev pub lacks : Lacking → Bool
lacks l = l.chains || (l.sides || l.polygons)

-- is the record that the fault misses of a type of which there is none
abbrev pub explains : Lacking → RecordFault → Bool
explains l (DuplicateChain t) = false
explains l (ShapeWithoutChain t) = l.chains
explains l (ShapeSequence t) = false
explains l (ShapeGap t) = false
explains l (ChainWithoutSides t) = l.sides
explains l (SidesWithoutChain t) = l.chains
explains l (DuplicateSides t) = false
explains l (DuplicatePolygon k) = false
explains l (SideWithoutPolygon t k) = l.polygons
explains l (LinkWithoutLandmark n) = false
explains l (LinkWithoutPolygon k n) = l.polygons
explains l (DegenerateChain t) = false
explains l (TooMany what) = false
