-- All faults of a map, in their order.
use Rattle.std.specs.Prelude.{◌≡◌, ◌≢◌, ℕ, pos, Bool, List, [], ◌++◌, map, length, ◌⊎◌, IsTrue, All}
use Rattle.std.specs.Option.{unwrap_or}
use Rattle.tl_geom.specs.declared.point.Point.{Point}
use Rattle.tl_map_county.specs.TheMap.{TheMap, MapChain}
use Rattle.tl_map_county.specs.Darts.{dart_start}
use Rattle.tl_check_planar.specs.declared.meet.Meet.{Meet}
use Rattle.tl_check_planar.specs.Planar.{IsPlanar}
use Rattle.tl_check_sides.specs.declared.fault.Disagreement.{Disagreement}
use Rattle.tl_check_sides.specs.Sides.{SidesAgree}
use Rattle.tl_check_sides.specs.declared.cells.at_odds.CellsAtOdds.{CellsAtOdds}
use Rattle.tl_check_inside.specs.declared.misplaced.Misplaced.{Misplaced}
use Rattle.tl_check_planar.specs.Listing.Meets.{AreAllMeets}
use Rattle.tl_check_sides.specs.Listing.Disagreements.{AreAllDisagreements}
use Rattle.tl_check_sides.specs.Listing.Touched.{IsTouched, AreAllTouched}
use Rattle.tl_check_sides.specs.Listing.CellOdds.{AreAllCellsAtOdds}
use Rattle.tl_check_points.specs.Listing.AllMisplaced.{AreAllMisplaced}
use Rattle.tl_check_faces.specs.declared.fault.FaceFault.{FaceFault}
use Rattle.tl_check_faces.specs.Faults.{IsTrueFaceFault}
use Rattle.tl_check_faces.specs.Truth.{AreFacesTrue}
use Rattle.tl_check_faces.specs.AllFaults.{AreAllFaceFaults}
use Rattle.tl_check_verdict.specs.Truth.{IsTrueOfMap}
use Rattle.tl_check_verdict.specs.declared.fault.MapFault.{MapFault}
use Rattle.tl_check_verdict.specs.declared.fault.MapFault.TheVariants as fault

-- where no dart starts
abbrev pub nowhere : Point
nowhere = record { x = pos 0; y = pos 0 }

-- the point where a dart starts: each dart that is told starts somewhere
abbrev pub start_of : List MapChain → ℕ → Point
start_of chains dart = unwrap_or (dart_start chains dart) nowhere

-- sides that disagree, told with the node about which they do
abbrev pub side_fault : List MapChain → Disagreement → MapFault
side_fault chains d = fault.Side (start_of chains d.first) d.first d.next

-- all faults of a map but those of faces: each two segments that meet, all sides that disagree, all zero-cell ids that are at odds, and
-- all that is wrong with where polygons' points lie. Sides that disagree touch the polygons that they name, since one of them may be wrong,
-- and shift the counts of that one and of another at all points to the west: of touched polygons it isn't told that their points are outside
-- of them, nor that other points are in them.
pub record AreMapFaults (m : TheMap) (faults : List MapFault) (touched : ℕ) : Type 0 where
  pub meets : List Meet
  pub sides : List Disagreement
  pub cells : List CellsAtOdds
  pub points : List Misplaced
  pub named : List ℕ
  pub all_meets : AreAllMeets m.chains meets
  pub all_sides : AreAllDisagreements m.chains sides
  pub all_cells : AreAllCellsAtOdds m.chains cells
  pub all_points : AreAllMisplaced (IsTouched m.chains) m points
  pub all_named : AreAllTouched m.chains named
  pub count : touched ≡ length named
  pub are : faults ≡ map fault.Meet meets ++ map (side_fault m.chains) sides ++ map fault.Cell cells ++ map fault.PolygonPoint points

-- faces are looked at: they are asked for, chains are planar, and sides agree about nodes
abbrev pub AreLookedAt : (faces : Bool) → TheMap → Type 0
AreLookedAt faces m = IsTrue faces × (IsPlanar m.chains × SidesAgree m.chains)

-- all faults of faces: one of each two segments that face one another along a line of one height and name different sides there, and of
-- each that doesn't name the outside where nothing is beside it. So faces aren't true where there is one
pub record AreFaceFaults (m : TheMap) (told : List FaceFault) : Type 0 where
  pub true_ones : All (IsTrueFaceFault m) told
  pub all : AreAllFaceFaults m told
  pub untrue : told ≢ [] → ¬ AreFacesTrue m.chains

-- all faults of faces where these are looked at, and else none
abbrev pub AreFacesTold : (faces : Bool) → TheMap → List FaceFault → Type 0
AreFacesTold faces m told = (AreLookedAt faces m × AreFaceFaults m told) ⊎ ((¬ AreLookedAt faces m) × (told ≡ []))

-- all faults of a map where faces may be asked for: those of faces come behind all others
pub record AreFaultsFor (faces : Bool) (m : TheMap) (faults : List MapFault) (touched : ℕ) : Type 0 where
  pub others : List MapFault
  pub told : List FaceFault
  pub all_others : AreMapFaults m others touched
  pub all_faces : AreFacesTold faces m told
  pub are : faults ≡ others ++ map fault.Face told

-- What a fault among others says of a map: what it says alone; but that faces disagree is said of them wherever they are looked at, whatever
-- else is wrong.
abbrev pub IsTrueAmong : (faces : Bool) → TheMap → MapFault → Type 0
IsTrueAmong faces m (fault.Face told) = AreLookedAt faces m × (IsTrueFaceFault m told × ¬ AreFacesTrue m.chains)
IsTrueAmong faces m other = IsTrueOfMap m other
