-- What is told of a map.
use Rattle.std.specs.Prelude.{◌≡◌, ◌≢◌, ℕ, Bool, IsTrue, List, [], ◌++◌, map, Contains}
use Rattle.tl_map_county.specs.TheMap.{TheMap}
use Rattle.tl_check_sides.specs.declared.fault.Disagreement.{Disagreement}
use Rattle.tl_check_sides.specs.declared.cells.at_odds.CellsAtOdds.{CellsAtOdds}
use Rattle.tl_check_inside.specs.declared.misplaced.Misplaced.{Misplaced}
use Rattle.tl_check_faces.specs.declared.fault.FaceFault.{FaceFault}
use Rattle.tl_check_faces.specs.Facing.{FacesAgree}
use Rattle.tl_check_sides.specs.Listing.Disagreements.{AreAllDisagreements}
use Rattle.tl_check_sides.specs.Listing.Touched.{AreAllTouched}
use Rattle.tl_check_sides.specs.Listing.CellOdds.{AreAllCellsAtOdds}
use Rattle.tl_check_points.specs.Listing.AllMisplaced.{AreAllMisplaced}
use Rattle.tl_check_verdict.specs.declared.fault.MapFault.{MapFault}
use Rattle.tl_check_verdict.specs.declared.fault.MapFault.TheVariants as fault
use Rattle.tl_check_verdict.specs.Truth.{IsTrueOfMap}
use Rattle.tl_decide.specs.declared.asked.Told.{Told}
use Rattle.tl_decide.specs.MapFaults.{side_fault, AreMapFaults, AreFaceFaults, AreFacesTold}

-- there are faults, and these are all of them but those of faces
abbrev pub AreTold : TheMap → Told → Type 0
AreTold m told = (told.faults.items ≢ []) × AreMapFaults m told.faults.items told.touched

-- these are all faults but those of faces, and no polygon is touched
abbrev pub AreAgreeing : TheMap → List MapFault → Type 0
AreAgreeing m faults = AreMapFaults m faults 0

-- some fault is true of the map
abbrev pub IsFaulty : TheMap → Type 0
IsFaulty m = (fault : MapFault) × IsTrueOfMap m fault

-- to the faults are appended all that tells whether sides and zero-cell ids agree; these polygons are touched
pub record AddsAgreement (m : TheMap) (touched : List ℕ) (old new : List MapFault) : Type 0 where
  pub sides : List Disagreement
  pub cells : List CellsAtOdds
  pub all_sides : AreAllDisagreements m.chains sides
  pub all_cells : AreAllCellsAtOdds m.chains cells
  pub all_touched : AreAllTouched m.chains touched
  pub are : new ≡ old ++ map (side_fault m.chains) sides ++ map fault.Cell cells

-- all that is wrong with where polygons' points lie is appended, but what hangs on hidden polygons
pub record AddsPoints (Hidden : ℕ → Type 0) (m : TheMap) (old new : List MapFault) : Type 0 where
  pub points : List Misplaced
  pub all_points : AreAllMisplaced Hidden m points
  pub are : new ≡ old ++ map fault.PolygonPoint points

-- all zero-cell ids that are at odds are appended
pub record AddsCells (m : TheMap) (old new : List MapFault) : Type 0 where
  pub cells : List CellsAtOdds
  pub all_cells : AreAllCellsAtOdds m.chains cells
  pub are : new ≡ old ++ map fault.Cell cells

-- all that is wrong but meets is appended; these polygons are touched
pub record AddsRest (m : TheMap) (touched : List ℕ) (old new : List MapFault) : Type 0 where
  pub between : List MapFault
  pub agreement : AddsAgreement m touched old between
  pub points : AddsPoints (Contains touched) m between new

-- all faces that disagree are appended; where there is none they agree
pub record AddsFaces (m : TheMap) (old new : List MapFault) : Type 0 where
  pub told : List FaceFault
  pub all : AreFaceFaults m told
  pub agree : told ≡ [] → FacesAgree m.chains
  pub are : new ≡ old ++ map fault.Face told

-- the same where faces may be asked for
pub record AddsFacesFor (faces : Bool) (m : TheMap) (old new : List MapFault) : Type 0 where
  pub told : List FaceFault
  pub all : AreFacesTold faces m told
  pub agree : IsTrue faces → told ≡ [] → FacesAgree m.chains
  pub are : new ≡ old ++ map fault.Face told
