-- What is decided of a map, of which a first fault is asked for or all.
use Rattle.std.specs.Prelude.{◌≡◌, ◌↔◌, ◌<◌, ◌^◌, ⊤, ℕ, Bool, false, true, IsTrue, List, [], ◌∷◌, length, map}
use Rattle.tl_map_county.specs.TheMap.{TheMap}
use Rattle.tl_check_planar.specs.Planar.{IsPlanar}
use Rattle.tl_check_sides.specs.Sides.{SidesAgree}
use Rattle.tl_check_sides.specs.Walks.{AreWalks}
use Rattle.tl_check_verdict.specs.declared.fault.MapFault.{MapFault}
use Rattle.tl_check_verdict.specs.declared.fault.MapFault.TheVariants as fault
use Rattle.tl_check_verdict.specs.Sound.{IsSound, IsSoundFor}
use Rattle.tl_check_verdict.specs.Truth.{IsTrueOfMapFor}
use Rattle.tl_decide.specs.declared.asked.Asked.{Asked}
use Rattle.tl_decide.specs.declared.asked.Decided.{Decided}
use Rattle.tl_decide.specs.declared.asked.Depth.{Depth}
use Rattle.tl_decide.specs.declared.asked.Depth.TheVariants.{First, All}
use Rattle.tl_decide.specs.MapFaults.{AreFaultsFor}

-- the fault is of faces
abbrev pub is_of_faces : MapFault → Bool
is_of_faces (fault.Records told) = false
is_of_faces (fault.NoRecords lacking) = false
is_of_faces (fault.Meet meet) = false
is_of_faces (fault.Side node first next) = false
is_of_faces (fault.PolygonPoint told) = false
is_of_faces (fault.Cell odds) = false
is_of_faces (fault.Face told) = true

-- the first of these faults is: those of faces come behind all others, so all are
abbrev pub begins_with_faces : List MapFault → Bool
begins_with_faces [] = false
begins_with_faces (first ∷ rest) = is_of_faces first

-- one fault, which is true of the map, or none
abbrev pub IsOneIfAny : (faces : Bool) → TheMap → List MapFault → Type 0
IsOneIfAny faces m [] = ⊤
IsOneIfAny faces m (told ∷ []) = IsTrueOfMapFor faces m told
IsOneIfAny faces m (told ∷ other ∷ rest) = ⊥

-- what is told of a map at this depth: one fault, or all of them, in order, so many polygons being touched. Where all are of faces, the map is
-- sound otherwise.
abbrev pub AreToldAt : Depth → (faces : Bool) → TheMap → List MapFault → (touched : ℕ) → Type 0
AreToldAt First faces m faults touched = IsOneIfAny faces m faults
AreToldAt All faces m faults touched = AreFaultsFor faces m faults touched × (IsTrue (begins_with_faces faults) → IsSound m)

-- faults are told at this depth, and none exactly where the map keeps what is asked of it
pub record AreDecided (depth : Depth) (faces : Bool) (m : TheMap) (faults : List MapFault) (touched : ℕ) : Type 0 where
  pub exact : (faults ≡ []) ↔ IsSoundFor faces m
  pub told : AreToldAt depth faces m faults touched

-- sides agree, and the map's boundaries have so many rings
pub record HasRings (m : TheMap) (rings : ℕ) : Type 0 where
  pub agree : SidesAgree m.chains
  pub walks : List (List ℕ)
  pub are : AreWalks m.chains walks
  pub counted : rings ≡ length walks

-- these are the map's walks, and so many
pub record AreRings (m : TheMap) (rings : ℕ) (walks : List (List ℕ)) : Type 0 where
  pub are : AreWalks m.chains walks
  pub counted : rings ≡ length walks
  pub few : length walks < 2 ^ 32

-- what is decided of a map of which this is asked: its faults, and where chains are planar and sides agree, how many rings there are, and these,
-- where they are asked for
pub record IsDecided (asked : Asked) (m : TheMap) (decided : Decided) : Type 0 where
  pub faults : AreDecided asked.depth asked.faces m decided.faults.items decided.touched
  pub rings : IsPlanar m.chains → SidesAgree m.chains → HasRings m decided.rings
  pub walks : IsTrue asked.walks → IsPlanar m.chains → SidesAgree m.chains → AreRings m decided.rings (map (λ w. w.items) decided.walks.items)
