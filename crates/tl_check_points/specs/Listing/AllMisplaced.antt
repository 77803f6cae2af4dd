-- All faults of the points of a map's polygons, in their order, but those that hang on sides which name a hidden polygon.
use Rattle.std.specs.Prelude.{⊤, ◌≡◌, ◌≢◌, ◌⊎◌, ℕ, ◌<◌, List, [], ◌∷◌, All, Contains}
use Rattle.std.specs.List.{AllPairs}
use Rattle.tl_geom.specs.declared.point.Point.{Point}
use Rattle.tl_record_key.specs.declared.key.PolyKey.{PolyKey}
use Rattle.tl_map_county.specs.TheMap.{TheMap}
use Rattle.tl_check_inside.specs.declared.misplaced.Misplaced.{Misplaced}
use Rattle.tl_check_inside.specs.declared.misplaced.Misplaced.TheVariants.{OnChain, Outside, InOther}
use Rattle.tl_check_inside.specs.Inside.{IsInside, IsClear}
use Rattle.tl_check_inside.specs.Places.{IsHeldBy}
use Rattle.tl_check_inside.specs.Placed.{IsPointOf, IsTrueMisplaced}

-- what faults are ordered by: the number of the polygon; 0 where its point is on a chain, 1 where it is outside, 2 where it
-- is in another polygon; and the number of that chain, 0, or the number of that polygon
pub record FaultPlace : Type 0 where
  pub polygon : ℕ
  pub kind : ℕ
  pub other : ℕ

-- the first of these numbers in which two places differ decides
abbrev pub ComesBefore : FaultPlace → FaultPlace → Type 0
ComesBefore f g = (f.polygon < g.polygon)
    ⊎ ((f.polygon ≡ g.polygon) × ((f.kind < g.kind) ⊎ ((f.kind ≡ g.kind) × (f.other < g.other))))

-- the point of the polygon is on the chain; the polygon has this key, the chain this TLID
pub record IsOnChainAt (m : TheMap) (at : FaultPlace) (key : PolyKey) (tlid : ℕ) : Type 0 where
  pub kind : at.kind ≡ 0
  pub point : Point
  pub of : IsPointOf m at.polygon key point
  pub held : IsHeldBy m.chains point at.other
  pub tlid_is : held.chain.tlid ≡ tlid

-- it isn't inside the polygon, which has this key
pub record IsOutsideAt (m : TheMap) (at : FaultPlace) (key : PolyKey) : Type 0 where
  pub kind : at.kind ≡ 1
  pub no_other : at.other ≡ 0
  pub point : Point
  pub of : IsPointOf m at.polygon key point
  pub outside : ¬ IsInside m.chains point at.polygon

-- it isn't clear of the other polygon; the two have these keys
pub record IsInOtherAt (m : TheMap) (at : FaultPlace) (key other : PolyKey) : Type 0 where
  pub kind : at.kind ≡ 2
  pub point : Point
  pub of : IsPointOf m at.polygon key point
  pub other_point : Point
  pub other_of : IsPointOf m at.other other other_point
  pub two : at.other ≢ at.polygon
  pub within : ¬ IsClear m.chains point at.other

-- the fault is true at this place
abbrev pub IsTrueAt : TheMap → FaultPlace → Misplaced → Type 0
IsTrueAt m at (OnChain polygon tlid) = IsOnChainAt m at polygon tlid
IsTrueAt m at (Outside polygon) = IsOutsideAt m at polygon
IsTrueAt m at (InOther polygon other) = IsInOtherAt m at polygon other

-- the faults are true at these places, each at its own
abbrev pub AreTrueAt : TheMap → List FaultPlace → List Misplaced → Type 0
AreTrueAt m [] [] = ⊤
AreTrueAt m [] (fault ∷ found) = ⊥
AreTrueAt m (at ∷ places) [] = ⊥
AreTrueAt m (at ∷ places) (fault ∷ found) = IsTrueAt m at fault × AreTrueAt m places found

-- what is told at the place doesn't hang on sides that name a hidden polygon: where the point is outside, the polygon isn't hidden, and
-- where it's in another polygon, that one isn't
pub record IsSettled (Hidden : ℕ → Type 0) (at : FaultPlace) : Type 0 where
  pub own : at.kind ≡ 1 → ¬ Hidden at.polygon
  pub other : at.kind ≡ 2 → ¬ Hidden at.other

-- each is true; each that is true at a settled place stands there; and each settled place where one is true stands once, before all later
-- ones, with the fault that is true there
pub record AreAllMisplaced (Hidden : ℕ → Type 0) (m : TheMap) (found : List Misplaced) : Type 0 where
  pub each : All (IsTrueMisplaced m) found
  pub every : (at : FaultPlace) (fault : Misplaced) → IsSettled Hidden at → IsTrueAt m at fault → Contains found fault
  pub places : List FaultPlace
  pub told : AreTrueAt m places found
  pub settled : All (IsSettled Hidden) places
  pub whole : (at : FaultPlace) (fault : Misplaced) → IsSettled Hidden at → IsTrueAt m at fault → Contains places at
  pub in_order : AllPairs ComesBefore places

-- no polygon is hidden
abbrev pub NoneHidden : ℕ → Type 0
NoneHidden p = ⊥
