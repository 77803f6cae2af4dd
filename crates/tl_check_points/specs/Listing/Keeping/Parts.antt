-- Parts of the list of all faults.
use Rattle.std.specs.Prelude.{◌≡◌, ◌≢◌, ℕ, ◌<◌, List, ◌++◌, length, map, All, Contains}
use Rattle.std.specs.List.{AllPairs}
use Rattle.tl_geom.specs.declared.point.Point.{Point}
use Rattle.tl_map_county.specs.TheMap.{TheMap}
use Rattle.tl_check_inside.specs.declared.misplaced.Misplaced.{Misplaced}
use Rattle.tl_check_inside.specs.Inside.{IsClear}
use Rattle.tl_check_points.specs.Listing.AllMisplaced.{FaultPlace, ComesBefore, IsTrueAt, AreTrueAt, IsSettled}

-- all faults that are true at such places, in their order
pub record AreFaultsIn (m : TheMap) (In : FaultPlace → Type 0) (found : List Misplaced) : Type 0 where
  pub places : List FaultPlace
  pub told : AreTrueAt m places found
  pub within : All In places
  pub whole : (at : FaultPlace) (fault : Misplaced) → In at → IsTrueAt m at fault → Contains places at
  pub in_order : AllPairs ComesBefore places

-- places of polygon p and of one kind
abbrev pub IsOf : (p kind : ℕ) → FaultPlace → Type 0
IsOf p kind at = (at.polygon ≡ p) × (at.kind ≡ kind)

-- places of polygon p
abbrev pub IsOfPolygon : ℕ → FaultPlace → Type 0
IsOfPolygon p at = at.polygon ≡ p

-- places of polygons before p
abbrev pub IsBefore : ℕ → FaultPlace → Type 0
IsBefore p at = at.polygon < p

-- places of these polygons
abbrev pub IsOfAny : List ℕ → FaultPlace → Type 0
IsOfAny polygons at = Contains polygons at.polygon

-- such places that are settled
abbrev pub AndSettled : (Hidden : ℕ → Type 0) → (In : FaultPlace → Type 0) → FaultPlace → Type 0
AndSettled Hidden In at = In at × IsSettled Hidden at

-- behind the old faults stand all that are true at such places
pub record HasPart (m : TheMap) (In : FaultPlace → Type 0) (old new : List Misplaced) : Type 0 where
  pub faults : List Misplaced
  pub are : new ≡ old ++ faults
  pub part : AreFaultsIn m In faults

-- the places of polygon p and of one kind with these other numbers
abbrev pub row_places : (p kind : ℕ) → List ℕ → List FaultPlace
row_places p kind others = map (λ n. record { polygon = p; kind = kind; other = n }) others

-- behind the old faults stands one that is true at each of these places
pub record HasRow (m : TheMap) (p kind : ℕ) (others : List ℕ) (old new : List Misplaced) : Type 0 where
  pub faults : List Misplaced
  pub are : new ≡ old ++ faults
  pub told : AreTrueAt m (row_places p kind others) faults

-- polygon n is another than p, and the point isn't clear of it
pub record IsIn (m : TheMap) (q : Point) (p n : ℕ) : Type 0 where
  pub known : n < length m.polygons
  pub two : n ≢ p
  pub within : ¬ IsClear m.chains q n
