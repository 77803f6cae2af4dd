-- Polygons that are named by sides at odds, told one disagreement behind the other.
use Rattle.std.specs.Prelude.{◌≡◌, ℕ, ◌<◌, Some, List, [], ◌∷◌, ◌++◌, slice_get, All, Contains}
use Rattle.tl_map_county.specs.declared.sides.Side.{Side}
use Rattle.tl_map_county.specs.declared.sides.Side.TheVariants.{Outside, Polygon}
use Rattle.tl_map_county.specs.TheMap.{MapChain}
use Rattle.tl_map_county.specs.Darts.{dart_left}
use Rattle.tl_check_sides.specs.Sides.{dart_right}
use Rattle.tl_check_sides.specs.declared.fault.Disagreement.{Disagreement}
use Rattle.tl_check_sides.specs.Listing.Touched.{IsTouched}

-- the polygon that the side names, if it names one
abbrev pub named : Side → List ℕ
named Outside = []
named (Polygon p) = p ∷ []

-- those that two sides at odds name are appended
pub record AreNamed (chains : List MapChain) (odds : Disagreement) (old new : List ℕ) : Type 0 where
  pub left : Side
  pub right : Side
  pub left_is : dart_left chains odds.first ≡ Some left
  pub right_is : dart_right chains odds.next ≡ Some right
  pub are : new ≡ (old ++ named left) ++ named right

-- those that the first n disagreements name are listed
pub record AreNamedBefore (chains : List MapChain) (sides : List Disagreement) (n : ℕ) (touched : List ℕ) : Type 0 where
  pub each : All (IsTouched chains) touched
  pub lefts : (k p : ℕ) (odds : Disagreement) → k < n → slice_get sides k ≡ Some odds → dart_left chains odds.first ≡ Some (Polygon p) → Contains touched p
  pub rights : (k p : ℕ) (odds : Disagreement) → k < n → slice_get sides k ≡ Some odds → dart_right chains odds.next ≡ Some (Polygon p) → Contains touched p
