-- What is listed where a point is looked up.
use Rattle.std.specs.Prelude.{◌≡◌, ⊤, ◌↔◌, ℕ, ◌<◌, ◌≤◌, Some, List, [], ◌∷◌, length, slice_get}
use Rattle.tl_geom.specs.declared.point.Point.{Point}
use Rattle.tl_geom.specs.Plane.{whole}
use Rattle.tl_map_county.specs.declared.sides.Side.TheVariants.{Outside, Polygon}
use Rattle.tl_map_county.specs.TheMap.{TheMap, MapChain}
use Rattle.tl_map_county.specs.Sides.{IsSideAmong}
use Rattle.tl_check_inside.specs.declared.place.Place.{Place}
use Rattle.tl_check_inside.specs.declared.place.Place.TheVariants.{OnChain, In}
use Rattle.tl_check_faces.specs.Truth.{LiesAt}

-- each side of each chain is the outside or a polygon of the map
abbrev pub HasKnownSides : TheMap → Type 0
HasKnownSides m =
    (c : ℕ) (chain : MapChain) → slice_get m.chains c ≡ Some chain →
    IsSideAmong (length m.polygons) chain.left × IsSideAmong (length m.polygons) chain.right

-- these polygons are what lies at the point: one at most; one alone exactly where that polygon lies there; and none exactly where the
-- outside does, if sides name polygons of the map
pub record AreWhatLies (m : TheMap) (q : Point) (listed : List ℕ) : Type 0 where
  pub one_at_most : length listed ≤ 1
  pub polygon : (p : ℕ) → p < length m.polygons → (listed ≡ p ∷ []) ↔ LiesAt m.chains (whole q) (Polygon p)
  pub outside : HasKnownSides m → (listed ≡ []) ↔ LiesAt m.chains (whole q) Outside

-- if the point is on no chain, the polygons that are listed are what lies there
abbrev pub ListsWhatLies : TheMap → Point → Place → Type 0
ListsWhatLies m q (OnChain c) = ⊤
ListsWhatLies m q (In polygons landmarks) = AreWhatLies m q polygons.items
