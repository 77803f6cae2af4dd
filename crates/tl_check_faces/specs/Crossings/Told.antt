-- What places list, told by the ray to the west.
use Rattle.std.specs.Prelude.{◌≡◌, ⊤, [], length}
use Rattle.tl_geom.specs.declared.point.Point.{Point}
use Rattle.tl_map_county.specs.TheMap.{TheMap}
use Rattle.tl_check_inside.specs.declared.place.Place.{Place}
use Rattle.tl_check_inside.specs.declared.place.Place.TheVariants.{OnChain, In}
use Rattle.tl_check_inside.specs.Places.{AreCounted}
use Rattle.tl_check_faces.specs.Crossings.West.{IsWestPolygonCount, IsWestCountOf}

-- if the place is on no chain, its polygons and landmarks are those whose count by the ray to the west isn't 0
abbrev pub ListsByWest : TheMap → Point → Place → Type 0
ListsByWest m q (OnChain c) = ⊤
ListsByWest m q (In polygons landmarks) =
    AreCounted (length m.polygons) (IsWestPolygonCount m.chains q) polygons.items
    × AreCounted (length m.landmarks) (IsWestCountOf m q) landmarks.items

-- the place is on no chain, in no polygon and in no landmark
abbrev pub IsNowhere : Place → Type 0
IsNowhere (OnChain c) = ⊥
IsNowhere (In polygons landmarks) = (polygons.items ≡ []) × (landmarks.items ≡ [])
