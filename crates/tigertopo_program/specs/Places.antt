-- The line of a place.
use Rattle.std.specs.Prelude.{ℕ, List}
use Rattle.tl_geom.specs.declared.point.Point.{Point}
use Rattle.tl_map_county.specs.TheMap.{TheMap}
use Rattle.tigertopo_program.specs.Print.Places.{on_text, inside_text}
use Rattle.tl_check_inside.specs.Places.{IsPlaceOf}
use Rattle.tl_check_inside.specs.declared.place.Place.{Place}
use Rattle.tl_check_inside.specs.declared.place.Place.TheVariants.{OnChain, In}

-- the chain that holds the point, or the polygons and the landmarks that it lies in
abbrev pub place_text : TheMap → Place → List ℕ
place_text m (OnChain c) = on_text m.chains c
place_text m (In polygons landmarks) = inside_text m polygons.items landmarks.items

-- the line was written of where the point lies in the map
abbrev pub TellsPlace : TheMap → Point → (List ℕ → Type 0) → Type 0
TellsPlace m point wrote = (place : Place) × IsPlaceOf m point place × wrote (place_text m place)
