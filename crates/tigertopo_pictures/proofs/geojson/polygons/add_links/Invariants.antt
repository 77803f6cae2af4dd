use Rattle.std.proofs.Common.{◌≡◌, ◌++◌, ◌∷◌, [], Some, take}
use Rattle.std.specs.List.{flat_map}
use Rattle.tigertopo_pictures.proofs.geojson.polygons.add_links.Given as goal

abbrev pub invariant-loop-polygon : goal.invariant-loop-polygon
invariant-loop-polygon l =
    (l.lands.items ≡ l.initial.lands.items ++ flat_map (λ p. l.landmark.land ∷ []) (take l.polygon-index l.landmark.polygons.now))
    × (l.polygons.items ≡ l.initial.polygons.items ++ flat_map (λ p. Some p ∷ []) (take l.polygon-index l.landmark.polygons.now))
