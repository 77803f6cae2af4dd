use Rattle.std.proofs.Common.{take}
use Rattle.tl_map_county.specs.declared.sides.Side.TheVariants as side
use Rattle.tigertopo_pictures.specs.Geojson.Features.{side_text}
use Rattle.tigertopo_pictures.specs.Items.{separated}
use Rattle.tigertopo_pictures.proofs.geojson.landmarks.print_keys.Given as goal

abbrev pub invariant-loop-place : goal.invariant-loop-place
invariant-loop-place g l =
    g.P.Page.adds l.initial.page l.page
    (separated (λ p. side_text l.map.polygons (side.Polygon p)) (take l.place l.polygons))
