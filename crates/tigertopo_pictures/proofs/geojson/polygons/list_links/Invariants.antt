use Rattle.std.proofs.Common.{◌≡◌, take}
use Rattle.tigertopo_pictures.specs.Geojson.Features.{linked_lands, linked_polygons}
use Rattle.tigertopo_pictures.proofs.geojson.polygons.list_links.Given as goal

abbrev pub invariant-loop-number : goal.invariant-loop-number
invariant-loop-number l =
    (l.lands.items ≡ linked_lands (take l.number l.map.landmarks)) × (l.polygons.items ≡ linked_polygons (take l.number l.map.landmarks))
