use Rattle.std.proofs.Common.{◌≡◌, ◌+◌, length, take, option_map}
use Rattle.tigertopo_pictures.specs.Geojson.Features.{with_points, landmark_features}
use Rattle.tigertopo_pictures.proofs.geojson.landmarks.print_landmarks.Given as goal

abbrev pub invariant-loop-number : goal.invariant-loop-number
invariant-loop-number g l = record {
  counted : l.told ≡ l.before + length (with_points (take l.number l.map.landmarks));
  prints : g.P.Page.adds l.initial.page l.page
      (landmark_features (option_map (λ name. name.now) l.file) l.before l.map.polygons (take l.number l.map.landmarks));
}
