use Rattle.std.proofs.Common.{◌≡◌, ◌<◌, ◌≤◌, ◌*◌, ◌^◌, ℕ, length, unsigned_abs, get_or, pos}
use Rattle.tigertopo_pictures.specs.Geojson.Areas.{area_below}
use Rattle.tigertopo_pictures.proofs.geojson.areas.doubled_areas.Given as goal

abbrev pub invariant-loop-dart : goal.invariant-loop-dart
invariant-loop-dart l = record {
  long : length l.areas.items ≡ length l.map.polygons;
  areas : (p : ℕ) → p < length l.map.polygons → get_or l.areas.items p (pos 0) ≡ area_below l.map.chains p l.dart;
  bound : (p : ℕ) → p < length l.map.polygons → unsigned_abs (area_below l.map.chains p l.dart) ≤ l.dart * 2 ^ 89;
}
