use Rattle.std.proofs.Common.{◌≡◌, ◌<◌, ◌^◌, ℕ, length, map, unsigned_abs, get_or, pos}
use Rattle.tl_check_sides.specs.Lists.{list_at}
use Rattle.tigertopo_pictures.specs.Geojson.Holes.{ring_area}
use Rattle.tigertopo_pictures.proofs.geojson.areas.ring_areas.Given as goal

abbrev pub invariant-loop-number : goal.invariant-loop-number
invariant-loop-number l = record {
  long : length l.areas.items ≡ l.number;
  each : (n : ℕ) → n < l.number → get_or l.areas.items n (pos 0) ≡ ring_area l.map.chains (list_at (map (λ w. w.items) l.walks) n);
  small : (n : ℕ) → n < l.number → unsigned_abs (ring_area l.map.chains (list_at (map (λ w. w.items) l.walks) n)) < 2 ^ 127;
}
