use Rattle.std.proofs.Common.{◌≡◌, ◌+◌, ◌≤◌, drop}
use Rattle.std.specs.Prelude.{fold, cond}
use Rattle.tl_map_county.specs.declared.polygons.Polygon.{Polygon}
use Rattle.tigertopo_pictures.specs.Svg.Pictures.{point_count}
use Rattle.tigertopo_pictures.specs.Svg.Frames.{is_inside}
use Rattle.tigertopo_pictures.proofs.svg.picture.point_count.Given as goal

abbrev pub invariant-loop-number : goal.invariant-loop-number
invariant-loop-number l = record {
  counted : fold (λ a (p : Polygon). a + cond (is_inside l.frame p.point) 1 0) l.count (drop l.number l.map.polygons) ≡ point_count l.frame l.map.polygons;
  bound : l.count ≤ l.number;
}
