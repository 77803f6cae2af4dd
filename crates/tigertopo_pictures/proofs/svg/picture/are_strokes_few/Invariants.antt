use Rattle.std.proofs.Common.{◌≡◌, ◌+◌, ◌*◌, ◌^◌, ◌≤◌, drop, length}
use Rattle.std.specs.Prelude.{fold}
use Rattle.tigertopo_pictures.specs.Svg.Strokes.{Drawing, drawings}
use Rattle.tigertopo_pictures.specs.Svg.Pictures.{stroke_count}
use Rattle.tigertopo_pictures.proofs.svg.picture.are_strokes_few.Given as goal

abbrev pub invariant-loop-number : goal.invariant-loop-number
invariant-loop-number l = record {
  counted : fold (λ a (d : Drawing). a + length d.strokes) l.count (drawings l.frame (drop l.number l.map.chains)) ≡ stroke_count l.frame l.map.chains;
  bound : l.count ≤ l.number * 2 ^ 64;
  few : l.count ≤ l.most;
}
