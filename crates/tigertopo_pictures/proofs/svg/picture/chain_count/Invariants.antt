use Rattle.std.proofs.Common.{◌≡◌, ◌+◌, ◌≤◌, drop}
use Rattle.std.specs.Prelude.{fold, cond}
use Rattle.tigertopo_pictures.specs.Svg.Strokes.{Drawing, drawings, is_shown}
use Rattle.tigertopo_pictures.specs.Svg.Pictures.{chain_count}
use Rattle.tigertopo_pictures.proofs.svg.picture.chain_count.Given as goal

abbrev pub invariant-loop-number : goal.invariant-loop-number
invariant-loop-number l = record {
  counted : fold (λ a (d : Drawing). a + cond (is_shown d) 1 0) l.count (drawings l.picture.frame (drop l.number l.map.chains)) ≡ chain_count l.picture l.map;
  bound : l.count ≤ l.number;
}
