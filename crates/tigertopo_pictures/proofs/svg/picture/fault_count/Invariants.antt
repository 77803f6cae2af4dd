use Rattle.std.proofs.Common.{◌≡◌, ◌+◌, ◌≤◌, drop, Option}
use Rattle.std.specs.Prelude.{fold, cond}
use Rattle.tl_geom.specs.declared.rational.Rational.{Rational}
use Rattle.tigertopo_pictures.specs.Svg.Pictures.{is_place_inside, fault_count}
use Rattle.tigertopo_pictures.proofs.svg.picture.fault_count.Given as goal

abbrev pub invariant-loop-place : goal.invariant-loop-place
invariant-loop-place l = record {
  counted : fold (λ a (place : Option Rational). a + cond (is_place_inside l.frame place) 1 0) l.count (drop l.place-index l.places) ≡ fault_count l.frame l.places;
  bound : l.count ≤ l.place-index;
}
