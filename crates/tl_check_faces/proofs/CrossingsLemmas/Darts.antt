-- The darts of proper chains: each starts at a node and has a heading.
use Rattle.std.proofs.Common.{◌≡◌, ◌≢◌, ◌⊎◌, inl, inr, ℕ, ◌+◌, ◌-◌, ◌/◌, ◌<◌, Bool, true, false, pos, ◌-ℤ◌, Some, None, List, [], length, get_or, reverse, refl, sym, ap, ◌∙◌, arith}
use Rattle.std.specs.Prelude.{slice_get}
use Rattle.std.specs.Option.{option_and_then}
use Rattle.std.proofs.lemmas.Int.{ints}
use Rattle.std.proofs.lemmas.List.{length-reverse, get_or-reverse}
use Rattle.std.proofs.lemmas.Option.{slice_get-get_or}
use Rattle.tl_geom.specs.declared.point.Point.{Point}
use Rattle.tl_geom.specs.declared.direction.Direction.{Direction}
use Rattle.tl_geom.specs.declared.rational.Rational.{Rational}
use Rattle.tl_geom.specs.declared.segment.Segment.{Segment}
use Rattle.tl_geom.specs.Plane.{IsOn}
use Rattle.tl_geom.proofs.Places.{point_same}
use Rattle.tl_map_county.specs.Chains.{IsProperChain}
use Rattle.tl_map_county.specs.declared.sides.Side.TheVariants.{Outside}
use Rattle.tl_map_county.specs.TheMap.{MapChain}
use Rattle.tl_map_county.specs.Darts.{directed, is_along, dart_start, dart_second, Heads}
use Rattle.tl_check_planar.specs.Planar.{IsOnSegment}
use Rattle.tl_check_sides.specs.Sides.{dart_count}
use Rattle.tl_check_faces.proofs.CrossingsLemmas.OneWay.{flip, flip_a, flip_b, on_flip}
use Rattle.tl_check_faces.specs.Crossings.Headings.{AreProper}

-- the first two points of a chain, from one of its ends, points k and l, and the segment between them
pub record AreFirst (points : List Point) (along : Bool) : Type 0 where
  pub k : ℕ
  pub l : ℕ
  pub first : Point
  pub second : Point
  pub starts : slice_get (directed along points) 0 ≡ Some first
  pub goes : slice_get (directed along points) 1 ≡ Some second
  pub first_is : slice_get points k ≡ Some first
  pub second_is : slice_get points l ≡ Some second
  pub differ : first ≢ second
  pub place : ℕ
  pub is_end : ((along ≡ true) × (k ≡ 0) × (place ≡ 0) × (l ≡ 1)) ⊎ ((along ≡ false) × (k ≡ length points - 1) × (place + 2 ≡ length points) × (l ≡ place))
  pub on : (s : Segment) (r : Rational) → s.a ≡ first → s.b ≡ second → IsOn s r → IsOnSegment points place r

no_point : Point
no_point = record { x = pos 0; y = pos 0 }

pub are_first : (points : List Point) → IsProperChain points → (along : Bool) → AreFirst points along
are_first points proper true =
    let several = proper.several in
    let e = slice_get-get_or points 0 no_point (omega (arith, several)) in
    let f = slice_get-get_or points 1 no_point (omega (arith, several)) in
    record {
      k = 0;
      l = 1;
      first = get_or points 0 no_point;
      second = get_or points 1 no_point;
      starts = e;
      goes = f;
      first_is = e;
      second_is = f;
      differ = proper.distinct 0 no_point (omega (arith, several));
      place = 0;
      is_end = inl (refl, refl, refl, refl);
      on = λ s r a b on. record { segment = s; from = e ∙ ap Some (sym a); to = f ∙ ap Some (sym b); on = on };
    }
are_first points proper false =
    let several = proper.several in
    let long = length-reverse points in
    let k : ℕ = length points - 1 - 0 in
    let l : ℕ = length points - 1 - 1 in
    let next : l + 1 ≡ k = omega (arith, several) in
    let e = slice_get-get_or (reverse points) 0 no_point (omega (arith, several, long)) in
    let f = slice_get-get_or (reverse points) 1 no_point (omega (arith, several, long)) in
    record {
      k = k;
      l = l;
      first = get_or points k no_point;
      second = get_or points l no_point;
      starts = e ∙ ap Some (get_or-reverse points 0 no_point (omega (arith, several)));
      goes = f ∙ ap Some (get_or-reverse points 1 no_point (omega (arith, several)));
      first_is = slice_get-get_or points k no_point (omega (arith, several));
      second_is = slice_get-get_or points l no_point (omega (arith, several));
      place = l;
      is_end = inr (refl, omega arith, omega (arith, several), refl);
      on = λ s r a b on. record {
        segment = flip s;
        from = slice_get-get_or points l no_point (omega (arith, several)) ∙ ap Some (sym b ∙ sym (flip_a s));
        to = ap (slice_get points) next ∙ slice_get-get_or points k no_point (omega (arith, several)) ∙ ap Some (sym a ∙ sym (flip_b s));
        on = on_flip s r on;
      };
      differ = λ same. proper.distinct l no_point (omega (arith, several)) (sym same ∙ ap (λ i. get_or points i no_point) (sym next));
    }

-- the chain of a dart, its first two points, and its heading
pub record IsDart (chains : List MapChain) (d : ℕ) : Type 0 where
  pub chain : MapChain
  pub is : slice_get chains (d / 2) ≡ Some chain
  pub points : AreFirst chain.points (is_along d)
  pub heading : Direction
  pub starts : dart_start chains d ≡ Some points.first
  pub goes : dart_second chains d ≡ Some points.second
  pub heads : Heads chains d heading

pub no_chain : MapChain
no_chain = record { tlid = 0; points = []; left = Outside; right = Outside; start_cell = None; end_cell = None }

pub direction_of : (p q : Point) → p ≢ q → Direction
direction_of p q ne = record {
  x = q.x -ℤ p.x;
  y = q.y -ℤ p.y;
  nonzero = λ level same. ne (point_same p q (omega (arith, ints, level)) (omega (arith, ints, same)));
}

pub direction_x : (p q : Point) (ne : p ≢ q) → (direction_of p q ne).x ≡ q.x -ℤ p.x
unfolding direction_of
direction_x p q ne = refl

pub direction_y : (p q : Point) (ne : p ≢ q) → (direction_of p q ne).y ≡ q.y -ℤ p.y
unfolding direction_of
direction_y p q ne = refl

pub dart_of : (chains : List MapChain) → AreProper chains → (d : ℕ) → d < dart_count chains → IsDart chains d
dart_of chains proper d lt =
    let is : slice_get chains (d / 2) ≡ Some (get_or chains (d / 2) no_chain) = slice_get-get_or chains (d / 2) no_chain (omega (arith, lt)) in
    let chain : MapChain = get_or chains (d / 2) no_chain in
    let two : AreFirst chain.points (is_along d) = are_first chain.points (proper (d / 2) chain is) (is_along d) in
    let starts : dart_start chains d ≡ Some two.first = ap (option_and_then (λ (c : MapChain). slice_get (directed (is_along d) c.points) 0)) is ∙ two.starts in
    let goes : dart_second chains d ≡ Some two.second = ap (option_and_then (λ (c : MapChain). slice_get (directed (is_along d) c.points) 1)) is ∙ two.goes in
    record {
      chain = chain;
      is = is;
      points = two;
      heading = direction_of two.first two.second two.differ;
      starts = starts;
      goes = goes;
      heads = record { first = two.first; second = two.second; starts = starts; goes = goes; x = direction_x two.first two.second two.differ; y = direction_y two.first two.second two.differ };
    }
