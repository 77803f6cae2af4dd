-- Places near a node, and the darts that run toward those that a chain holds.
use Rattle.std.proofs.Common.{◌≡◌, ⊎_elim, ℕ, ◌+◌, ℤ, pos, ◌+ℤ◌, ◌-ℤ◌, ◌*ℤ◌, ◌<ℤ◌, ◌≤ℤ◌, Some, List, slice_get, sym, ap, ap₂, subst, ◌∙◌, arith}
use Rattle.std.proofs.lemmas.Int.{ints}
use Rattle.tl_geom.specs.declared.point.Point.{Point}
use Rattle.tl_geom.specs.declared.direction.Direction.{Direction}
use Rattle.tl_geom.specs.declared.rational.Rational.{Rational}
use Rattle.tl_geom.specs.declared.segment.Segment.{Segment}
use Rattle.tl_geom.specs.Plane.{IsOn, IsBetween, cross, whole}
use Rattle.tl_geom.proofs.Polynomials.{num, ◌⊕◌, ◌⊖◌, ◌⊗◌, same}
use Rattle.tl_geom.proofs.Signs.{at_least_of_product, product_at_least}
use Rattle.tl_map_county.specs.TheMap.{MapChain}
use Rattle.tl_map_county.specs.Segments.{segments_before}
use Rattle.tl_map_county.specs.Darts.{dart_start, dart_second, Heads}
use Rattle.tl_check_planar.specs.Planar.{IsPlanar, IsOnChain}
use Rattle.tl_check_planar.specs.Keeping.Apart.{one_found}
use Rattle.tl_check_sides.proofs.Headings.{dart_within}
use Rattle.tl_check_faces.specs.Crossings.Headings.{AreProper}
use Rattle.tl_check_faces.specs.Truth.{IsNearer}
use Rattle.tl_check_faces.proofs.CrossingsLemmas.Darts.{IsDart, dart_of}
use Rattle.tl_check_faces.proofs.CrossingsLemmas.OneWay.{flip, flip_a, flip_b, on_flip}
use Rattle.tl_check_faces.proofs.Bounds.{AreBounded}
use Rattle.tl_check_faces.proofs.Ends as chain_ends
use Rattle.tl_check_faces.proofs.Others.{nearness}
use Rattle.tigertopo_border.proofs.WholeLemmas.Near.{on_near}
use Rattle.tigertopo_border.proofs.WholeLemmas.Spokes.{IsDartOn, dart_on}

-- the place one of m parts of (x, y) from the node
abbrev pub spot : Point → (x y m : ℤ) → pos 0 <ℤ m → Rational
spot v x y m some = record { x = m *ℤ v.x +ℤ x; y = m *ℤ v.y +ℤ y; d = m; above_zero = some }

-- it is nearer than 1 part of e
pub record IsClose (e x y m : ℤ) : Type 0 where
  pub west : (e *ℤ (pos 0 -ℤ x)) <ℤ m
  pub east : (e *ℤ x) <ℤ m
  pub south : (e *ℤ (pos 0 -ℤ y)) <ℤ m
  pub north : (e *ℤ y) <ℤ m

step_is : (v x m : ℤ) → (m *ℤ v +ℤ x) *ℤ pos 1 -ℤ v *ℤ m ≡ x
step_is v x m = same ((num m ⊗ num v ⊕ num x) ⊗ num (pos 1) ⊖ num v ⊗ num m) (num x) (omega arith)

one_times : (z : ℤ) → pos 1 *ℤ z ≡ z
one_times z = same (num (pos 1) ⊗ num z) (num z) (omega arith)

pub close_near : (v : Point) (x y m e : ℤ) (some : pos 0 <ℤ m) → IsClose e x y m → IsNearer e (whole v) (spot v x y m some)
close_near v x y m e some close =
    let one = one_times m in
    record {
      west = by (pos 0 -ℤ ((m *ℤ v.x +ℤ x) *ℤ pos 1 -ℤ v.x *ℤ m)) (pos 0 -ℤ x) (ap (λ z. pos 0 -ℤ z) (step_is v.x x m)) close.west;
      east = by ((m *ℤ v.x +ℤ x) *ℤ pos 1 -ℤ v.x *ℤ m) x (step_is v.x x m) close.east;
      south = by (pos 0 -ℤ ((m *ℤ v.y +ℤ y) *ℤ pos 1 -ℤ v.y *ℤ m)) (pos 0 -ℤ y) (ap (λ z. pos 0 -ℤ z) (step_is v.y y m)) close.south;
      north = by ((m *ℤ v.y +ℤ y) *ℤ pos 1 -ℤ v.y *ℤ m) y (step_is v.y y m) close.north;
    }
  where
    by : (z w : ℤ) → z ≡ w → (e *ℤ w) <ℤ m → (e *ℤ z) <ℤ (pos 1 *ℤ m)
    by z w is less = let f = ap (λ t. e *ℤ t) is in let one = one_times m in omega (arith, ints, f, one, less)

-- ---- along a segment from the node

forward : (v s x m : ℤ) → pos 0 <ℤ m → IsBetween (m *ℤ v) (m *ℤ s) (m *ℤ v +ℤ x) → pos 0 ≤ℤ ((s -ℤ v) *ℤ x)
forward v s x m some = ⊎_elim
    (λ k.
    let low = k.0 in let high = k.1 in let e = spread in
    let up : pos 0 ≤ℤ (s -ℤ v) = at_least_of_product m (s -ℤ v) some (omega (arith, ints, low, high, e)) in
    product_at_least (s -ℤ v) x up (omega (arith, ints, low)))
    (λ k.
    let low = k.0 in let high = k.1 in let e = spread in let f = turned in
    let down : pos 0 ≤ℤ (pos 0 -ℤ (s -ℤ v)) = at_least_of_product m (pos 0 -ℤ (s -ℤ v)) some (omega (arith, ints, low, high, e, f)) in
    let p = product_at_least (pos 0 -ℤ (s -ℤ v)) (pos 0 -ℤ x) down (omega (arith, ints, high)) in
    let g = both in omega (arith, ints, p, g))
  where
    spread : m *ℤ (s -ℤ v) ≡ m *ℤ s -ℤ m *ℤ v
    spread = same (num m ⊗ (num s ⊖ num v)) (num m ⊗ num s ⊖ num m ⊗ num v) (omega arith)

    turned : m *ℤ (pos 0 -ℤ (s -ℤ v)) ≡ pos 0 -ℤ m *ℤ (s -ℤ v)
    turned = same (num m ⊗ (num (pos 0) ⊖ (num s ⊖ num v))) (num (pos 0) ⊖ num m ⊗ (num s ⊖ num v)) (omega arith)

    both : (pos 0 -ℤ (s -ℤ v)) *ℤ (pos 0 -ℤ x) ≡ (s -ℤ v) *ℤ x
    both = same ((num (pos 0) ⊖ (num s ⊖ num v)) ⊗ (num (pos 0) ⊖ num x)) ((num s ⊖ num v) ⊗ num x) (omega arith)

parallel_at : (vx vy sx sy x y m : ℤ) → cross (sx -ℤ vx) (sy -ℤ vy) ((m *ℤ vx +ℤ x) -ℤ m *ℤ vx) ((m *ℤ vy +ℤ y) -ℤ m *ℤ vy) ≡ cross (sx -ℤ vx) (sy -ℤ vy) x y
parallel_at vx vy sx sy x y m =
    let a = num vx in let b = num vy in let c = num sx in let d = num sy in let M = num m in
    same ((c ⊖ a) ⊗ ((M ⊗ b ⊕ num y) ⊖ M ⊗ b) ⊖ (d ⊖ b) ⊗ ((M ⊗ a ⊕ num x) ⊖ M ⊗ a)) ((c ⊖ a) ⊗ num y ⊖ (d ⊖ b) ⊗ num x) (omega arith)

-- (x, y) is along the way from v to second, or nothing
pub record IsAlongWay (v second : Point) (x y : ℤ) : Type 0 where
  pub parallel : cross (second.x -ℤ v.x) (second.y -ℤ v.y) x y ≡ pos 0
  pub east : pos 0 ≤ℤ ((second.x -ℤ v.x) *ℤ x)
  pub north : pos 0 ≤ℤ ((second.y -ℤ v.y) *ℤ y)

along_way : (v second : Point) (x y m : ℤ) (some : pos 0 <ℤ m) (w : Segment) → w.a ≡ v → w.b ≡ second → IsOn w (spot v x y m some) → IsAlongWay v second x y
along_way v second x y m some w from to on = record {
  parallel = sym (parallel_at v.x v.y second.x second.y x y m) ∙
      subst (λ (z : Point). cross (second.x -ℤ z.x) (second.y -ℤ z.y) ((m *ℤ v.x +ℤ x) -ℤ m *ℤ z.x) ((m *ℤ v.y +ℤ y) -ℤ m *ℤ z.y) ≡ pos 0) from
      (subst (λ (z : Point). cross (z.x -ℤ w.a.x) (z.y -ℤ w.a.y) ((m *ℤ v.x +ℤ x) -ℤ m *ℤ w.a.x) ((m *ℤ v.y +ℤ y) -ℤ m *ℤ w.a.y) ≡ pos 0) to on.straight);
  east = forward v.x second.x x m some
      (subst (λ (z : Point). IsBetween (m *ℤ z.x) (m *ℤ second.x) (m *ℤ v.x +ℤ x)) from (subst (λ (z : Point). IsBetween (m *ℤ w.a.x) (m *ℤ z.x) (m *ℤ v.x +ℤ x)) to on.x_between));
  north = forward v.y second.y y m some
      (subst (λ (z : Point). IsBetween (m *ℤ z.y) (m *ℤ second.y) (m *ℤ v.y +ℤ y)) from (subst (λ (z : Point). IsBetween (m *ℤ w.a.y) (m *ℤ z.y) (m *ℤ v.y +ℤ y)) to on.y_between));
}

-- a dart of the node heads along (x, y), or that is nothing
pub record IsToward (chains : List MapChain) (v : Point) (x y : ℤ) : Type 0 where
  pub dart : ℕ
  pub heading : Direction
  pub starts : dart_start chains dart ≡ Some v
  pub heads : Heads chains dart heading
  pub parallel : cross heading.x heading.y x y ≡ pos 0
  pub forward_dot : pos 0 ≤ℤ (heading.x *ℤ x +ℤ heading.y *ℤ y)

module _ (chains : List MapChain) (proper : AreProper chains) (planar : IsPlanar chains) (a : ℕ) (v : Point) (there : dart_start chains a ≡ Some v)
    (n : ℕ) (bounded : AreBounded n chains) where
  pub toward : (x y m : ℤ) (some : pos 0 <ℤ m) → IsClose (nearness (whole v) n) x y m → (c : ℕ) (chain : MapChain) → slice_get chains c ≡ Some chain →
      IsOnChain chain.points (spot v x y m some) → IsToward chains v x y
  toward x y m some close c chain is (k, held) = by_dart (dart_on chains proper planar a v there c chain is k held.segment held.from held.to on_node)
    where
      on_node : IsOn held.segment (whole v)
      on_node =
          on_near chains n bounded (whole v) (spot v x y m some) (close_near v x y m (nearness (whole v) n) some close)
          (segments_before chains c + k) held.segment (chain_ends.numbered chains c chain is k held.segment held.from held.to) held.on

      by_dart : IsDartOn chains v held.segment → IsToward chains v x y
      by_dart d = by_heading (dart_of chains proper d.dart (dart_within chains d.dart v d.starts))
        where
          way : IsAlongWay v d.second x y
          way = ⊎_elim
              (λ e. along_way v d.second x y m some held.segment e.0 e.1 held.on)
              (λ e. along_way v d.second x y m some (flip held.segment) (flip_a held.segment ∙ e.0) (flip_b held.segment ∙ e.1) (on_flip held.segment (spot v x y m some) held.on))
              d.ends

          by_heading : IsDart chains d.dart → IsToward chains v x y
          by_heading own =
              let first : own.heads.first ≡ v = one_found own.heads.first v (dart_start chains d.dart) own.heads.starts d.starts in
              let second : own.heads.second ≡ d.second = one_found own.heads.second d.second (dart_second chains d.dart) own.heads.goes d.goes in
              let ex : own.heading.x ≡ d.second.x -ℤ v.x = own.heads.x ∙ (λ i. (second i).x -ℤ (first i).x) in
              let ey : own.heading.y ≡ d.second.y -ℤ v.y = own.heads.y ∙ (λ i. (second i).y -ℤ (first i).y) in
              let fx = ap (λ z. z *ℤ x) ex in let fy = ap (λ z. z *ℤ y) ey in
              let east = way.east in let north = way.north in
              record {
                dart = d.dart;
                heading = own.heading;
                starts = d.starts;
                heads = own.heads;
                parallel = ap₂ (λ p q. cross p q x y) ex ey ∙ way.parallel;
                forward_dot = omega (arith, ints, fx, fy, east, north);
              }
