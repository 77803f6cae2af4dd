-- Near a place strictly within a segment the rays pass, of all other segments, what they pass at that place.
use Rattle.std.proofs.Common.{◌≡◌, ◌⊎◌, inl, inr, ⊎_elim, ℕ, ◌+◌, ℤ, pos, ◌+ℤ◌, ◌-ℤ◌, ◌*ℤ◌, ◌<ℤ◌, ◌≤ℤ◌, List, subst, arith}
use Rattle.std.proofs.lemmas.Int.{ints}
use Rattle.tl_geom.specs.declared.point.Point.{Point}
use Rattle.tl_geom.specs.declared.rational.Rational.{Rational}
use Rattle.tl_geom.specs.declared.segment.Segment.{Segment}
use Rattle.tl_geom.specs.Plane.{IsOn}
use Rattle.tl_map_county.specs.TheMap.{MapChain}
use Rattle.tl_check_planar.specs.Planar.{IsPlanar}
use Rattle.tl_check_planar.specs.ByHeight.Heights.{height, low_end, high_end, turn_at}
use Rattle.tl_check_planar.specs.ByHeight.Neighbours.{IsNumbered}
use Rattle.tl_check_planar.proofs.ByHeight.Rising.{AreEndsOf, ends_of, higher}
use Rattle.tl_check_planar.proofs.ByHeight.Lying.{lies_on}
use Rattle.tl_check_faces.specs.Facing.{IsStrictlyOn, step_y}
use Rattle.tl_check_faces.specs.Truth.{IsNearer}
use Rattle.tl_check_faces.proofs.Crossing.{IsEast, IsWest}
use Rattle.tl_check_faces.proofs.Steep.{IsNearTo, straight, height_by_latitude}
use Rattle.tl_check_faces.proofs.Bounds.{IsBounded, AreBounded, IsSteep}
use Rattle.tl_check_faces.proofs.Near as near_by
use Rattle.tl_check_faces.proofs.Alone.{alone}
use Rattle.tl_check_faces.proofs.OnePolygon.{IsEastHit, IsWestHit}

-- how far apart two coordinates of points are at most
abbrev pub widest_of : ℕ → ℤ
widest_of n = pos n +ℤ pos n

-- so near have places to be
abbrev pub nearness : Rational → ℕ → ℤ
nearness r n = r.d *ℤ (widest_of n +ℤ widest_of n +ℤ pos 1)

pub wide_enough : (n : ℕ) → pos 0 ≤ℤ widest_of n
wide_enough n = omega (arith, ints)

module _ (chains : List MapChain) (planar : IsPlanar chains) (n : ℕ) (bounded : AreBounded n chains) (K : ℤ) (r : Rational) (steep : IsSteep K chains r)
    (s : ℕ) (u : Segment) (is : IsNumbered chains s u) (on : IsStrictlyOn u r) where
  -- the line of two ends of another segment doesn't hold r between them
  off : (t : ℕ) (w : Segment) → IsNumbered chains t w → ¬ (s ≡ t) → (a b : Point) → ((a ≡ w.a) × (b ≡ w.b)) ⊎ ((a ≡ w.b) × (b ≡ w.a)) → IsNearTo K r a → IsNearTo K r b →
      turn_at a b r ≡ pos 0 → (r.d *ℤ a.y) ≤ℤ r.y → r.y ≤ℤ (r.d *ℤ b.y) → a.y <ℤ b.y → height K a <ℤ height K b → ⊥
  off t w is' ne a b are near near' zero low high up rising =
      let e : AreEndsOf K w (low_end K w) (high_end K w) = ends_of K w (steep.ends t w is') in
      let at : (low_end K w ≡ a) × (high_end K w ≡ b) = straight K w a b e are rising in
      let heights = height_by_latitude K r a b near near' zero low high up in
      let ends : AreEndsOf K w a b = subst (λ z. AreEndsOf K w a z) at.1 (subst (λ z. AreEndsOf K w z (high_end K w)) at.0 e) in
      let on' : IsOn w r = lies_on K w a b ends r zero heights.0 heights.1 in
      alone chains planar s t u w r is is' on ne on'

  -- what is told of the ends of another segment, by either order
  off_up : (t : ℕ) (w : Segment) → IsNumbered chains t w → ¬ (s ≡ t) → turn_at w.a w.b r ≡ pos 0 → (r.d *ℤ w.a.y) ≤ℤ r.y → r.y ≤ℤ (r.d *ℤ w.b.y) → w.a.y <ℤ w.b.y → ⊥
  off_up t w is' ne zero low high up =
      off t w is' ne w.a w.b (inl ((λ i. w.a), λ i. w.b)) (steep.first t w is') (steep.last t w is') zero low high up (higher K w.a w.b (steep.ends t w is') up)

  off_down : (t : ℕ) (w : Segment) → IsNumbered chains t w → ¬ (s ≡ t) → turn_at w.b w.a r ≡ pos 0 → (r.d *ℤ w.b.y) ≤ℤ r.y → r.y ≤ℤ (r.d *ℤ w.a.y) → w.b.y <ℤ w.a.y → ⊥
  off_down t w is' ne zero low high up =
      off t w is' ne w.b w.a (inr ((λ i. w.b), λ i. w.a)) (steep.last t w is') (steep.first t w is') zero low high up
      (higher K w.b w.a (let near = steep.ends t w is' in record { west = near.east; east = near.west }) up)

  module _ (q : Rational) (near : IsNearer (nearness r n) r q) where
    abbrev north_by : ℤ
    north_by = step_y r q

    -- how far apart the ends of a segment are
    record AreClose (a b : Point) : Type 0 where
      x_low : (pos 0 -ℤ widest_of n) ≤ℤ (b.x -ℤ a.x)
      x_high : (b.x -ℤ a.x) ≤ℤ widest_of n
      y_low : (pos 0 -ℤ widest_of n) ≤ℤ (b.y -ℤ a.y)
      y_high : (b.y -ℤ a.y) ≤ℤ widest_of n

    close : (a b : Point) → IsBounded n a → IsBounded n b → AreClose a b
    close a b one other =
        let w = one.west in let e = one.east in let d = one.south in let t = one.north in
        let w' = other.west in let e' = other.east in let d' = other.south in let t' = other.north in
        record {
          x_low = omega (arith, ints, e, w');
          x_high = omega (arith, ints, w, e');
          y_low = omega (arith, ints, t, d');
          y_high = omega (arith, ints, d, t');
        }

    module _ (t : ℕ) (w : Segment) (is' : IsNumbered chains t w) (ne : ¬ (s ≡ t)) where
      first : IsBounded n w.a
      first = bounded is'.c is'.k is'.joins.chain w.a is'.joins.is is'.joins.from

      last : IsBounded n w.b
      last = bounded is'.c (is'.k + 1) is'.joins.chain w.b is'.joins.is is'.joins.to

      up : AreClose w.a w.b
      up = close w.a w.b first last

      down : AreClose w.b w.a
      down = close w.b w.a last first

      pub east_from : pos 0 ≤ℤ north_by → IsEast w q → IsEast w r
      east_from north = ⊎_elim
          (λ k. inl (near_by.east_from r q (widest_of n) (wide_enough n) near w.a w.b up.x_low up.x_high up.y_low up.y_high (off_up t w is' ne) north k))
          (λ k. inr (near_by.east_from r q (widest_of n) (wide_enough n) near w.b w.a down.x_low down.x_high down.y_low down.y_high (off_down t w is' ne) north k))

      pub east_to : pos 0 ≤ℤ north_by → IsEast w r → IsEast w q
      east_to north = ⊎_elim
          (λ k. inl (near_by.east_to r q (widest_of n) (wide_enough n) near w.a w.b up.x_low up.x_high up.y_low up.y_high (off_up t w is' ne) north k))
          (λ k. inr (near_by.east_to r q (widest_of n) (wide_enough n) near w.b w.a down.x_low down.x_high down.y_low down.y_high (off_down t w is' ne) north k))

      pub west_from : north_by <ℤ pos 0 → IsWest w q → IsWest w r
      west_from south = ⊎_elim
          (λ k. inl (near_by.west_from r q (widest_of n) (wide_enough n) near w.a w.b up.x_low up.x_high up.y_low up.y_high (off_up t w is' ne) south k))
          (λ k. inr (near_by.west_from r q (widest_of n) (wide_enough n) near w.b w.a down.x_low down.x_high down.y_low down.y_high (off_down t w is' ne) south k))

      pub west_to : north_by <ℤ pos 0 → IsWest w r → IsWest w q
      west_to south = ⊎_elim
          (λ k. inl (near_by.west_to r q (widest_of n) (wide_enough n) near w.a w.b up.x_low up.x_high up.y_low up.y_high (off_up t w is' ne) south k))
          (λ k. inr (near_by.west_to r q (widest_of n) (wide_enough n) near w.b w.a down.x_low down.x_high down.y_low down.y_high (off_down t w is' ne) south k))

    -- ---- by numbers

    pub east_hit_from : pos 0 ≤ℤ north_by → (t : ℕ) → ¬ (s ≡ t) → IsEastHit chains q t → IsEastHit chains r t
    east_hit_from north t ne h = record { segment = h.segment; is = h.is; east = east_from t h.segment h.is ne north h.east }

    pub east_hit_to : pos 0 ≤ℤ north_by → (t : ℕ) → ¬ (s ≡ t) → IsEastHit chains r t → IsEastHit chains q t
    east_hit_to north t ne h = record { segment = h.segment; is = h.is; east = east_to t h.segment h.is ne north h.east }

    pub west_hit_from : north_by <ℤ pos 0 → (t : ℕ) → ¬ (s ≡ t) → IsWestHit chains q t → IsWestHit chains r t
    west_hit_from south t ne h = record { segment = h.segment; is = h.is; west = west_from t h.segment h.is ne south h.west }

    pub west_hit_to : north_by <ℤ pos 0 → (t : ℕ) → ¬ (s ≡ t) → IsWestHit chains r t → IsWestHit chains q t
    west_hit_to south t ne h = record { segment = h.segment; is = h.is; west = west_to t h.segment h.is ne south h.west }
