-- A segment that a point at no end of it is strictly west of, and whose slab holds the point's height, is one that the ray of
-- the point to the east crosses; and the other way round.
use Rattle.std.proofs.Common.{◌≡◌, ◌⊎◌, inl, inr, ⊎_elim, ℤ, pos, ◌-ℤ◌, ◌*ℤ◌, ◌<ℤ◌, ◌≤ℤ◌, ap, ap₂, sym, subst, ◌∙◌, arith}
use Rattle.std.proofs.lemmas.Int.{ints, by_lt_z}
use Rattle.tl_geom.specs.declared.point.Point.{Point}
use Rattle.tl_geom.specs.declared.segment.Segment.{Segment}
use Rattle.tl_geom.specs.Plane.{turn_of, whole}
use Rattle.tl_geom.specs.Ray.{Crosses}
use Rattle.tl_geom.proofs.AtPoints.{parted_by}
use Rattle.tl_geom.proofs.Polynomials.{num, ◌⊖◌, ◌⊗◌, same}
use Rattle.tl_geom.proofs.Signs.{product_at_least}
use Rattle.tl_geom.proofs.Rays.{crossed_up, crossed_down}
use Rattle.tl_check_planar.specs.ByHeight.Heights.{height, AreNear, low_end, high_end, turn_to}
use Rattle.tl_check_planar.proofs.ByHeight.Rising.{AreEndsOf, ends_of, higher, higher_west, near_back}
use Rattle.tl_check_faces.proofs.CrossingsLemmas.Across.{turned_back as turn_back}

-- the turn to a point of the first point's latitude, or of the last point's
level_first : (a b q : Point) → a.y ≡ q.y → turn_of a b q ≡ (b.y -ℤ a.y) *ℤ (a.x -ℤ q.x)
level_first a b q e =
    ap (λ y. (b.x -ℤ a.x) *ℤ (y -ℤ a.y) -ℤ (b.y -ℤ a.y) *ℤ (q.x -ℤ a.x)) (sym e)
    ∙ (let ay = num a.y in let ax = num a.x in
    same ((num b.x ⊖ ax) ⊗ (ay ⊖ ay) ⊖ (num b.y ⊖ ay) ⊗ (num q.x ⊖ ax)) ((num b.y ⊖ ay) ⊗ (ax ⊖ num q.x)) (omega arith))

level_last : (a b q : Point) → b.y ≡ q.y → turn_of a b q ≡ (b.y -ℤ a.y) *ℤ (b.x -ℤ q.x)
level_last a b q e =
    ap (λ y. (b.x -ℤ a.x) *ℤ (y -ℤ a.y) -ℤ (b.y -ℤ a.y) *ℤ (q.x -ℤ a.x)) (sym e)
    ∙ (let ay = num a.y in let ax = num a.x in let bx = num b.x in let by = num b.y in
    same ((bx ⊖ ax) ⊗ (by ⊖ ay) ⊖ (by ⊖ ay) ⊗ (num q.x ⊖ ax)) ((by ⊖ ay) ⊗ (bx ⊖ num q.x)) (omega arith))

-- of the line from a point up to another, where q is strictly west of it
module _ (K : ℤ) (q a b : Point) (near : AreNear K q a) (near' : AreNear K q b) (west : pos 0 <ℤ turn_of a b q) where
  -- if the latitude of q parts them, so does its height
  pub low_by_latitude : a.y ≤ℤ q.y → q.y <ℤ b.y → height K a <ℤ height K q
  low_by_latitude low high =
      by_lt_z a.y q.y (λ south. higher K a q (near_back K q a near) south)
      (λ level.
      let e : a.y ≡ q.y = omega (arith, ints, level, low) in
      higher_west K a q (near_back K q a near) e
      (by_lt_z q.x a.x (λ lt. lt)
      (λ le. absurd (
      let more : pos 0 ≤ℤ ((b.y -ℤ a.y) *ℤ (q.x -ℤ a.x)) = product_at_least (b.y -ℤ a.y) (q.x -ℤ a.x) (omega (arith, ints, low, high)) (omega (arith, ints, le)) in
      let turned : (b.y -ℤ a.y) *ℤ (a.x -ℤ q.x) ≡ pos 0 -ℤ (b.y -ℤ a.y) *ℤ (q.x -ℤ a.x) =
      same ((num b.y ⊖ num a.y) ⊗ (num a.x ⊖ num q.x)) (num (pos 0) ⊖ (num b.y ⊖ num a.y) ⊗ (num q.x ⊖ num a.x)) (omega arith) in
      omega (arith, ints, west, more, turned, level_first a b q e)))))

  pub high_by_latitude : q.y <ℤ b.y → height K q <ℤ height K b
  high_by_latitude high = higher K q b near' high

  -- and the other way round
  pub low_by_height : height K a ≤ℤ height K q → a.y ≤ℤ q.y
  low_by_height le = by_lt_z q.y a.y (λ north. absurd (let up = higher K q a near north in omega (arith, ints, up, le))) (λ k. k)

  pub high_by_height : height K a ≤ℤ height K q → height K q <ℤ height K b → q.y <ℤ b.y
  high_by_height from to =
      by_lt_z q.y b.y (λ k. k)
      (λ le. absurd (
      let low : a.y ≤ℤ q.y = low_by_height from in
      by_lt_z b.y q.y (λ south. let down = higher K b q (near_back K q b near') south in omega (arith, ints, down, to))
      (λ level.
      let e : b.y ≡ q.y = omega (arith, ints, level, le) in
      let same_y : K *ℤ b.y ≡ K *ℤ q.y = ap (λ y. K *ℤ y) e in
      let further : b.x <ℤ q.x = omega (arith, ints, to, same_y) in
      let more : pos 0 ≤ℤ ((b.y -ℤ a.y) *ℤ (q.x -ℤ b.x)) = product_at_least (b.y -ℤ a.y) (q.x -ℤ b.x) (omega (arith, ints, low, e)) (omega (arith, ints, further)) in
      let turned : (b.y -ℤ a.y) *ℤ (b.x -ℤ q.x) ≡ pos 0 -ℤ (b.y -ℤ a.y) *ℤ (q.x -ℤ b.x) =
      same ((num b.y ⊖ num a.y) ⊗ (num b.x ⊖ num q.x)) (num (pos 0) ⊖ (num b.y ⊖ num a.y) ⊗ (num q.x ⊖ num b.x)) (omega arith) in
      omega (arith, ints, west, more, turned, level_last a b q e))))

-- ---- of a segment

-- the height of q is above that of the low end and below that of the high end, and q is strictly west
pub record IsPassed (K : ℤ) (s : Segment) (q : Point) : Type 0 where
  pub from : height K (low_end K s) <ℤ height K q
  pub to : height K q <ℤ height K (high_end K s)
  pub west : pos 0 <ℤ turn_to K s q

module _ (K : ℤ) (s : Segment) (q : Point) (near : AreNear K s.a s.b) (near_a : AreNear K q s.a) (near_b : AreNear K q s.b) where
  by_ends : (a b : Point) → AreEndsOf K s (low_end K s) (high_end K s) → ((a ≡ s.a) × (b ≡ s.b)) ⊎ ((a ≡ s.b) × (b ≡ s.a)) → height K a <ℤ height K q → height K q <ℤ height K b → pos 0 <ℤ turn_of a b q → IsPassed K s q
  by_ends a b ends are from to west =
      let rising = ends.rising in
      let straight : (low_end K s ≡ a) × (high_end K s ≡ b) =
      ⊎_elim
      (λ k. ⊎_elim (λ l. (k.0 ∙ sym l.0, k.1 ∙ sym l.1))
      (λ l. absurd (
      let e : height K (low_end K s) ≡ height K b = ap (height K) (k.0 ∙ sym l.1) in
      let f : height K (high_end K s) ≡ height K a = ap (height K) (k.1 ∙ sym l.0) in
      omega (arith, ints, rising, from, to, e, f))) are)
      (λ k. ⊎_elim
      (λ l. absurd (
      let e : height K (low_end K s) ≡ height K b = ap (height K) (k.0 ∙ sym l.1) in
      let f : height K (high_end K s) ≡ height K a = ap (height K) (k.1 ∙ sym l.0) in
      omega (arith, ints, rising, from, to, e, f)))
      (λ l. (k.0 ∙ sym l.0, k.1 ∙ sym l.1)) are) ends.are in
      record {
        from = subst (λ p. height K p <ℤ height K q) (sym straight.0) from;
        to = subst (λ p. height K q <ℤ height K p) (sym straight.1) to;
        west = subst (λ z. pos 0 <ℤ z) (sym (ap₂ (λ x y. turn_of x y q) straight.0 straight.1)) west;
      }

  pub passed : Crosses s (whole q) → IsPassed K s q
  passed c =
      let ends : AreEndsOf K s (low_end K s) (high_end K s) = ends_of K s near in
      ⊎_elim
      (λ up.
      let west : pos 0 <ℤ turn_of s.a s.b q = (crossed_up s q up.0 up.1).1 c in
      by_ends s.a s.b ends (inl ((λ i. s.a), λ i. s.b)) (low_by_latitude K q s.a s.b near_a near_b west up.0 up.1) (high_by_latitude K q s.a s.b near_a near_b west up.1) west)
      (λ down.
      let back : turn_of s.a s.b q <ℤ pos 0 = (crossed_down s q down.0 down.1).1 c in
      let west : pos 0 <ℤ turn_of s.b s.a q = let t = turn_back s.a s.b q in omega (arith, ints, back, t) in
      by_ends s.b s.a ends (inr ((λ i. s.b), λ i. s.a)) (low_by_latitude K q s.b s.a near_b near_a west down.0 down.1) (high_by_latitude K q s.b s.a near_b near_a west down.1) west)
      (parted_by q s.a s.b c.parted)

  pub crosses : height K (low_end K s) ≤ℤ height K q → height K q <ℤ height K (high_end K s) → pos 0 <ℤ turn_to K s q → Crosses s (whole q)
  crosses from to west =
      let ends : AreEndsOf K s (low_end K s) (high_end K s) = ends_of K s near in
      ⊎_elim
      (λ k.
      let from' : height K s.a ≤ℤ height K q = subst (λ p. height K p ≤ℤ height K q) k.0 from in
      let to' : height K q <ℤ height K s.b = subst (λ p. height K q <ℤ height K p) k.1 to in
      let west' : pos 0 <ℤ turn_of s.a s.b q = subst (λ z. pos 0 <ℤ z) (ap₂ (λ x y. turn_of x y q) k.0 k.1) west in
      (crossed_up s q (low_by_height K q s.a s.b near_a near_b west' from') (high_by_height K q s.a s.b near_a near_b west' from' to')).0 west')
      (λ k.
      let from' : height K s.b ≤ℤ height K q = subst (λ p. height K p ≤ℤ height K q) k.0 from in
      let to' : height K q <ℤ height K s.a = subst (λ p. height K q <ℤ height K p) k.1 to in
      let west' : pos 0 <ℤ turn_of s.b s.a q = subst (λ z. pos 0 <ℤ z) (ap₂ (λ x y. turn_of x y q) k.0 k.1) west in
      let back : turn_of s.a s.b q <ℤ pos 0 = let t = turn_back s.a s.b q in omega (arith, ints, west', t) in
      (crossed_down s q (low_by_height K q s.b s.a near_b near_a west' from') (high_by_height K q s.b s.a near_b near_a west' from' to')).0 back)
      ends.are
