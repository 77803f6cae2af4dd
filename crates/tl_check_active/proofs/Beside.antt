-- Segments of which one lies west of the other by the rectangles about them.
use Rattle.std.proofs.Common.{◌≡◌, ◌⊎◌, inl, inr, ⊎_elim, ℤ, pos, ◌+ℤ◌, ◌-ℤ◌, ◌*ℤ◌, ◌<ℤ◌, ◌≤ℤ◌, sym, ap, subst, arith}
use Rattle.std.proofs.lemmas.Int.{ints, clamps, by_lt_z}
use Rattle.std.specs.Int.{int_max, int_min}
use Rattle.tl_geom.specs.declared.point.Point.{Point}
use Rattle.tl_geom.specs.declared.segment.Segment.{Segment}
use Rattle.tl_geom.specs.Contact.{AreApart}
use Rattle.tl_geom.specs.Plane.{turn_of}
use Rattle.tl_geom.specs.Rectangle.{rect_of}
use Rattle.tl_geom.proofs.Polynomials.{num, ◌⊕◌, ◌⊖◌, ◌⊗◌, same}
use Rattle.tl_geom.proofs.Rectangles.{by_meeting, shared_meets}
use Rattle.tl_geom.proofs.Signs.{product_at_least}
use Rattle.tl_check_planar.specs.ByHeight.Heights.{height, widest, AreNear, low_end, high_end}
use Rattle.tl_check_planar.specs.ByHeight.Neighbours.{IsWestOf}
use Rattle.tl_check_planar.proofs.ByHeight.Rising.{ends_of, higher, near_back}

-- a point west of both ends of a line, and between them by latitude, isn't east of it
not_east : (c e p : Point) → p.x <ℤ c.x → p.x <ℤ e.x → c.y ≤ℤ p.y → p.y ≤ℤ e.y → pos 0 ≤ℤ turn_of c e p
not_east c e p west west' above below =
    let cx = num c.x in let cy = num c.y in let ex = num e.x in let ey = num e.y in let x = num p.x in let y = num p.y in
    let sum : turn_of c e p ≡ (e.x -ℤ p.x) *ℤ (p.y -ℤ c.y) +ℤ (c.x -ℤ p.x) *ℤ (e.y -ℤ p.y) =
    same ((ex ⊖ cx) ⊗ (y ⊖ cy) ⊖ (ey ⊖ cy) ⊗ (x ⊖ cx)) ((ex ⊖ x) ⊗ (y ⊖ cy) ⊕ (cx ⊖ x) ⊗ (ey ⊖ y)) (omega arith) in
    let one = product_at_least (e.x -ℤ p.x) (p.y -ℤ c.y) (omega (arith, ints, west')) (omega (arith, ints, above)) in
    let other = product_at_least (c.x -ℤ p.x) (e.y -ℤ p.y) (omega (arith, ints, west)) (omega (arith, ints, below)) in
    omega (arith, ints, sum, one, other)

-- a point east of both isn't west of it
not_west : (a b q : Point) → a.x <ℤ q.x → b.x <ℤ q.x → a.y ≤ℤ q.y → q.y ≤ℤ b.y → turn_of a b q ≤ℤ pos 0
not_west a b q east east' above below =
    let ax = num a.x in let ay = num a.y in let bx = num b.x in let by = num b.y in let x = num q.x in let y = num q.y in
    let sum : turn_of a b q ≡ pos 0 -ℤ ((q.x -ℤ b.x) *ℤ (q.y -ℤ a.y) +ℤ (q.x -ℤ a.x) *ℤ (b.y -ℤ q.y)) =
    same ((bx ⊖ ax) ⊗ (y ⊖ ay) ⊖ (by ⊖ ay) ⊗ (x ⊖ ax)) (num (pos 0) ⊖ ((x ⊖ bx) ⊗ (y ⊖ ay) ⊕ (x ⊖ ax) ⊗ (by ⊖ y))) (omega arith) in
    let one = product_at_least (q.x -ℤ b.x) (q.y -ℤ a.y) (omega (arith, ints, east')) (omega (arith, ints, above)) in
    let other = product_at_least (q.x -ℤ a.x) (b.y -ℤ q.y) (omega (arith, ints, east)) (omega (arith, ints, below)) in
    omega (arith, ints, sum, one, other)

-- of two points the higher isn't further south
south : (p q : Point) → AreNear widest p q → height widest p <ℤ height widest q → p.y ≤ℤ q.y
south p q near up =
    by_lt_z q.y p.y (λ north. absurd (let down = higher widest q p (near_back widest p q near) north in omega (arith, ints, up, down))) (λ le. le)

-- where the lower and the higher end of a segment lie in its rectangle
record AreBoxed (s : Segment) (a b : Point) : Type 0 where
  pub most : a.x ≤ℤ (rect_of s).xmax
  pub most' : b.x ≤ℤ (rect_of s).xmax
  pub least : (rect_of s).xmin ≤ℤ a.x
  pub least' : (rect_of s).xmin ≤ℤ b.x
  pub bottom : a.y ≤ℤ (rect_of s).ymin
  pub top : (rect_of s).ymax ≤ℤ b.y

boxed_by : (s : Segment) (a b : Point) → AreNear widest s.a s.b → ((a ≡ s.a) × (b ≡ s.b)) ⊎ ((a ≡ s.b) × (b ≡ s.a)) → height widest a <ℤ height widest b → AreBoxed s a b
boxed_by s a b near are up =
    ⊎_elim
    (λ k.
    let rises = south a b (subst (λ p. AreNear widest p b) (sym k.0) (subst (λ p. AreNear widest s.a p) (sym k.1) near)) up in
    let x = ap (λ (p : Point). p.x) k.0 in let y = ap (λ (p : Point). p.y) k.0 in let x' = ap (λ (p : Point). p.x) k.1 in let y' = ap (λ (p : Point). p.y) k.1 in
    record { most = omega (arith, ints, clamps, x); most' = omega (arith, ints, clamps, x'); least = omega (arith, ints, clamps, x); least' = omega (arith, ints, clamps, x'); bottom = omega (arith, ints, clamps, y, y', rises); top = omega (arith, ints, clamps, y, y', rises) })
    (λ k.
    let rises = south a b (subst (λ p. AreNear widest p b) (sym k.0) (subst (λ p. AreNear widest s.b p) (sym k.1) (near_back widest s.a s.b near))) up in
    let x = ap (λ (p : Point). p.x) k.0 in let y = ap (λ (p : Point). p.y) k.0 in let x' = ap (λ (p : Point). p.x) k.1 in let y' = ap (λ (p : Point). p.y) k.1 in
    record { most = omega (arith, ints, clamps, x); most' = omega (arith, ints, clamps, x'); least = omega (arith, ints, clamps, x); least' = omega (arith, ints, clamps, x'); bottom = omega (arith, ints, clamps, y, y', rises); top = omega (arith, ints, clamps, y, y', rises) })
    are

boxed : (s : Segment) → AreNear widest s.a s.b → AreBoxed s (low_end widest s) (high_end widest s)
boxed s near = let ends = ends_of widest s near in boxed_by s (low_end widest s) (high_end widest s) near ends.are ends.rising

-- u is west of w where its rectangle is, and both have a latitude in common
pub west_by_boxes : (u w : Segment) → AreNear widest u.a u.b → AreNear widest w.a w.b → (rect_of u).xmax <ℤ (rect_of w).xmin
    → (rect_of u).ymin ≤ℤ (rect_of w).ymax → (rect_of w).ymin ≤ℤ (rect_of u).ymax → IsWestOf widest u w
west_by_boxes u w near near' west low high =
    let p = boxed u near in
    let q = boxed w near' in
    let a = low_end widest u in
    let b = high_end widest u in
    let c = low_end widest w in
    let e = high_end widest w in
    let below_w : a.y ≤ℤ e.y = trans (trans p.bottom low) q.top in
    let below_u : c.y ≤ℤ b.y = trans (trans q.bottom high) p.top in
    let first : a.x <ℤ c.x = between p.most west q.least in
    let first' : a.x <ℤ e.x = between p.most west q.least' in
    let last : b.x <ℤ c.x = between p.most' west q.least in
    let last' : b.x <ℤ e.x = between p.most' west q.least' in
    record {
      below = by_lt_z a.y c.y (λ lt. inr (not_west a b c first last (omega (arith, ints, lt)) below_u)) (λ le. inl (not_east c e a first first' le below_w));
      above = by_lt_z e.y b.y (λ lt. inr (not_west a b e first' last' below_w (omega (arith, ints, lt)))) (λ le. inl (not_east c e b last last' below_u le));
    }
  where
    trans : {x y z : ℤ} → x ≤ℤ y → y ≤ℤ z → x ≤ℤ z
    trans h k = omega (arith, ints, h, k)

    between : {x y z v : ℤ} → x ≤ℤ y → y <ℤ z → z ≤ℤ v → x <ℤ v
    between h k l = omega (arith, ints, h, k, l)

-- segments share nothing where the rectangle of one is west of that of the other
pub apart_by_boxes : (u w : Segment) → (rect_of u).xmax <ℤ (rect_of w).xmin → AreApart u w
apart_by_boxes u w west r shared = never (rect_of u).xmin (rect_of w).xmin (rect_of u).xmax (rect_of w).xmax (by_meeting (rect_of u) (rect_of w) (shared_meets u w r shared)).0 west
  where
    never : (x y z v : ℤ) → int_max x y ≤ℤ int_min z v → z <ℤ y → ⊥
    never x y z v meet west = omega (arith, ints, clamps, meet, west)
