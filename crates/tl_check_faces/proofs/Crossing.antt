-- A ray to the east, or to the west, crosses a segment exactly where its point is on the one side of it.
use Rattle.std.proofs.Common.{◌≡◌, ◌⊎◌, inl, inr, ⊎_elim, ℤ, pos, ◌+ℤ◌, ◌-ℤ◌, ◌*ℤ◌, ◌<ℤ◌, ◌≤ℤ◌, ap, sym, ◌∙◌, arith}
use Rattle.std.proofs.lemmas.Int.{ints}
use Rattle.tl_geom.specs.declared.point.Point.{Point}
use Rattle.tl_geom.specs.declared.rational.Rational.{Rational}
use Rattle.tl_geom.specs.declared.segment.Segment.{Segment}
use Rattle.tl_geom.specs.Plane.{cross}
use Rattle.tl_geom.proofs.Polynomials.{num, ◌⊕◌, ◌⊖◌, ◌⊗◌, same, same_by_two}
use Rattle.tl_geom.proofs.Signs.{cancel_lt, product_above}
use Rattle.tl_geom.proofs.Places.{place, place_on}
use Rattle.tl_check_planar.specs.ByHeight.Heights.{turn_at}
use Rattle.tl_check_planar.proofs.ByHeight.Lying.{turned}
use Rattle.tl_geom.specs.Ray.{Crosses}
use Rattle.tl_check_faces.proofs.Numbers.{above_by}

-- the way from a up to b passes q on the east: the ray to the east crosses it
pub record IsEastUp (a b : Point) (q : Rational) : Type 0 where
  pub low : (q.d *ℤ a.y) ≤ℤ q.y
  pub high : q.y <ℤ (q.d *ℤ b.y)
  pub turn : pos 0 <ℤ turn_at a b q

-- it passes q on the west: the ray to the west does, by which an end at q's latitude counts as north of it
pub record IsWestUp (a b : Point) (q : Rational) : Type 0 where
  pub low : (q.d *ℤ a.y) <ℤ q.y
  pub high : q.y ≤ℤ (q.d *ℤ b.y)
  pub turn : turn_at a b q <ℤ pos 0

abbrev pub IsEast : Segment → Rational → Type 0
IsEast u q = IsEastUp u.a u.b q ⊎ IsEastUp u.b u.a q

abbrev pub IsWest : Segment → Rational → Type 0
IsWest u q = IsWestUp u.a u.b q ⊎ IsWestUp u.b u.a q

-- ---- from a place to the turn

by_place : (ux uy ax ay x y d X Y D : ℤ) → cross ux uy (X -ℤ D *ℤ ax) (Y -ℤ D *ℤ ay) ≡ pos 0 → Y *ℤ d ≡ y *ℤ D →
    D *ℤ cross ux uy (x -ℤ d *ℤ ax) (y -ℤ d *ℤ ay) ≡ uy *ℤ (X *ℤ d -ℤ x *ℤ D)
by_place ux uy ax ay x y d X Y D straight level =
    let u = num ux in let v = num uy in let e = num d in let E = num D in
    same_by_two (E ⊗ (u ⊗ (num y ⊖ e ⊗ num ay) ⊖ v ⊗ (num x ⊖ e ⊗ num ax))) (v ⊗ (num X ⊗ e ⊖ num x ⊗ E))
    e (u ⊗ (num Y ⊖ E ⊗ num ay) ⊖ v ⊗ (num X ⊖ E ⊗ num ax)) (num (pos 0)) u (num y ⊗ E) (num Y ⊗ e) straight (sym level) (omega arith)

-- where the latitude of q parts two points, one is north of the other
rises : (a b : Point) (q : Rational) → (q.d *ℤ a.y) ≤ℤ q.y → q.y <ℤ (q.d *ℤ b.y) → pos 0 <ℤ (b.y -ℤ a.y)
rises a b q low high =
    let positive : pos 0 <ℤ q.d = q.above_zero in
    let up : a.y <ℤ b.y = cancel_lt q.d a.y b.y (omega (arith, ints, positive)) (omega (arith, ints, low, high)) in
    omega (arith, ints, up)

pub east_of_crossed : (u : Segment) (q : Rational) → Crosses u q → IsEast u q
east_of_crossed u q c =
    let r : Rational = c.place in
    let past : (q.x *ℤ r.d) <ℤ (r.x *ℤ q.d) = c.to_the_east.past in
    let east : pos 0 <ℤ (r.x *ℤ q.d -ℤ q.x *ℤ r.d) = omega (arith, ints, past) in
    let e : r.d *ℤ turn_at u.a u.b q ≡ (u.b.y -ℤ u.a.y) *ℤ (r.x *ℤ q.d -ℤ q.x *ℤ r.d) =
    by_place (u.b.x -ℤ u.a.x) (u.b.y -ℤ u.a.y) u.a.x u.a.y q.x q.y q.d r.x r.y r.d c.on_segment.straight c.to_the_east.level in
    ⊎_elim
    (λ k.
    let up : pos 0 <ℤ (u.b.y -ℤ u.a.y) = rises u.a u.b q k.0 k.1 in
    inl (record { low = k.0; high = k.1; turn = by_rise (r.x *ℤ q.d -ℤ q.x *ℤ r.d) (u.b.y -ℤ u.a.y) r.d (turn_at u.a u.b q) r.above_zero east up e }))
    (λ k.
    let up : pos 0 <ℤ (u.a.y -ℤ u.b.y) = rises u.b u.a q k.0 k.1 in
    let back = turned u.a u.b q in
    let f : r.d *ℤ turn_at u.b u.a q ≡ (u.a.y -ℤ u.b.y) *ℤ (r.x *ℤ q.d -ℤ q.x *ℤ r.d) =
    ap (λ z. r.d *ℤ z) back ∙ both r.d (turn_at u.a u.b q) u.b.y u.a.y (r.x *ℤ q.d -ℤ q.x *ℤ r.d) e in
    inr (record { low = k.0; high = k.1; turn = by_rise (r.x *ℤ q.d -ℤ q.x *ℤ r.d) (u.a.y -ℤ u.b.y) r.d (turn_at u.b u.a q) r.above_zero east up f }))
    c.parted
  where
    by_rise : (z w d t : ℤ) → pos 0 <ℤ d → pos 0 <ℤ z → pos 0 <ℤ w → d *ℤ t ≡ w *ℤ z → pos 0 <ℤ t
    by_rise z w d t above z_above w_above e = above_by w z d t w_above above (sym e) z_above

    both : (d t b a z : ℤ) → d *ℤ t ≡ (b -ℤ a) *ℤ z → d *ℤ (pos 0 -ℤ t) ≡ (a -ℤ b) *ℤ z
    both d t b a z e =
        let one : d *ℤ (pos 0 -ℤ t) ≡ pos 0 -ℤ d *ℤ t = same (num d ⊗ (num (pos 0) ⊖ num t)) (num (pos 0) ⊖ num d ⊗ num t) (omega arith) in
        let two : (a -ℤ b) *ℤ z ≡ pos 0 -ℤ (b -ℤ a) *ℤ z = same ((num a ⊖ num b) ⊗ num z) (num (pos 0) ⊖ (num b ⊖ num a) ⊗ num z) (omega arith) in
        omega (arith, ints, one, two, e)

-- ---- from the turn to a place

level_up : (ay uy y d : ℤ) → ((d *ℤ uy) *ℤ ay +ℤ (y -ℤ d *ℤ ay) *ℤ uy) *ℤ d ≡ y *ℤ (d *ℤ uy)
level_up ay uy y d =
    let e = num d in let v = num uy in
    same (((e ⊗ v) ⊗ num ay ⊕ (num y ⊖ e ⊗ num ay) ⊗ v) ⊗ e) (num y ⊗ (e ⊗ v)) (omega arith)

past_up : (ux uy ax ay x y d : ℤ) → ((d *ℤ uy) *ℤ ax +ℤ (y -ℤ d *ℤ ay) *ℤ ux) *ℤ d -ℤ x *ℤ (d *ℤ uy) ≡ d *ℤ cross ux uy (x -ℤ d *ℤ ax) (y -ℤ d *ℤ ay)
past_up ux uy ax ay x y d =
    let e = num d in let u = num ux in let v = num uy in
    same (((e ⊗ v) ⊗ num ax ⊕ (num y ⊖ e ⊗ num ay) ⊗ u) ⊗ e ⊖ num x ⊗ (e ⊗ v)) (e ⊗ (u ⊗ (num y ⊖ e ⊗ num ay) ⊖ v ⊗ (num x ⊖ e ⊗ num ax))) (omega arith)

level_down : (ay by y d : ℤ) → ((d *ℤ (ay -ℤ by)) *ℤ ay +ℤ (d *ℤ ay -ℤ y) *ℤ (by -ℤ ay)) *ℤ d ≡ y *ℤ (d *ℤ (ay -ℤ by))
level_down ay by y d =
    let e = num d in let a = num ay in let b = num by in
    same (((e ⊗ (a ⊖ b)) ⊗ a ⊕ (e ⊗ a ⊖ num y) ⊗ (b ⊖ a)) ⊗ e) (num y ⊗ (e ⊗ (a ⊖ b))) (omega arith)

past_down : (ax ay bx by x y d : ℤ) →
    ((d *ℤ (ay -ℤ by)) *ℤ ax +ℤ (d *ℤ ay -ℤ y) *ℤ (bx -ℤ ax)) *ℤ d -ℤ x *ℤ (d *ℤ (ay -ℤ by)) ≡ d *ℤ cross (ax -ℤ bx) (ay -ℤ by) (x -ℤ d *ℤ bx) (y -ℤ d *ℤ by)
past_down ax ay bx by x y d =
    let e = num d in let a = num ay in let b = num by in let p = num ax in let q = num bx in
    same (((e ⊗ (a ⊖ b)) ⊗ p ⊕ (e ⊗ a ⊖ num y) ⊗ (q ⊖ p)) ⊗ e ⊖ num x ⊗ (e ⊗ (a ⊖ b)))
    (e ⊗ ((p ⊖ q) ⊗ (num y ⊖ e ⊗ b) ⊖ (a ⊖ b) ⊗ (num x ⊖ e ⊗ q))) (omega arith)

pub spread : (d a b : ℤ) → d *ℤ (b -ℤ a) ≡ d *ℤ b -ℤ d *ℤ a
spread d a b = same (num d ⊗ (num b ⊖ num a)) (num d ⊗ num b ⊖ num d ⊗ num a) (omega arith)

pub crossed_of_east : (u : Segment) (q : Rational) → IsEast u q → Crosses u q
crossed_of_east u q = ⊎_elim
    (λ k.
    let low : (q.d *ℤ u.a.y) ≤ℤ q.y = k.low in
    let high : q.y <ℤ (q.d *ℤ u.b.y) = k.high in
    let wide : pos 0 <ℤ (q.d *ℤ (u.b.y -ℤ u.a.y)) = product_above q.d (u.b.y -ℤ u.a.y) q.above_zero (rises u.a u.b q low high) in
    let parts = spread q.d u.a.y u.b.y in
    let more : pos 0 <ℤ (q.d *ℤ turn_at u.a u.b q) = product_above q.d (turn_at u.a u.b q) q.above_zero k.turn in
    let far = past_up (u.b.x -ℤ u.a.x) (u.b.y -ℤ u.a.y) u.a.x u.a.y q.x q.y q.d in
    record {
      parted = inl (low, high);
      place = place u (q.y -ℤ q.d *ℤ u.a.y) (q.d *ℤ (u.b.y -ℤ u.a.y)) wide;
      on_segment = place_on u (q.y -ℤ q.d *ℤ u.a.y) (q.d *ℤ (u.b.y -ℤ u.a.y)) wide (omega (arith, ints, low)) (omega (arith, ints, parts, high));
      to_the_east = record { level = level_up u.a.y (u.b.y -ℤ u.a.y) q.y q.d; past = omega (arith, ints, far, more) };
    })
    (λ k.
    let low : (q.d *ℤ u.b.y) ≤ℤ q.y = k.low in
    let high : q.y <ℤ (q.d *ℤ u.a.y) = k.high in
    let wide : pos 0 <ℤ (q.d *ℤ (u.a.y -ℤ u.b.y)) = product_above q.d (u.a.y -ℤ u.b.y) q.above_zero (rises u.b u.a q low high) in
    let parts = spread q.d u.b.y u.a.y in
    let more : pos 0 <ℤ (q.d *ℤ turn_at u.b u.a q) = product_above q.d (turn_at u.b u.a q) q.above_zero k.turn in
    let far = past_down u.a.x u.a.y u.b.x u.b.y q.x q.y q.d in
    record {
      parted = inr (low, high);
      place = place u (q.d *ℤ u.a.y -ℤ q.y) (q.d *ℤ (u.a.y -ℤ u.b.y)) wide;
      on_segment = place_on u (q.d *ℤ u.a.y -ℤ q.y) (q.d *ℤ (u.a.y -ℤ u.b.y)) wide (omega (arith, ints, high)) (omega (arith, ints, parts, low));
      to_the_east = record { level = level_down u.a.y u.b.y q.y q.d; past = omega (arith, ints, far, more) };
    })
