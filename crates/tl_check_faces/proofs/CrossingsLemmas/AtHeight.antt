-- A segment that a height parts has one place there: east of a point at that height, at it, or west of it.
use Rattle.std.proofs.Common.{◌≡◌, ◌⊎◌, inl, inr, ⊎_elim, ℤ, pos, ◌+ℤ◌, ◌-ℤ◌, ◌*ℤ◌, ◌<ℤ◌, ap, sym, subst, ◌∙◌, arith}
use Rattle.std.proofs.lemmas.Int.{ints}
use Rattle.tl_geom.specs.declared.point.Point.{Point}
use Rattle.tl_geom.specs.declared.rational.Rational.{Rational}
use Rattle.tl_geom.specs.declared.segment.Segment.{Segment}
use Rattle.tl_geom.specs.Plane.{IsOn, whole, turn_of}
use Rattle.tl_geom.specs.Ray.{Crosses}
use Rattle.tl_geom.proofs.AtPoints.{ArePartedBy, parted_by, is_parted, east_height, east_past, is_east}
use Rattle.tl_geom.proofs.Polynomials.{num, ◌⊕◌, ◌⊖◌, ◌⊗◌, same, same_by_two}
use Rattle.tl_geom.proofs.Signs.{mono_lt, product_above, above_of_product, times_zero, zero_product, sign}
use Rattle.tl_geom.proofs.Places.{place, place_on, on_same}
use Rattle.tl_check_planar.proofs.Ends.{same_by_products}
use Rattle.tl_check_faces.specs.Crossings.West.{CrossesWest}
use Rattle.tl_check_faces.proofs.Beside.{turned}
use Rattle.tl_geom.proofs.Rays.{height_down, turn_at}

-- a place of the segment at the height of q
record IsPlaced (s : Segment) (q : Point) : Type 0 where
  at : Rational
  on : IsOn s at
  height : at.y ≡ at.d *ℤ q.y

height_up : (ay by qy : ℤ) → (by -ℤ ay) *ℤ ay +ℤ (qy -ℤ ay) *ℤ (by -ℤ ay) ≡ (by -ℤ ay) *ℤ qy
height_up ay by qy = same ((num by ⊖ num ay) ⊗ num ay ⊕ (num qy ⊖ num ay) ⊗ (num by ⊖ num ay)) ((num by ⊖ num ay) ⊗ num qy) (omega arith)

placed : (s : Segment) (q : Point) → ArePartedBy q s.a s.b → IsPlaced s q
placed s q parted =
    ⊎_elim
    (λ up.
    let h : pos 0 <ℤ (s.b.y -ℤ s.a.y) = omega (arith, ints, up.0, up.1) in
    record {
      at = place s (q.y -ℤ s.a.y) (s.b.y -ℤ s.a.y) h;
      on = place_on s (q.y -ℤ s.a.y) (s.b.y -ℤ s.a.y) h (omega (arith, ints, up.0)) (omega (arith, ints, up.1));
      height = height_up s.a.y s.b.y q.y;
    })
    (λ down.
    let h : pos 0 <ℤ (s.a.y -ℤ s.b.y) = omega (arith, ints, down.0, down.1) in
    record {
      at = place s (s.a.y -ℤ q.y) (s.a.y -ℤ s.b.y) h;
      on = place_on s (s.a.y -ℤ q.y) (s.a.y -ℤ s.b.y) h (omega (arith, ints, down.1)) (omega (arith, ints, down.0));
      height = height_down s.a.y s.b.y q.y;
    })
    parted

-- a point whose height parts a segment has it to the east, or lies on it, or has it to the west
pub east_or_west : (s : Segment) (q : Point) → ArePartedBy q s.a s.b → Crosses s (whole q) ⊎ IsOn s (whole q) ⊎ CrossesWest s q
east_or_west s q parted =
    let p : IsPlaced s q = placed s q parted in
    ⊎_elim
    (λ west. inr (inr (record { parted = is_parted q s.a s.b parted; place = p.at; on_segment = p.on; to_the_west = record { height = p.height; past = omega (arith, ints, west) } })))
    (λ rest. ⊎_elim
    (λ here.
    let level : p.at.x ≡ p.at.d *ℤ q.x = omega (arith, ints, here) in
    inr (inl (on_same s p.at (whole q) (same_by_products p.at q (level ∙ turned p.at.d q.x) (p.height ∙ turned p.at.d q.y)) p.on)))
    (λ east. inl (record { parted = is_parted q s.a s.b parted; place = p.at; on_segment = p.on; to_the_east = is_east q p.at p.height (omega (arith, ints, east)) }))
    rest)
    (sign (p.at.x -ℤ p.at.d *ℤ q.x))

-- two places at one height are as far to the east, each over its own d
one_way_off : (t uy e d f l : ℤ) → d *ℤ t ≡ uy *ℤ e → l *ℤ t ≡ uy *ℤ f → uy *ℤ (l *ℤ e -ℤ d *ℤ f) ≡ pos 0
one_way_off t uy e d f l p q =
    same_by_two (num uy ⊗ (num l ⊗ num e ⊖ num d ⊗ num f)) (num (pos 0))
    (num (pos 0) ⊖ num l) (num d ⊗ num t) (num uy ⊗ num e)
    (num d) (num l ⊗ num t) (num uy ⊗ num f) p q (omega arith)

-- how far two places of a segment at the height of q are to the east
module _ (s : Segment) (q : Point) (parted : ArePartedBy q s.a s.b) (r w : Rational) (r_on : IsOn s r) (w_on : IsOn s w) (r_height : r.y ≡ r.d *ℤ q.y) (w_height : w.y ≡ w.d *ℤ q.y) where
  steep : s.b.y -ℤ s.a.y ≡ pos 0 → ⊥
  steep e = ⊎_elim (λ up. omega (arith, ints, up.0, up.1, e)) (λ down. omega (arith, ints, down.0, down.1, e)) parted

  same_off : w.d *ℤ (r.x -ℤ r.d *ℤ q.x) ≡ r.d *ℤ (w.x -ℤ w.d *ℤ q.x)
  same_off =
      let e : r.d *ℤ turn_of s.a s.b q ≡ (s.b.y -ℤ s.a.y) *ℤ (r.x -ℤ r.d *ℤ q.x) =
      turn_at (s.b.x -ℤ s.a.x) (s.b.y -ℤ s.a.y) s.a.x s.a.y q.x q.y r.x r.y r.d r_on.straight r_height in
      let f : w.d *ℤ turn_of s.a s.b q ≡ (s.b.y -ℤ s.a.y) *ℤ (w.x -ℤ w.d *ℤ q.x) =
      turn_at (s.b.x -ℤ s.a.x) (s.b.y -ℤ s.a.y) s.a.x s.a.y q.x q.y w.x w.y w.d w_on.straight w_height in
      let zero : w.d *ℤ (r.x -ℤ r.d *ℤ q.x) -ℤ r.d *ℤ (w.x -ℤ w.d *ℤ q.x) ≡ pos 0 =
      zero_product (s.b.y -ℤ s.a.y) (w.d *ℤ (r.x -ℤ r.d *ℤ q.x) -ℤ r.d *ℤ (w.x -ℤ w.d *ℤ q.x)) steep
      (one_way_off (turn_of s.a s.b q) (s.b.y -ℤ s.a.y) (r.x -ℤ r.d *ℤ q.x) r.d (w.x -ℤ w.d *ℤ q.x) w.d e f) in
      omega (arith, ints, zero)

  -- where one is strictly east of q, so is the other
  both_east : (r.d *ℤ q.x) <ℤ r.x → (w.d *ℤ q.x) <ℤ w.x
  both_east east =
      let h : pos 0 <ℤ (w.d *ℤ (r.x -ℤ r.d *ℤ q.x)) = product_above w.d (r.x -ℤ r.d *ℤ q.x) w.above_zero (omega (arith, ints, east)) in
      let d : pos 0 <ℤ r.d = r.above_zero in
      let k : pos 0 <ℤ (w.x -ℤ w.d *ℤ q.x) = above_of_product r.d (w.x -ℤ w.d *ℤ q.x) (omega (arith, ints, d)) (subst (λ z. pos 0 <ℤ z) same_off h) in
      omega (arith, ints, k)

  -- and where one is at q, so is the other
  both_here : r.x ≡ r.d *ℤ q.x → w.x ≡ w.d *ℤ q.x
  both_here here =
      let none : r.x -ℤ r.d *ℤ q.x ≡ pos 0 = omega (arith, ints, here) in
      let h : r.d *ℤ (w.x -ℤ w.d *ℤ q.x) ≡ pos 0 = sym same_off ∙ ap (λ z. w.d *ℤ z) none ∙ times_zero w.d in
      let d : pos 0 <ℤ r.d = r.above_zero in
      let k : w.x -ℤ w.d *ℤ q.x ≡ pos 0 = zero_product r.d (w.x -ℤ w.d *ℤ q.x) (λ e. omega (arith, ints, d, e)) h in
      omega (arith, ints, k)

pub one_times : (a : ℤ) → a ≡ pos 1 *ℤ a
one_times a = same (num a) (num (pos 1) ⊗ num a) (omega arith)

-- a segment doesn't cross both rays
pub not_both : (s : Segment) (q : Point) → Crosses s (whole q) → CrossesWest s q → ⊥
not_both s q east west =
    let h = both_east s q (parted_by q s.a s.b east.parted) east.place west.place east.on_segment west.on_segment (east_height q east.place east.to_the_east)
    west.to_the_west.height (east_past q east.place east.to_the_east) in
    let k = west.to_the_west.past in
    omega (arith, ints, h, k)

-- nor one that q lies on
pub not_east : (s : Segment) (q : Point) → IsOn s (whole q) → ¬ Crosses s (whole q)
not_east s q on east =
    let h = both_here s q (parted_by q s.a s.b east.parted) (whole q) east.place on east.on_segment (one_times q.y)
    (east_height q east.place east.to_the_east) (one_times q.x) in
    let k = east_past q east.place east.to_the_east in
    omega (arith, ints, h, k)

pub not_west : (s : Segment) (q : Point) → IsOn s (whole q) → ¬ CrossesWest s q
not_west s q on west =
    let h = both_here s q (parted_by q s.a s.b west.parted) (whole q) west.place on west.on_segment (one_times q.y) west.to_the_west.height (one_times q.x) in
    let k = west.to_the_west.past in
    omega (arith, ints, h, k)

-- where both ends are east of q, so is each place of the segment
pub all_east : (s : Segment) (q : Point) (r : Rational) → q.x <ℤ s.a.x → q.x <ℤ s.b.x → IsOn s r → (r.d *ℤ q.x) <ℤ r.x
all_east s q r a b on =
    let first : (r.d *ℤ q.x) <ℤ (r.d *ℤ s.a.x) = mono_lt r.d q.x s.a.x r.above_zero a in
    let last : (r.d *ℤ q.x) <ℤ (r.d *ℤ s.b.x) = mono_lt r.d q.x s.b.x r.above_zero b in
    ⊎_elim (λ h. omega (arith, ints, first, h.0)) (λ h. omega (arith, ints, last, h.0)) on.x_between

pub all_west : (s : Segment) (q : Point) (r : Rational) → s.a.x <ℤ q.x → s.b.x <ℤ q.x → IsOn s r → r.x <ℤ (r.d *ℤ q.x)
all_west s q r a b on =
    let first : (r.d *ℤ s.a.x) <ℤ (r.d *ℤ q.x) = mono_lt r.d s.a.x q.x r.above_zero a in
    let last : (r.d *ℤ s.b.x) <ℤ (r.d *ℤ q.x) = mono_lt r.d s.b.x q.x r.above_zero b in
    ⊎_elim (λ h. omega (arith, ints, last, h.1)) (λ h. omega (arith, ints, first, h.1)) on.x_between

-- so a parted segment is crossed to the east
pub crosses_east : (s : Segment) (q : Point) → ArePartedBy q s.a s.b → q.x <ℤ s.a.x → q.x <ℤ s.b.x → Crosses s (whole q)
crosses_east s q parted a b =
    let p : IsPlaced s q = placed s q parted in
    record { parted = is_parted q s.a s.b parted; place = p.at; on_segment = p.on; to_the_east = is_east q p.at p.height (all_east s q p.at a b p.on) }

pub crosses_no_east : (s : Segment) (q : Point) → s.a.x <ℤ q.x → s.b.x <ℤ q.x → ¬ Crosses s (whole q)
crosses_no_east s q a b c =
    let low : c.place.x <ℤ (c.place.d *ℤ q.x) = all_west s q c.place a b c.on_segment in
    let high : (c.place.d *ℤ q.x) <ℤ c.place.x = east_past q c.place c.to_the_east in
    omega (arith, ints, low, high)
