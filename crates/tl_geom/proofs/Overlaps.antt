-- What two segments of one line share. Along a line that is not upright x tells the points apart, and along one that is
-- upright y does: the key of a point.
use Rattle.std.proofs.Common.{◌≡◌, ◌≢◌, ◌⊎◌, inl, inr, ⊎_elim, Bool, true, false, ℤ, pos, negsuc, ◌+ℤ◌, ◌-ℤ◌, ◌*ℤ◌, ◌<ℤ◌, ◌≤ℤ◌, ap, sym, subst, ◌∙◌, refl, arith}
use Rattle.std.proofs.lemmas.Int.{ints}
use Rattle.tl_geom.specs.declared.point.Point.{Point}
use Rattle.tl_geom.specs.declared.rational.Rational.{Rational}
use Rattle.tl_geom.specs.declared.segment.Segment.{Segment}
use Rattle.tl_geom.specs.Plane.{IsOn, IsSame, IsBetween, cross, whole, turn_of}
use Rattle.tl_geom.specs.Contact.{IsShared, IsEnd, AreApart, IsOverlap, MeetAtEnds, IsMiddle}
use Rattle.tl_geom.specs.Keeping.Lines.{AreInLine, AreInOrder, AreEndsInOrder, IsLater, IsEarlier}
use Rattle.tl_geom.proofs.Polynomials.{num, ◌⊖◌, ◌⊗◌, same, same_by, same_by_two}
use Rattle.tl_geom.proofs.Signs.{mono, cancel_le, zero_product, times_zero, square_above, square, product_at_least, at_least_of_product, between_product, product_between}
use Rattle.tl_geom.proofs.Places.{some_step, point_same, same_refl, a_on, b_on}

-- ---- the key along a line

abbrev IsAxis : Segment → Bool → Type 0
IsAxis s false = s.b.x -ℤ s.a.x ≢ pos 0
IsAxis s true = (s.b.x -ℤ s.a.x ≡ pos 0) × (s.b.y -ℤ s.a.y ≢ pos 0)

abbrev key : Bool → Point → ℤ
key false p = p.x
key true p = p.y

abbrev place_key : Bool → Rational → ℤ
place_key false r = r.x
place_key true r = r.y

axis : (s : Segment) → (up : Bool) × IsAxis s up
axis s = ⊎_elim (λ step. (false, step)) (λ step. (true, step)) (some_step s)

-- the point, or the rational point, is on the line of the segment
abbrev Lies : Segment → Point → Type 0
Lies s p = turn_of s.a s.b p ≡ pos 0

abbrev IsAlong : Segment → Rational → Type 0
IsAlong s r = cross (s.b.x -ℤ s.a.x) (s.b.y -ℤ s.a.y) (r.x -ℤ r.d *ℤ s.a.x) (r.y -ℤ r.d *ℤ s.a.y) ≡ pos 0

-- ---- steps along the line, in proportion

-- from one point to another
steps : (ux uy ax ay px py qx qy : ℤ) → cross ux uy (px -ℤ ax) (py -ℤ ay) ≡ pos 0 → cross ux uy (qx -ℤ ax) (qy -ℤ ay) ≡ pos 0 → ux *ℤ (qy -ℤ py) ≡ uy *ℤ (qx -ℤ px)
steps ux uy ax ay px py qx qy h k =
    let u = num ux in let v = num uy in
    same_by_two (u ⊗ (num qy ⊖ num py)) (v ⊗ (num qx ⊖ num px)) (num (pos 1)) (num (pos 0)) (u ⊗ (num py ⊖ num ay) ⊖ v ⊗ (num px ⊖ num ax))
    (num (pos 1)) (u ⊗ (num qy ⊖ num ay) ⊖ v ⊗ (num qx ⊖ num ax)) (num (pos 0)) (sym h) k (omega arith)

-- from a point to a rational point
part_steps : (ux uy ax ay px py x y d : ℤ) → cross ux uy (px -ℤ ax) (py -ℤ ay) ≡ pos 0 → cross ux uy (x -ℤ d *ℤ ax) (y -ℤ d *ℤ ay) ≡ pos 0 → ux *ℤ (y -ℤ d *ℤ py) ≡ uy *ℤ (x -ℤ d *ℤ px)
part_steps ux uy ax ay px py x y d h k =
    let u = num ux in let v = num uy in let w = num d in
    same_by_two (u ⊗ (num y ⊖ w ⊗ num py)) (v ⊗ (num x ⊖ w ⊗ num px)) w (num (pos 0)) (u ⊗ (num py ⊖ num ay) ⊖ v ⊗ (num px ⊖ num ax))
    (num (pos 1)) (u ⊗ (num y ⊖ w ⊗ num ay) ⊖ v ⊗ (num x ⊖ w ⊗ num ax)) (num (pos 0)) (sym h) k (omega arith)

point_steps : (s : Segment) (p q : Point) → Lies s p → Lies s q → (s.b.x -ℤ s.a.x) *ℤ (q.y -ℤ p.y) ≡ (s.b.y -ℤ s.a.y) *ℤ (q.x -ℤ p.x)
point_steps s p q h k = steps (s.b.x -ℤ s.a.x) (s.b.y -ℤ s.a.y) s.a.x s.a.y p.x p.y q.x q.y h k

place_steps : (s : Segment) (p : Point) (r : Rational) → Lies s p → IsAlong s r → (s.b.x -ℤ s.a.x) *ℤ (r.y -ℤ r.d *ℤ p.y) ≡ (s.b.y -ℤ s.a.y) *ℤ (r.x -ℤ r.d *ℤ p.x)
place_steps s p r h k = part_steps (s.b.x -ℤ s.a.x) (s.b.y -ℤ s.a.y) s.a.x s.a.y p.x p.y r.x r.y r.d h k

-- where g times one is h times the other, and the other is nothing, so is the one
level : (g h m n : ℤ) → g ≢ pos 0 → g *ℤ m ≡ h *ℤ n → n ≡ pos 0 → m ≡ pos 0
level g h m n away e z = zero_product g m away (e ∙ ap (λ k. h *ℤ k) z ∙ times_zero h)

-- ---- the key tells points apart and keeps their order

key_order : (s : Segment) (up : Bool) → IsAxis s up → (p q : Point) → Lies s p → Lies s q → AreInOrder p q → key up p ≤ℤ key up q
key_order s false step p q h k o = ⊎_elim (λ l. omega (arith, ints, l)) (λ l. omega (arith, ints, l.0)) o
key_order s true step p q h k o =
    let e : (s.b.x -ℤ s.a.x) *ℤ (q.y -ℤ p.y) ≡ (s.b.y -ℤ s.a.y) *ℤ (q.x -ℤ p.x) = point_steps s p q h k in
    let none : (s.b.x -ℤ s.a.x) *ℤ (q.y -ℤ p.y) ≡ pos 0 = ap (λ z. z *ℤ (q.y -ℤ p.y)) step.0 ∙ same (num (pos 0) ⊗ num (q.y -ℤ p.y)) (num (pos 0)) (omega arith) in
    let x : q.x -ℤ p.x ≡ pos 0 = zero_product (s.b.y -ℤ s.a.y) (q.x -ℤ p.x) step.1 (sym e ∙ none) in
    ⊎_elim (λ l. absurd (omega (arith, ints, l, x))) (λ l. l.1) o

key_same : (s : Segment) (up : Bool) → IsAxis s up → (p q : Point) → Lies s p → Lies s q → key up p ≡ key up q → p ≡ q
key_same s false step p q h k e =
    let y : q.y -ℤ p.y ≡ pos 0 = level (s.b.x -ℤ s.a.x) (s.b.y -ℤ s.a.y) (q.y -ℤ p.y) (q.x -ℤ p.x) step (point_steps s p q h k) (omega (arith, ints, e)) in
    point_same p q e (omega (arith, ints, y))
key_same s true step p q h k e =
    let x : q.x -ℤ p.x ≡ pos 0 = level (s.b.y -ℤ s.a.y) (s.b.x -ℤ s.a.x) (q.x -ℤ p.x) (q.y -ℤ p.y) step.1 (sym (point_steps s p q h k)) (omega (arith, ints, e)) in
    point_same p q (omega (arith, ints, x)) e

by_one : (x d p : ℤ) → x -ℤ d *ℤ p ≡ pos 0 → x *ℤ pos 1 ≡ p *ℤ d
by_one x d p e = same_by (num x ⊗ num (pos 1)) (num p ⊗ num d) (num (pos 1)) (num x ⊖ num d ⊗ num p) (num (pos 0)) e (omega arith)

key_place : (s : Segment) (up : Bool) → IsAxis s up → (p : Point) (r : Rational) → Lies s p → IsAlong s r → place_key up r ≡ r.d *ℤ key up p → IsSame r (whole p)
key_place s false step p r h k e =
    let y : r.y -ℤ r.d *ℤ p.y ≡ pos 0 = level (s.b.x -ℤ s.a.x) (s.b.y -ℤ s.a.y) (r.y -ℤ r.d *ℤ p.y) (r.x -ℤ r.d *ℤ p.x) step (place_steps s p r h k) (omega (arith, ints, e)) in
    record { x = by_one r.x r.d p.x (omega (arith, ints, e)); y = by_one r.y r.d p.y y }
key_place s true step p r h k e =
    let x : r.x -ℤ r.d *ℤ p.x ≡ pos 0 = level (s.b.y -ℤ s.a.y) (s.b.x -ℤ s.a.x) (r.x -ℤ r.d *ℤ p.x) (r.y -ℤ r.d *ℤ p.y) step.1 (sym (place_steps s p r h k)) (omega (arith, ints, e)) in
    record { x = by_one r.x r.d p.x x; y = by_one r.y r.d p.y (omega (arith, ints, e)) }

-- ---- on a segment of the line, by the key

straight_by : (g h dx dy vx vy : ℤ) → g ≢ pos 0 → g *ℤ dy ≡ h *ℤ dx → g *ℤ vy ≡ h *ℤ vx → cross dx dy vx vy ≡ pos 0
straight_by g h dx dy vx vy away e f =
    let z : g *ℤ cross dx dy vx vy ≡ pos 0 =
    same_by_two (num g ⊗ (num dx ⊗ num vy ⊖ num dy ⊗ num vx)) (num (pos 0)) (num dx) (num g ⊗ num vy) (num h ⊗ num vx) (num vx) (num h ⊗ num dx) (num g ⊗ num dy) f (sym e) (omega arith) in
    zero_product g (cross dx dy vx vy) away z

-- x and y in proportion: where x lies between two numbers, y lies between theirs
carried : (g h xv xz yv yz : ℤ) → g ≢ pos 0 → g *ℤ yv ≡ h *ℤ xv → g *ℤ yz ≡ h *ℤ xz → pos 0 ≤ℤ (xv *ℤ xz) → pos 0 ≤ℤ (yv *ℤ yz)
carried g h xv xz yv yz away e f k =
    let m : (g *ℤ g) *ℤ (yv *ℤ yz) ≡ (h *ℤ h) *ℤ (xv *ℤ xz) =
    same (num g ⊗ num g ⊗ (num yv ⊗ num yz)) (num g ⊗ num yv ⊗ (num g ⊗ num yz)) (omega arith) ∙ ap (λ z. z *ℤ (g *ℤ yz)) e ∙ ap (λ z. (h *ℤ xv) *ℤ z) f
    ∙ same (num h ⊗ num xv ⊗ (num h ⊗ num xz)) (num h ⊗ num h ⊗ (num xv ⊗ num xz)) (omega arith) in
    at_least_of_product (g *ℤ g) (yv *ℤ yz) (square_above g away) (subst (λ z. pos 0 ≤ℤ z) (sym m) (product_at_least (h *ℤ h) (xv *ℤ xz) (square h) k))

carried_between : (g h xa xb x ya yb y : ℤ) → g ≢ pos 0 → g *ℤ (y -ℤ ya) ≡ h *ℤ (x -ℤ xa) → g *ℤ (y -ℤ yb) ≡ h *ℤ (x -ℤ xb) → IsBetween xa xb x → IsBetween ya yb y
carried_between g h xa xb x ya yb y away e f b =
    let f' : g *ℤ (yb -ℤ y) ≡ h *ℤ (xb -ℤ x) =
    same_by (num g ⊗ (num yb ⊖ num y)) (num h ⊗ (num xb ⊖ num x)) (num (pos 1)) (num h ⊗ (num x ⊖ num xb)) (num g ⊗ (num y ⊖ num yb)) (sym f) (omega arith) in
    product_between ya yb y (carried g h (x -ℤ xa) (xb -ℤ x) (y -ℤ ya) (yb -ℤ y) away e f' (between_product xa xb x b))

on_by_key : (s : Segment) (up : Bool) → IsAxis s up → (e : Segment) (r : Rational) → Lies s e.a → Lies s e.b → IsAlong s r →
    IsBetween (r.d *ℤ key up e.a) (r.d *ℤ key up e.b) (place_key up r) → IsOn e r
on_by_key s false step e r h k l b =
    record {
      straight = straight_by (s.b.x -ℤ s.a.x) (s.b.y -ℤ s.a.y) (e.b.x -ℤ e.a.x) (e.b.y -ℤ e.a.y) (r.x -ℤ r.d *ℤ e.a.x) (r.y -ℤ r.d *ℤ e.a.y) step (point_steps s e.a e.b h k) (place_steps s e.a r h l);
      x_between = b;
      y_between = carried_between (s.b.x -ℤ s.a.x) (s.b.y -ℤ s.a.y) (r.d *ℤ e.a.x) (r.d *ℤ e.b.x) r.x (r.d *ℤ e.a.y) (r.d *ℤ e.b.y) r.y step (place_steps s e.a r h l) (place_steps s e.b r k l) b;
    }
on_by_key s true step e r h k l b =
    let back : cross (e.b.y -ℤ e.a.y) (e.b.x -ℤ e.a.x) (r.y -ℤ r.d *ℤ e.a.y) (r.x -ℤ r.d *ℤ e.a.x) ≡ pos 0 =
    straight_by (s.b.y -ℤ s.a.y) (s.b.x -ℤ s.a.x) (e.b.y -ℤ e.a.y) (e.b.x -ℤ e.a.x) (r.y -ℤ r.d *ℤ e.a.y) (r.x -ℤ r.d *ℤ e.a.x) step.1 (sym (point_steps s e.a e.b h k)) (sym (place_steps s e.a r h l)) in
    record {
      straight = exchanged (e.b.x -ℤ e.a.x) (e.b.y -ℤ e.a.y) (r.x -ℤ r.d *ℤ e.a.x) (r.y -ℤ r.d *ℤ e.a.y) back;
      x_between = carried_between (s.b.y -ℤ s.a.y) (s.b.x -ℤ s.a.x) (r.d *ℤ e.a.y) (r.d *ℤ e.b.y) r.y (r.d *ℤ e.a.x) (r.d *ℤ e.b.x) r.x step.1 (sym (place_steps s e.a r h l)) (sym (place_steps s e.b r k l)) b;
      y_between = b;
    }
  where
    exchanged : (dx dy vx vy : ℤ) → cross dy dx vy vx ≡ pos 0 → cross dx dy vx vy ≡ pos 0
    exchanged dx dy vx vy z = same_by (num dx ⊗ num vy ⊖ num dy ⊗ num vx) (num (pos 0)) (num (negsuc 0)) (num dy ⊗ num vx ⊖ num dx ⊗ num vy) (num (pos 0)) z (omega arith)

key_by_on : (up : Bool) (e : Segment) (r : Rational) → IsOn e r → IsBetween (r.d *ℤ key up e.a) (r.d *ℤ key up e.b) (place_key up r)
key_by_on false e r o = o.x_between
key_by_on true e r o = o.y_between

-- what is straight along one of two parallel steps is so along the other
pub parallel_x : (ux uy dx dy vx vy : ℤ) → dx ≢ pos 0 → ux *ℤ dy ≡ uy *ℤ dx → cross dx dy vx vy ≡ pos 0 → cross ux uy vx vy ≡ pos 0
parallel_x ux uy dx dy vx vy away e f =
    zero_product dx (cross ux uy vx vy) away
    (same_by_two (num dx ⊗ (num ux ⊗ num vy ⊖ num uy ⊗ num vx)) (num (pos 0)) (num ux) (num dx ⊗ num vy ⊖ num dy ⊗ num vx) (num (pos 0)) (num vx) (num ux ⊗ num dy) (num uy ⊗ num dx) f e (omega arith))

pub parallel_y : (ux uy dx dy vx vy : ℤ) → dy ≢ pos 0 → ux *ℤ dy ≡ uy *ℤ dx → cross dx dy vx vy ≡ pos 0 → cross ux uy vx vy ≡ pos 0
parallel_y ux uy dx dy vx vy away e f =
    zero_product dy (cross ux uy vx vy) away
    (same_by_two (num dy ⊗ (num ux ⊗ num vy ⊖ num uy ⊗ num vx)) (num (pos 0)) (num uy) (num dx ⊗ num vy ⊖ num dy ⊗ num vx) (num (pos 0)) (num vy) (num ux ⊗ num dy) (num uy ⊗ num dx) f e (omega arith))

-- what is on a segment of the line is on the line
along_by_on : (s e : Segment) (r : Rational) → Lies s e.a → Lies s e.b → IsOn e r → IsAlong s r
along_by_on s e r h k o =
    ⊎_elim
    (λ step. along_by_step (s.b.x -ℤ s.a.x) (s.b.y -ℤ s.a.y) s.a.x s.a.y e.a.x e.a.y r.x r.y r.d h (parallel_x (s.b.x -ℤ s.a.x) (s.b.y -ℤ s.a.y) (e.b.x -ℤ e.a.x) (e.b.y -ℤ e.a.y) (r.x -ℤ r.d *ℤ e.a.x) (r.y -ℤ r.d *ℤ e.a.y) step (point_steps s e.a e.b h k) o.straight))
    (λ step. along_by_step (s.b.x -ℤ s.a.x) (s.b.y -ℤ s.a.y) s.a.x s.a.y e.a.x e.a.y r.x r.y r.d h (parallel_y (s.b.x -ℤ s.a.x) (s.b.y -ℤ s.a.y) (e.b.x -ℤ e.a.x) (e.b.y -ℤ e.a.y) (r.x -ℤ r.d *ℤ e.a.x) (r.y -ℤ r.d *ℤ e.a.y) step.1 (point_steps s e.a e.b h k) o.straight))
    (some_step e)
  where
    along_by_step : (ux uy ax ay px py x y d : ℤ) → cross ux uy (px -ℤ ax) (py -ℤ ay) ≡ pos 0 → cross ux uy (x -ℤ d *ℤ px) (y -ℤ d *ℤ py) ≡ pos 0 → cross ux uy (x -ℤ d *ℤ ax) (y -ℤ d *ℤ ay) ≡ pos 0
    along_by_step ux uy ax ay px py x y d h k =
        let u = num ux in let v = num uy in let w = num d in
        same_by_two (u ⊗ (num y ⊖ w ⊗ num ay) ⊖ v ⊗ (num x ⊖ w ⊗ num ax)) (num (pos 0)) w (u ⊗ (num py ⊖ num ay) ⊖ v ⊗ (num px ⊖ num ax)) (num (pos 0))
        (num (pos 1)) (u ⊗ (num y ⊖ w ⊗ num py) ⊖ v ⊗ (num x ⊖ w ⊗ num px)) (num (pos 0)) h k (omega arith)

-- ---- two segments of one line

a_lies : (s : Segment) → Lies s s.a
a_lies s =
    same (num (s.b.x -ℤ s.a.x) ⊗ (num s.a.y ⊖ num s.a.y) ⊖ num (s.b.y -ℤ s.a.y) ⊗ (num s.a.x ⊖ num s.a.x)) (num (pos 0)) (omega arith)

b_lies : (s : Segment) → Lies s s.b
b_lies s = same (num (s.b.x -ℤ s.a.x) ⊗ num (s.b.y -ℤ s.a.y) ⊖ num (s.b.y -ℤ s.a.y) ⊗ num (s.b.x -ℤ s.a.x)) (num (pos 0)) (omega arith)

other_a_lies : (s t : Segment) → AreInLine s t → Lies s t.a
other_a_lies s t h =
    let u = num (s.b.x -ℤ s.a.x) in let v = num (s.b.y -ℤ s.a.y) in
    same_by (u ⊗ (num t.a.y ⊖ num s.a.y) ⊖ v ⊗ (num t.a.x ⊖ num s.a.x)) (num (pos 0)) (num (negsuc 0)) (u ⊗ (num s.a.y ⊖ num t.a.y) ⊖ v ⊗ (num s.a.x ⊖ num t.a.x)) (num (pos 0)) h.on_line (omega arith)

other_b_lies : (s t : Segment) → AreInLine s t → Lies s t.b
other_b_lies s t h =
    let u = num (s.b.x -ℤ s.a.x) in let v = num (s.b.y -ℤ s.a.y) in
    same_by_two (u ⊗ (num t.b.y ⊖ num s.a.y) ⊖ v ⊗ (num t.b.x ⊖ num s.a.x)) (num (pos 0)) (num (negsuc 0)) (u ⊗ (num s.a.y ⊖ num t.a.y) ⊖ v ⊗ (num s.a.x ⊖ num t.a.x)) (num (pos 0))
    (num (pos 1)) (u ⊗ (num t.b.y ⊖ num t.a.y) ⊖ v ⊗ (num t.b.x ⊖ num t.a.x)) (num (pos 0)) h.on_line h.parallel (omega arith)

-- a point of the line is one of two, so it lies on the line
one_lies : (s : Segment) (p q r : Point) → Lies s p → Lies s q → (r ≡ p) ⊎ (r ≡ q) → Lies s r
one_lies s p q r h k = ⊎_elim (λ e. subst (λ r. Lies s r) (sym e) h) (λ e. subst (λ r. Lies s r) (sym e) k)

-- the ends of a segment in order, by the key
record IsSpan (s e : Segment) (up : Bool) (first last : Point) : Type 0 where
  ends : ((first ≡ e.a) × (last ≡ e.b)) ⊎ ((first ≡ e.b) × (last ≡ e.a))
  first_lies : Lies s first
  last_lies : Lies s last
  a_on_line : Lies s e.a
  b_on_line : Lies s e.b
  rising : key up first ≤ℤ key up last

span : (s e : Segment) (up : Bool) → IsAxis s up → Lies s e.a → Lies s e.b → (first last : Point) → AreEndsInOrder e first last → IsSpan s e up first last
span s e up step h k first last o =
    let f : Lies s first = ⊎_elim (λ w. subst (λ p. Lies s p) (sym w.0) h) (λ w. subst (λ p. Lies s p) (sym w.0) k) o.ends in
    let l : Lies s last = ⊎_elim (λ w. subst (λ p. Lies s p) (sym w.1) k) (λ w. subst (λ p. Lies s p) (sym w.1) h) o.ends in
    record { ends = o.ends; first_lies = f; last_lies = l; a_on_line = h; b_on_line = k; rising = key_order s up step first last f l o.order }

-- a point on the segment is from its first end to its last, by the key
between_ends : (m n x y d v : ℤ) → pos 0 <ℤ d → ((m ≡ x) × (n ≡ y)) ⊎ ((m ≡ y) × (n ≡ x)) → m ≤ℤ n → IsBetween (d *ℤ x) (d *ℤ y) v → ((d *ℤ m) ≤ℤ v) × (v ≤ℤ (d *ℤ n))
between_ends m n x y d v h ends rise b =
    let r : (d *ℤ m) ≤ℤ (d *ℤ n) = mono d m n (omega (arith, ints, h)) rise in
    ⊎_elim
    (λ w. let e : d *ℤ m ≡ d *ℤ x = ap (λ z. d *ℤ z) w.0 in let f : d *ℤ n ≡ d *ℤ y = ap (λ z. d *ℤ z) w.1 in
    ⊎_elim (λ k. (omega (arith, ints, e, k.0), omega (arith, ints, f, k.1))) (λ k. (omega (arith, ints, e, f, r, k.0, k.1), omega (arith, ints, e, f, r, k.0, k.1))) b)
    (λ w. let e : d *ℤ m ≡ d *ℤ y = ap (λ z. d *ℤ z) w.0 in let f : d *ℤ n ≡ d *ℤ x = ap (λ z. d *ℤ z) w.1 in
    ⊎_elim (λ k. (omega (arith, ints, e, f, r, k.0, k.1), omega (arith, ints, e, f, r, k.0, k.1))) (λ k. (omega (arith, ints, e, k.0), omega (arith, ints, f, k.1))) b) ends

ends_between : (m n x y d v : ℤ) → ((m ≡ x) × (n ≡ y)) ⊎ ((m ≡ y) × (n ≡ x)) → (d *ℤ m) ≤ℤ v → v ≤ℤ (d *ℤ n) → IsBetween (d *ℤ x) (d *ℤ y) v
ends_between m n x y d v ends h k =
    ⊎_elim (λ w. let e : d *ℤ m ≡ d *ℤ x = ap (λ z. d *ℤ z) w.0 in let f : d *ℤ n ≡ d *ℤ y = ap (λ z. d *ℤ z) w.1 in inl (omega (arith, ints, e, h), omega (arith, ints, f, k)))
    (λ w. let e : d *ℤ m ≡ d *ℤ y = ap (λ z. d *ℤ z) w.0 in let f : d *ℤ n ≡ d *ℤ x = ap (λ z. d *ℤ z) w.1 in inr (omega (arith, ints, e, h), omega (arith, ints, f, k))) ends

key_ends : (e : Segment) (up : Bool) (first last : Point) → ((first ≡ e.a) × (last ≡ e.b)) ⊎ ((first ≡ e.b) × (last ≡ e.a)) →
    ((key up first ≡ key up e.a) × (key up last ≡ key up e.b)) ⊎ ((key up first ≡ key up e.b) × (key up last ≡ key up e.a))
key_ends e up first last = ⊎_elim (λ w. inl (ap (key up) w.0, ap (key up) w.1)) (λ w. inr (ap (key up) w.0, ap (key up) w.1))

span_of_on : (s e : Segment) (up : Bool) (first last : Point) → IsSpan s e up first last → (r : Rational) → IsOn e r → ((r.d *ℤ key up first) ≤ℤ place_key up r) × (place_key up r ≤ℤ (r.d *ℤ key up last))
span_of_on s e up first last w r o =
    between_ends (key up first) (key up last) (key up e.a) (key up e.b) r.d (place_key up r) r.above_zero (key_ends e up first last w.ends) w.rising (key_by_on up e r o)

on_of_span : (s e : Segment) (up : Bool) → IsAxis s up → (first last : Point) → IsSpan s e up first last → (r : Rational) → IsAlong s r →
    (r.d *ℤ key up first) ≤ℤ place_key up r → place_key up r ≤ℤ (r.d *ℤ key up last) → IsOn e r
on_of_span s e up step first last w r l h k =
    on_by_key s up step e r w.a_on_line w.b_on_line l (ends_between (key up first) (key up last) (key up e.a) (key up e.b) r.d (place_key up r) (key_ends e up first last w.ends) h k)

-- ---- what they share: from the later of the first ends to the earlier of the last ends

record AreSpans (s t : Segment) (up : Bool) (first last : Point) : Type 0 where
  first_lies : Lies s first
  last_lies : Lies s last
  from_shared : (r : Rational) → IsShared s t r → ((r.d *ℤ key up first) ≤ℤ place_key up r) × (place_key up r ≤ℤ (r.d *ℤ key up last))
  to_shared : (r : Rational) → IsAlong s r → (r.d *ℤ key up first) ≤ℤ place_key up r → place_key up r ≤ℤ (r.d *ℤ key up last) → IsShared s t r

spans : (s t : Segment) (up : Bool) → IsAxis s up → (a b p q first last : Point) → IsSpan s s up a b → IsSpan s t up p q → IsLater a p first → IsEarlier b q last → AreSpans s t up first last
spans s t up step a b p q first last v w f l =
    let first_lies : Lies s first = one_lies s a p first v.first_lies w.first_lies f.one in
    let last_lies : Lies s last = one_lies s b q last v.last_lies w.last_lies l.one in
    record {
      first_lies = first_lies;
      last_lies = last_lies;
      from_shared = λ r k.
          let m : ((r.d *ℤ key up a) ≤ℤ place_key up r) × (place_key up r ≤ℤ (r.d *ℤ key up b)) = span_of_on s s up a b v r k.on_first in
          let n : ((r.d *ℤ key up p) ≤ℤ place_key up r) × (place_key up r ≤ℤ (r.d *ℤ key up q)) = span_of_on s t up p q w r k.on_second in (
            ⊎_elim (λ e. subst (λ z. (r.d *ℤ key up z) ≤ℤ place_key up r) (sym e) m.0) (λ e. subst (λ z. (r.d *ℤ key up z) ≤ℤ place_key up r) (sym e) n.0) f.one,
            ⊎_elim (λ e. subst (λ z. place_key up r ≤ℤ (r.d *ℤ key up z)) (sym e) m.1) (λ e. subst (λ z. place_key up r ≤ℤ (r.d *ℤ key up z)) (sym e) n.1) l.one,
          );
      to_shared = λ r along h k.
          let above : pos 0 ≤ℤ r.d = above_zero r in
          let a_first : (r.d *ℤ key up a) ≤ℤ (r.d *ℤ key up first) = mono r.d (key up a) (key up first) above (key_order s up step a first v.first_lies first_lies f.after_first) in
          let p_first : (r.d *ℤ key up p) ≤ℤ (r.d *ℤ key up first) = mono r.d (key up p) (key up first) above (key_order s up step p first w.first_lies first_lies f.after_second) in
          let last_b : (r.d *ℤ key up last) ≤ℤ (r.d *ℤ key up b) = mono r.d (key up last) (key up b) above (key_order s up step last b last_lies v.last_lies l.before_first) in
          let last_q : (r.d *ℤ key up last) ≤ℤ (r.d *ℤ key up q) = mono r.d (key up last) (key up q) above (key_order s up step last q last_lies w.last_lies l.before_second) in
          record {
            on_first = on_of_span s s up step a b v r along (omega (arith, ints, a_first, h)) (omega (arith, ints, last_b, k));
            on_second = on_of_span s t up step p q w r along (omega (arith, ints, p_first, h)) (omega (arith, ints, last_q, k));
          };
    }
  where
    above_zero : (r : Rational) → pos 0 ≤ℤ r.d
    above_zero r = let h : pos 0 <ℤ r.d = r.above_zero in omega (arith, ints, h)

-- the five points that the call finds
pub record AreFound (s t : Segment) (a b p q first last : Point) : Type 0 where
  pub line : AreInLine s t
  pub first_ends : AreEndsInOrder s a b
  pub second_ends : AreEndsInOrder t p q
  pub later : IsLater a p first
  pub earlier : IsEarlier b q last

found : (s t : Segment) (a b p q first last : Point) → AreFound s t a b p q first last → (up : Bool) → IsAxis s up → AreSpans s t up first last
found s t a b p q first last k up step =
    spans s t up step a b p q first last (span s s up step (a_lies s) (b_lies s) a b k.first_ends)
    (span s t up step (other_a_lies s t k.line) (other_b_lies s t k.line) p q k.second_ends) k.later k.earlier

-- the last end comes before the first: nothing is shared
pub in_line_apart : (s t : Segment) (a b p q first last : Point) → AreFound s t a b p q first last → AreInOrder last first → last ≢ first → AreApart s t
in_line_apart s t a b p q first last k order apart r shared =
    let x : (up : Bool) × IsAxis s up = axis s in
    let w : AreSpans s t x.0 first last = found s t a b p q first last k x.0 x.1 in
    let m : ((r.d *ℤ key x.0 first) ≤ℤ place_key x.0 r) × (place_key x.0 r ≤ℤ (r.d *ℤ key x.0 last)) = w.from_shared r shared in
    let up : key x.0 first ≤ℤ key x.0 last = cancel_le r.d (key x.0 first) (key x.0 last) r.above_zero (omega (arith, ints, m.0, m.1)) in
    let down : key x.0 last ≤ℤ key x.0 first = key_order s x.0 x.1 last first w.last_lies w.first_lies order in
    apart (key_same s x.0 x.1 last first w.last_lies w.first_lies (omega (arith, ints, up, down)))

-- they are one point: an end of both
ends_differ : (s : Segment) (a b : Point) → AreEndsInOrder s a b → a ≢ b
ends_differ s a b o e = ⊎_elim (λ w. s.different (sym w.0 ∙ e ∙ w.1)) (λ w. s.different (sym w.1 ∙ sym e ∙ w.0)) o.ends

is_end : (s : Segment) (p : Point) → (p ≡ s.a) ⊎ (p ≡ s.b) → IsEnd s (whole p)
is_end s p = ⊎_elim (λ e. inl (subst (λ q. IsSame (whole p) (whole q)) e (same_refl (whole p)))) (λ e. inr (subst (λ q. IsSame (whole p) (whole q)) e (same_refl (whole p))))

end_is_on : (s : Segment) (p : Point) → (p ≡ s.a) ⊎ (p ≡ s.b) → IsOn s (whole p)
end_is_on s p = ⊎_elim (λ e. subst (λ q. IsOn s (whole q)) (sym e) (a_on s)) (λ e. subst (λ q. IsOn s (whole q)) (sym e) (b_on s))

pub in_line_at_ends : (s t : Segment) (a b p q first last : Point) → AreFound s t a b p q first last → first ≡ last → MeetAtEnds s t first
in_line_at_ends s t a b p q first last k e =
    let x : (up : Bool) × IsAxis s up = axis s in
    let w : AreSpans s t x.0 first last = found s t a b p q first last k x.0 x.1 in
    let ends : ((first ≡ s.a) ⊎ (first ≡ s.b)) × ((first ≡ t.a) ⊎ (first ≡ t.b)) =
    ⊎_elim
    (λ f. ⊎_elim (λ l. absurd (ends_differ s a b k.first_ends (sym f ∙ e ∙ l))) (λ l. (first_of s a b k.first_ends first f, last_of t p q k.second_ends first (e ∙ l))) k.earlier.one)
    (λ f. ⊎_elim (λ l. (last_of s a b k.first_ends first (e ∙ l), first_of t p q k.second_ends first f)) (λ l. absurd (ends_differ t p q k.second_ends (sym f ∙ e ∙ l))) k.earlier.one) k.later.one in
    record {
      only =
          record {
            shared = record { on_first = end_is_on s first ends.0; on_second = end_is_on t first ends.1 };
            only = λ r shared.
                let m : ((r.d *ℤ key x.0 first) ≤ℤ place_key x.0 r) × (place_key x.0 r ≤ℤ (r.d *ℤ key x.0 last)) = w.from_shared r shared in
                let f : r.d *ℤ key x.0 first ≡ r.d *ℤ key x.0 last = ap (λ z. r.d *ℤ key x.0 z) e in
                key_place s x.0 x.1 first r w.first_lies shared.on_first.straight (omega (arith, ints, m.0, m.1, f));
          };
      first_end = is_end s first ends.0;
      second_end = is_end t first ends.1;
    }
  where
    first_of : (s : Segment) (a b : Point) → AreEndsInOrder s a b → (p : Point) → p ≡ a → (p ≡ s.a) ⊎ (p ≡ s.b)
    first_of s a b o p e = ⊎_elim (λ w. inl (e ∙ w.0)) (λ w. inr (e ∙ w.0)) o.ends

    last_of : (s : Segment) (a b : Point) → AreEndsInOrder s a b → (p : Point) → p ≡ b → (p ≡ s.a) ⊎ (p ≡ s.b)
    last_of s a b o p e = ⊎_elim (λ w. inr (e ∙ w.1)) (λ w. inl (e ∙ w.1)) o.ends

-- the first comes before the last: the segment between them is shared
pub in_line_overlap : (s t : Segment) (a b p q : Point) (o : Segment) → AreFound s t a b p q o.a o.b → AreInOrder o.a o.b → IsOverlap s t o
in_line_overlap s t a b p q o k order =
    let x : (up : Bool) × IsAxis s up = axis s in
    let w : AreSpans s t x.0 o.a o.b = found s t a b p q o.a o.b k x.0 x.1 in
    let rise : key x.0 o.a ≤ℤ key x.0 o.b = key_order s x.0 x.1 o.a o.b w.first_lies w.last_lies order in
    record {
      points = λ r. (
        λ shared.
            let n : ((r.d *ℤ key x.0 o.a) ≤ℤ place_key x.0 r) × (place_key x.0 r ≤ℤ (r.d *ℤ key x.0 o.b)) = w.from_shared r shared in
            on_by_key s x.0 x.1 o r w.first_lies w.last_lies shared.on_first.straight (inl n),
        λ on.
            let n : ((r.d *ℤ key x.0 o.a) ≤ℤ place_key x.0 r) × (place_key x.0 r ≤ℤ (r.d *ℤ key x.0 o.b)) =
            between_ends (key x.0 o.a) (key x.0 o.b) (key x.0 o.a) (key x.0 o.b) r.d (place_key x.0 r) r.above_zero (inl (refl, refl)) rise (key_by_on x.0 o r on) in
            w.to_shared r (along_by_on s o r w.first_lies w.last_lies on) n.0 n.1,
      );
    }

pub in_line_middle : (s t : Segment) (a b p q first last : Point) → AreFound s t a b p q first last → AreInOrder first last → first ≢ last →
    (m : Rational) → m.x ≡ first.x +ℤ last.x → m.y ≡ first.y +ℤ last.y → m.d ≡ pos 2 → IsMiddle s t m
in_line_middle s t a b p q first last k order apart m ex ey ed =
    record {
      overlap = record { a = first; b = last; different = apart };
      is_overlap = in_line_overlap s t a b p q (record { a = first; b = last; different = apart }) k order;
      x = ex;
      y = ey;
      d = ed;
    }

-- the segment between them, made of the two
pub in_line_made : (s t : Segment) (a b p q first last : Point) → AreFound s t a b p q first last → AreInOrder first last → (o : Segment) → o.a ≡ first → o.b ≡ last → IsOverlap s t o
in_line_made s t a b p q first last k order o e f =
    in_line_overlap s t a b p q o
    (subst (λ z. AreFound s t a b p q z o.b) (sym e) (subst (λ z. AreFound s t a b p q first z) (sym f) k))
    (subst (λ z. AreInOrder z o.b) (sym e) (subst (λ z. AreInOrder first z) (sym f) order))
