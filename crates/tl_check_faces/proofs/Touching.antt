-- Two places, and a segment that touches the straight line between them: by on which sides of the one the ends of the other lie.
use Rattle.std.proofs.Common.{◌≡◌, ◌⊎◌, inl, inr, ⊎_elim, ℤ, pos, ◌+ℤ◌, ◌-ℤ◌, ◌*ℤ◌, ◌<ℤ◌, ◌≤ℤ◌, refl, ap, sym, ◌∙◌, arith}
use Rattle.std.proofs.lemmas.Int.{ints, by_lt_z}
use Rattle.tl_geom.specs.declared.point.Point.{Point}
use Rattle.tl_geom.specs.declared.rational.Rational.{Rational}
use Rattle.tl_geom.specs.declared.segment.Segment.{Segment}
use Rattle.tl_geom.specs.Plane.{IsOn, IsSame}
use Rattle.tl_geom.proofs.Polynomials.{num, ◌⊕◌, ◌⊖◌, ◌⊗◌, same, same_by}
use Rattle.tl_geom.proofs.Signs.{product_above, sign}
use Rattle.tl_geom.proofs.Places.{place, place_on, on_same}
use Rattle.tl_check_planar.specs.ByHeight.Heights.{turn_at}
use Rattle.tl_check_faces.specs.Facing.{IsStrictlyBetween, step_x, step_y}
use Rattle.tl_check_faces.proofs.Means.{mean, mean_turn, mean_north, mean_south}
use Rattle.tl_check_faces.proofs.Crossing.{spread}

-- neither place lies on the segment, nor does a place between them
pub record IsApart (p q : Rational) (u : Segment) : Type 0 where
  pub first : ¬ IsOn u p
  pub last : ¬ IsOn u q
  pub between : (r : Rational) → IsStrictlyBetween p q r → ¬ IsOn u r

pub between_turned : (p q r : Rational) → IsStrictlyBetween p q r → IsStrictlyBetween q p r
between_turned p q r b =
    let x = b.x in let y = b.y in
    record {
      m = b.n;
      n = b.m;
      some_p = b.some_q;
      some_q = b.some_p;
      x = exchanged b.m b.n p.d q.d p.x q.x r.x r.d b.x;
      y = exchanged b.m b.n p.d q.d p.y q.y r.y r.d b.y;
    }
  where
    exchanged : (m n d e a b x f : ℤ) → x *ℤ (m *ℤ d +ℤ n *ℤ e) ≡ (m *ℤ a +ℤ n *ℤ b) *ℤ f → x *ℤ (n *ℤ e +ℤ m *ℤ d) ≡ (n *ℤ b +ℤ m *ℤ a) *ℤ f
    exchanged m n d e a b x f h =
        let M = num m in let N = num n in
        same (num x ⊗ (N ⊗ num e ⊕ M ⊗ num d)) (num x ⊗ (M ⊗ num d ⊕ N ⊗ num e)) (omega arith)
        ∙ h ∙ same ((M ⊗ num a ⊕ N ⊗ num b) ⊗ num f) ((N ⊗ num b ⊕ M ⊗ num a) ⊗ num f) (omega arith)

pub apart_turned : (p q : Rational) (u : Segment) → IsApart p q u → IsApart q p u
apart_turned p q u a = record { first = a.last; last = a.first; between = λ r b. a.between r (between_turned q p r b) }

-- above 0 where a point lies on the left of the line from p to q, below 0 where it lies on the right
abbrev pub line_to : (p q : Rational) → Point → ℤ
line_to p q v = step_x p q *ℤ v.y -ℤ step_y p q *ℤ v.x +ℤ (p.x *ℤ q.y -ℤ q.x *ℤ p.y)

line_turned : (px py pd qx qy qd x y : ℤ) →
    (px *ℤ qd -ℤ qx *ℤ pd) *ℤ y -ℤ (py *ℤ qd -ℤ qy *ℤ pd) *ℤ x +ℤ (qx *ℤ py -ℤ px *ℤ qy) ≡
    pos 0 -ℤ ((qx *ℤ pd -ℤ px *ℤ qd) *ℤ y -ℤ (qy *ℤ pd -ℤ py *ℤ qd) *ℤ x +ℤ (px *ℤ qy -ℤ qx *ℤ py))
line_turned px py pd qx qy qd x y =
    let a = num px in let b = num py in let d = num pd in let e = num qx in let f = num qy in let g = num qd in
    same ((a ⊗ g ⊖ e ⊗ d) ⊗ num y ⊖ (b ⊗ g ⊖ f ⊗ d) ⊗ num x ⊕ (e ⊗ b ⊖ a ⊗ f))
    (num (pos 0) ⊖ ((e ⊗ d ⊖ a ⊗ g) ⊗ num y ⊖ (f ⊗ d ⊖ b ⊗ g) ⊗ num x ⊕ (a ⊗ f ⊖ e ⊗ b))) (omega arith)

pub turned_line : (p q : Rational) (v : Point) → line_to q p v ≡ pos 0 -ℤ line_to p q v
turned_line p q v = line_turned p.x p.y p.d q.x q.y q.d v.x v.y

-- ---- how the two turns of the one and those of the other hang together

-- from a to b: (ax, ay) and (bx, by); one determinant
turns_d : (ax ay bx by px py pd qx qy qd : ℤ) →
    ((qx *ℤ pd -ℤ px *ℤ qd) *ℤ ay -ℤ (qy *ℤ pd -ℤ py *ℤ qd) *ℤ ax +ℤ (px *ℤ qy -ℤ qx *ℤ py))
    -ℤ ((qx *ℤ pd -ℤ px *ℤ qd) *ℤ by -ℤ (qy *ℤ pd -ℤ py *ℤ qd) *ℤ bx +ℤ (px *ℤ qy -ℤ qx *ℤ py)) ≡
    ((bx -ℤ ax) *ℤ (qy -ℤ qd *ℤ ay) -ℤ (by -ℤ ay) *ℤ (qx -ℤ qd *ℤ ax)) *ℤ pd -ℤ ((bx -ℤ ax) *ℤ (py -ℤ pd *ℤ ay) -ℤ (by -ℤ ay) *ℤ (px -ℤ pd *ℤ ax)) *ℤ qd
turns_d ax ay bx by px py pd qx qy qd =
    let a = num ax in let b = num ay in let c = num bx in let d = num by in let x = num px in let y = num py in let e = num pd in
    let X = num qx in let Y = num qy in let E = num qd in
    same (((X ⊗ e ⊖ x ⊗ E) ⊗ b ⊖ (Y ⊗ e ⊖ y ⊗ E) ⊗ a ⊕ (x ⊗ Y ⊖ X ⊗ y)) ⊖ ((X ⊗ e ⊖ x ⊗ E) ⊗ d ⊖ (Y ⊗ e ⊖ y ⊗ E) ⊗ c ⊕ (x ⊗ Y ⊖ X ⊗ y)))
    (((c ⊖ a) ⊗ (Y ⊖ E ⊗ b) ⊖ (d ⊖ b) ⊗ (X ⊖ E ⊗ a)) ⊗ e ⊖ ((c ⊖ a) ⊗ (y ⊖ e ⊗ b) ⊖ (d ⊖ b) ⊗ (x ⊖ e ⊗ a)) ⊗ E) (omega arith)

turns_x : (ax ay bx by px py pd qx qy qd : ℤ) →
    ((qx *ℤ pd -ℤ px *ℤ qd) *ℤ ay -ℤ (qy *ℤ pd -ℤ py *ℤ qd) *ℤ ax +ℤ (px *ℤ qy -ℤ qx *ℤ py)) *ℤ bx
    -ℤ ((qx *ℤ pd -ℤ px *ℤ qd) *ℤ by -ℤ (qy *ℤ pd -ℤ py *ℤ qd) *ℤ bx +ℤ (px *ℤ qy -ℤ qx *ℤ py)) *ℤ ax ≡
    ((bx -ℤ ax) *ℤ (qy -ℤ qd *ℤ ay) -ℤ (by -ℤ ay) *ℤ (qx -ℤ qd *ℤ ax)) *ℤ px -ℤ ((bx -ℤ ax) *ℤ (py -ℤ pd *ℤ ay) -ℤ (by -ℤ ay) *ℤ (px -ℤ pd *ℤ ax)) *ℤ qx
turns_x ax ay bx by px py pd qx qy qd =
    let a = num ax in let b = num ay in let c = num bx in let d = num by in let x = num px in let y = num py in let e = num pd in
    let X = num qx in let Y = num qy in let E = num qd in
    same (((X ⊗ e ⊖ x ⊗ E) ⊗ b ⊖ (Y ⊗ e ⊖ y ⊗ E) ⊗ a ⊕ (x ⊗ Y ⊖ X ⊗ y)) ⊗ c ⊖ ((X ⊗ e ⊖ x ⊗ E) ⊗ d ⊖ (Y ⊗ e ⊖ y ⊗ E) ⊗ c ⊕ (x ⊗ Y ⊖ X ⊗ y)) ⊗ a)
    (((c ⊖ a) ⊗ (Y ⊖ E ⊗ b) ⊖ (d ⊖ b) ⊗ (X ⊖ E ⊗ a)) ⊗ x ⊖ ((c ⊖ a) ⊗ (y ⊖ e ⊗ b) ⊖ (d ⊖ b) ⊗ (x ⊖ e ⊗ a)) ⊗ X) (omega arith)

turns_y : (ax ay bx by px py pd qx qy qd : ℤ) →
    ((qx *ℤ pd -ℤ px *ℤ qd) *ℤ ay -ℤ (qy *ℤ pd -ℤ py *ℤ qd) *ℤ ax +ℤ (px *ℤ qy -ℤ qx *ℤ py)) *ℤ by
    -ℤ ((qx *ℤ pd -ℤ px *ℤ qd) *ℤ by -ℤ (qy *ℤ pd -ℤ py *ℤ qd) *ℤ bx +ℤ (px *ℤ qy -ℤ qx *ℤ py)) *ℤ ay ≡
    ((bx -ℤ ax) *ℤ (qy -ℤ qd *ℤ ay) -ℤ (by -ℤ ay) *ℤ (qx -ℤ qd *ℤ ax)) *ℤ py -ℤ ((bx -ℤ ax) *ℤ (py -ℤ pd *ℤ ay) -ℤ (by -ℤ ay) *ℤ (px -ℤ pd *ℤ ax)) *ℤ qy
turns_y ax ay bx by px py pd qx qy qd =
    let a = num ax in let b = num ay in let c = num bx in let d = num by in let x = num px in let y = num py in let e = num pd in
    let X = num qx in let Y = num qy in let E = num qd in
    same (((X ⊗ e ⊖ x ⊗ E) ⊗ b ⊖ (Y ⊗ e ⊖ y ⊗ E) ⊗ a ⊕ (x ⊗ Y ⊖ X ⊗ y)) ⊗ d ⊖ ((X ⊗ e ⊖ x ⊗ E) ⊗ d ⊖ (Y ⊗ e ⊖ y ⊗ E) ⊗ c ⊕ (x ⊗ Y ⊖ X ⊗ y)) ⊗ b)
    (((c ⊖ a) ⊗ (Y ⊖ E ⊗ b) ⊖ (d ⊖ b) ⊗ (X ⊖ E ⊗ a)) ⊗ y ⊖ ((c ⊖ a) ⊗ (y ⊖ e ⊗ b) ⊖ (d ⊖ b) ⊗ (x ⊖ e ⊗ a)) ⊗ Y) (omega arith)

parts_of : (m n a b : ℤ) → (m -ℤ n) *ℤ a +ℤ m *ℤ (b -ℤ a) ≡ m *ℤ b -ℤ n *ℤ a
parts_of m n a b = same ((num m ⊖ num n) ⊗ num a ⊕ num m ⊗ (num b ⊖ num a)) (num m ⊗ num b ⊖ num n ⊗ num a) (omega arith)

minus_times : (t a : ℤ) → (pos 0 -ℤ t) *ℤ a ≡ pos 0 -ℤ t *ℤ a
minus_times t a = same ((num (pos 0) ⊖ num t) ⊗ num a) (num (pos 0) ⊖ num t ⊗ num a) (omega arith)

-- a place that is s parts of p and t parts of q taken away, where t is 0, or s is
at_first : (s t a b d e : ℤ) → t ≡ pos 0 → (s *ℤ a -ℤ t *ℤ b) *ℤ d ≡ a *ℤ (s *ℤ d -ℤ t *ℤ e)
at_first s t a b d e none =
    let T = num t in
    same_by ((num s ⊗ num a ⊖ T ⊗ num b) ⊗ num d) (num a ⊗ (num s ⊗ num d ⊖ T ⊗ num e)) (num a ⊗ num e ⊖ num b ⊗ num d) T (num (pos 0)) none (omega arith)

at_last : (s t a b d e : ℤ) → s ≡ pos 0 → (s *ℤ a -ℤ t *ℤ b) *ℤ e ≡ b *ℤ (s *ℤ d -ℤ t *ℤ e)
at_last s t a b d e none =
    let S = num s in
    same_by ((S ⊗ num a ⊖ num t ⊗ num b) ⊗ num e) (num b ⊗ (S ⊗ num d ⊖ num t ⊗ num e)) (num a ⊗ num e ⊖ num b ⊗ num d) S (num (pos 0)) none (omega arith)

module _ (p q : Rational) (u : Segment) where
  abbrev turn_p : ℤ
  turn_p = turn_at u.a u.b p

  abbrev turn_q : ℤ
  turn_q = turn_at u.a u.b q

  abbrev line_a : ℤ
  line_a = line_to p q u.a

  abbrev line_b : ℤ
  line_b = line_to p q u.b

  -- the place of the segment on the line by p and q
  module _ (wide : pos 0 <ℤ (line_a -ℤ line_b)) where
    abbrev shared : Rational
    shared = place u line_a (line_a -ℤ line_b) wide

    is_x : shared.x ≡ turn_q *ℤ p.x -ℤ turn_p *ℤ q.x
    is_x = parts_of line_a line_b u.a.x u.b.x ∙ turns_x u.a.x u.a.y u.b.x u.b.y p.x p.y p.d q.x q.y q.d

    is_y : shared.y ≡ turn_q *ℤ p.y -ℤ turn_p *ℤ q.y
    is_y = parts_of line_a line_b u.a.y u.b.y ∙ turns_y u.a.x u.a.y u.b.x u.b.y p.x p.y p.d q.x q.y q.d

    is_d : shared.d ≡ turn_q *ℤ p.d -ℤ turn_p *ℤ q.d
    is_d = turns_d u.a.x u.a.y u.b.x u.b.y p.x p.y p.d q.x q.y q.d

    at_p : turn_p ≡ pos 0 → IsSame shared p
    at_p none = record {
      x = ap (λ z. z *ℤ p.d) is_x ∙ at_first turn_q turn_p p.x q.x p.d q.d none ∙ ap (λ z. p.x *ℤ z) (sym is_d);
      y = ap (λ z. z *ℤ p.d) is_y ∙ at_first turn_q turn_p p.y q.y p.d q.d none ∙ ap (λ z. p.y *ℤ z) (sym is_d);
    }

    at_q : turn_q ≡ pos 0 → IsSame shared q
    at_q none = record {
      x = ap (λ z. z *ℤ q.d) is_x ∙ at_last turn_q turn_p p.x q.x p.d q.d none ∙ ap (λ z. q.x *ℤ z) (sym is_d);
      y = ap (λ z. z *ℤ q.d) is_y ∙ at_last turn_q turn_p p.y q.y p.d q.d none ∙ ap (λ z. q.y *ℤ z) (sym is_d);
    }

    both : (a b : ℤ) → turn_q *ℤ a +ℤ (pos 0 -ℤ turn_p) *ℤ b ≡ turn_q *ℤ a -ℤ turn_p *ℤ b
    both a b = let e = minus_times turn_p b in omega (arith, ints, e)

    strictly : turn_p <ℤ pos 0 → pos 0 <ℤ turn_q → IsStrictlyBetween p q shared
    strictly some some' = record {
      m = turn_q;
      n = pos 0 -ℤ turn_p;
      some_p = some';
      some_q = omega (arith, ints, some);
      x = ap (λ z. shared.x *ℤ z) (both p.d q.d ∙ sym is_d) ∙ ap (λ z. z *ℤ shared.d) (is_x ∙ sym (both p.x q.x));
      y = ap (λ z. shared.y *ℤ z) (both p.d q.d ∙ sym is_d) ∙ ap (λ z. z *ℤ shared.d) (is_y ∙ sym (both p.y q.y));
    }

  -- the ends lie on both sides of the line by p and q, and these on both sides of the segment's line
  pub touch_right : IsApart p q u → pos 0 ≤ℤ line_a → line_b ≤ℤ pos 0 → (pos 0 <ℤ line_a) ⊎ (line_b <ℤ pos 0) → turn_p ≤ℤ pos 0 → pos 0 ≤ℤ turn_q → ⊥
  touch_right apart left right strict less more =
      let wide : pos 0 <ℤ (line_a -ℤ line_b) = ⊎_elim (λ h. omega (arith, ints, h, right)) (λ h. omega (arith, ints, h, left)) strict in
      let on : IsOn u (shared wide) = place_on u line_a (line_a -ℤ line_b) wide left (omega (arith, ints, right)) in
      by_lt_z turn_p (pos 0)
      (λ some. by_lt_z (pos 0) turn_q
      (λ some'. apart.between (shared wide) (strictly wide some some') on)
      (λ none. apart.last (on_same u (shared wide) q (at_q wide (omega (arith, ints, more, none))) on)))
      (λ none. apart.first (on_same u (shared wide) p (at_p wide (omega (arith, ints, less, none))) on))

-- the other way round
pub touch_left : (p q : Rational) (u : Segment) → IsApart p q u → line_to p q u.a ≤ℤ pos 0 → pos 0 ≤ℤ line_to p q u.b →
    (line_to p q u.a <ℤ pos 0) ⊎ (pos 0 <ℤ line_to p q u.b) → pos 0 ≤ℤ turn_at u.a u.b p → turn_at u.a u.b q ≤ℤ pos 0 → ⊥
touch_left p q u apart left right strict more less =
    let e = turned_line p q u.a in let f = turned_line p q u.b in
    touch_right q p u (apart_turned p q u apart) (omega (arith, ints, e, left)) (omega (arith, ints, f, right))
    (⊎_elim (λ h. inl (omega (arith, ints, e, h))) (λ h. inr (omega (arith, ints, f, h))) strict) less more

-- ---- a place of a segment's line between the latitudes of its ends

level_x : (ux uy ax x y d k : ℤ) → ux *ℤ k -ℤ uy *ℤ (x -ℤ d *ℤ ax) ≡ pos 0 → ((d *ℤ uy) *ℤ ax +ℤ k *ℤ ux) *ℤ d ≡ x *ℤ (d *ℤ uy)
level_x ux uy ax x y d k e =
    let u = num ux in let v = num uy in let D = num d in
    same_by (((D ⊗ v) ⊗ num ax ⊕ num k ⊗ u) ⊗ D) (num x ⊗ (D ⊗ v)) D (u ⊗ num k ⊖ v ⊗ (num x ⊖ D ⊗ num ax)) (num (pos 0)) e (omega arith)

level_y : (uy ay y d : ℤ) → ((d *ℤ uy) *ℤ ay +ℤ (y -ℤ d *ℤ ay) *ℤ uy) *ℤ d ≡ y *ℤ (d *ℤ uy)
level_y uy ay y d =
    let v = num uy in let D = num d in
    same (((D ⊗ v) ⊗ num ay ⊕ (num y ⊖ D ⊗ num ay) ⊗ v) ⊗ D) (num y ⊗ (D ⊗ v)) (omega arith)

on_by_latitude : (u : Segment) (r : Rational) → u.a.y <ℤ u.b.y → (r.d *ℤ u.a.y) ≤ℤ r.y → r.y ≤ℤ (r.d *ℤ u.b.y) → turn_at u.a u.b r ≡ pos 0 → IsOn u r
on_by_latitude u r up low high none =
    let wide : pos 0 <ℤ (r.d *ℤ (u.b.y -ℤ u.a.y)) = product_above r.d (u.b.y -ℤ u.a.y) r.above_zero (omega (arith, ints, up)) in
    let parts = spread r.d u.a.y u.b.y in
    on_same u (place u (r.y -ℤ r.d *ℤ u.a.y) (r.d *ℤ (u.b.y -ℤ u.a.y)) wide) r
    (record {
      x = level_x (u.b.x -ℤ u.a.x) (u.b.y -ℤ u.a.y) u.a.x r.x r.y r.d (r.y -ℤ r.d *ℤ u.a.y) none;
      y = level_y (u.b.y -ℤ u.a.y) u.a.y r.y r.d;
    })
    (place_on u (r.y -ℤ r.d *ℤ u.a.y) (r.d *ℤ (u.b.y -ℤ u.a.y)) wide (omega (arith, ints, low)) (omega (arith, ints, parts, high)))

-- p and q, whose latitudes are between those of the ends, lie on one side of a segment that is apart
module _ (p q : Rational) (u : Segment) (apart : IsApart p q u) (up : u.a.y <ℤ u.b.y)
    (low : (p.d *ℤ u.a.y) ≤ℤ p.y) (high : p.y ≤ℤ (p.d *ℤ u.b.y)) (low' : (q.d *ℤ u.a.y) ≤ℤ q.y) (high' : q.y ≤ℤ (q.d *ℤ u.b.y)) where
  pub one_side : pos 0 <ℤ turn_at u.a u.b p → pos 0 <ℤ turn_at u.a u.b q
  one_side more =
      ⊎_elim
      (λ less. absurd (through less))
      (⊎_elim (λ none. absurd (apart.last (on_by_latitude u q up low' high' none))) (λ h. h))
      (sign (turn_at u.a u.b q))
    where
      none : (v z : ℤ) → (pos 0 -ℤ z) *ℤ v +ℤ v *ℤ z ≡ pos 0
      none v z = same ((num (pos 0) ⊖ num z) ⊗ num v ⊕ num v ⊗ num z) (num (pos 0)) (omega arith)

      through : turn_at u.a u.b q <ℤ pos 0 → ⊥
      through less =
          let m : ℤ = pos 0 -ℤ turn_at u.a u.b q in
          let n : ℤ = turn_at u.a u.b p in
          let some : pos 0 <ℤ (pos 0 -ℤ turn_at u.a u.b q) = omega (arith, ints, less) in
          apart.between (mean m n some more p q) (record { m = m; n = n; some_p = some; some_q = more; x = refl; y = refl })
          (on_by_latitude u (mean m n some more p q) up (mean_north m n some more p q u.a.y low low') (mean_south m n some more p q u.b.y high high')
          (mean_turn (u.b.x -ℤ u.a.x) (u.b.y -ℤ u.a.y) u.a.x u.a.y m n p.x p.y p.d q.x q.y q.d ∙ none n (turn_at u.a u.b q)))
