-- A segment that doesn't touch the straight line from p up to q: which of its ends lie east of that line tells which of p and q it passes
-- on the east.
use Rattle.std.proofs.Common.{◌≡◌, inl, inr, ℤ, pos, ◌+ℤ◌, ◌-ℤ◌, ◌*ℤ◌, ◌<ℤ◌, ◌≤ℤ◌, arith}
use Rattle.std.proofs.lemmas.Int.{ints, by_lt_z}
use Rattle.tl_geom.specs.declared.point.Point.{Point}
use Rattle.tl_geom.specs.declared.rational.Rational.{Rational}
use Rattle.tl_geom.specs.declared.segment.Segment.{Segment}
use Rattle.tl_geom.proofs.Polynomials.{num, ◌⊕◌, ◌⊖◌, ◌⊗◌, same, same_by}
use Rattle.tl_geom.proofs.Signs.{mono, product_at_least, product_above, times_zero, negated as both_negated, product_below' as below_above}
use Rattle.tl_check_planar.specs.ByHeight.Heights.{turn_at}
use Rattle.tl_check_faces.specs.Facing.{step_x, step_y}
use Rattle.tl_check_faces.proofs.Touching.{IsApart, line_to, touch_right, touch_left}

-- ---- signs of products

pub turned : (a b : ℤ) → a *ℤ b ≡ b *ℤ a
turned a b = same (num a ⊗ num b) (num b ⊗ num a) (omega arith)

more_less : (a b : ℤ) → pos 0 ≤ℤ a → b ≤ℤ pos 0 → (a *ℤ b) ≤ℤ pos 0
more_less a b h k = let m : (a *ℤ b) ≤ℤ (a *ℤ pos 0) = mono a b (pos 0) h k in let z = times_zero a in omega (arith, ints, m, z)

less_more : (a b : ℤ) → a ≤ℤ pos 0 → pos 0 ≤ℤ b → (a *ℤ b) ≤ℤ pos 0
less_more a b h k = let m = more_less b a k h in let e = turned a b in omega (arith, ints, m, e)

less_less : (a b : ℤ) → a ≤ℤ pos 0 → b ≤ℤ pos 0 → pos 0 ≤ℤ (a *ℤ b)
less_less a b h k =
    let m = product_at_least (pos 0 -ℤ a) (pos 0 -ℤ b) (omega (arith, ints, h)) (omega (arith, ints, k)) in
    let e = both_negated a b in omega (arith, ints, m, e)

-- x v + y w is -s t, with s above 0
module _ (x v y w s t : ℤ) (sum : x *ℤ v +ℤ y *ℤ w ≡ pos 0 -ℤ s *ℤ t) (some : pos 0 <ℤ s) where
  at_least : (x *ℤ v) ≤ℤ pos 0 → (y *ℤ w) ≤ℤ pos 0 → pos 0 ≤ℤ t
  at_least one other =
      by_lt_z t (pos 0)
      (λ less. absurd (let m = below_above t s less some in let e = turned s t in omega (arith, ints, sum, one, other, m, e)))
      (λ more. more)

  at_most : pos 0 ≤ℤ (x *ℤ v) → pos 0 ≤ℤ (y *ℤ w) → t ≤ℤ pos 0
  at_most one other =
      by_lt_z (pos 0) t
      (λ more. absurd (let m = product_above s t some more in omega (arith, ints, sum, one, other, m)))
      (λ less. less)

-- ---- the line from p to q

weighed : (sx sy c ax ay bx by x y d : ℤ) → sx *ℤ y -ℤ sy *ℤ x +ℤ c *ℤ d ≡ pos 0 →
    (sx *ℤ ay -ℤ sy *ℤ ax +ℤ c) *ℤ (d *ℤ by -ℤ y) +ℤ (sx *ℤ by -ℤ sy *ℤ bx +ℤ c) *ℤ (y -ℤ d *ℤ ay) ≡
    pos 0 -ℤ sy *ℤ ((bx -ℤ ax) *ℤ (y -ℤ d *ℤ ay) -ℤ (by -ℤ ay) *ℤ (x -ℤ d *ℤ ax))
weighed sx sy c ax ay bx by x y d on =
    let s = num sx in let t = num sy in let k = num c in let a = num ax in let b = num ay in let e = num bx in let f = num by in
    let X = num x in let Y = num y in let D = num d in
    same_by ((s ⊗ b ⊖ t ⊗ a ⊕ k) ⊗ (D ⊗ f ⊖ Y) ⊕ (s ⊗ f ⊖ t ⊗ e ⊕ k) ⊗ (Y ⊖ D ⊗ b))
    (num (pos 0) ⊖ t ⊗ ((e ⊖ a) ⊗ (Y ⊖ D ⊗ b) ⊖ (f ⊖ b) ⊗ (X ⊖ D ⊗ a)))
    (f ⊖ b) (s ⊗ Y ⊖ t ⊗ X ⊕ k ⊗ D) (num (pos 0)) on (omega arith)

first_on : (px py pd qx qy qd : ℤ) → (qx *ℤ pd -ℤ px *ℤ qd) *ℤ py -ℤ (qy *ℤ pd -ℤ py *ℤ qd) *ℤ px +ℤ (px *ℤ qy -ℤ qx *ℤ py) *ℤ pd ≡ pos 0
first_on px py pd qx qy qd =
    let a = num px in let b = num py in let d = num pd in let e = num qx in let f = num qy in let g = num qd in
    same ((e ⊗ d ⊖ a ⊗ g) ⊗ b ⊖ (f ⊗ d ⊖ b ⊗ g) ⊗ a ⊕ (a ⊗ f ⊖ e ⊗ b) ⊗ d) (num (pos 0)) (omega arith)

last_on : (px py pd qx qy qd : ℤ) → (qx *ℤ pd -ℤ px *ℤ qd) *ℤ qy -ℤ (qy *ℤ pd -ℤ py *ℤ qd) *ℤ qx +ℤ (px *ℤ qy -ℤ qx *ℤ py) *ℤ qd ≡ pos 0
last_on px py pd qx qy qd =
    let a = num px in let b = num py in let d = num pd in let e = num qx in let f = num qy in let g = num qd in
    same ((e ⊗ d ⊖ a ⊗ g) ⊗ f ⊖ (f ⊗ d ⊖ b ⊗ g) ⊗ e ⊕ (a ⊗ f ⊖ e ⊗ b) ⊗ g) (num (pos 0)) (omega arith)

-- the latitude of a point is above that of the rational point, or not above it
abbrev pub IsAbove : Rational → Point → Type 0
IsAbove p v = p.y <ℤ (p.d *ℤ v.y)

abbrev pub IsNoHigher : Rational → Point → Type 0
IsNoHigher p v = (p.d *ℤ v.y) ≤ℤ p.y

module _ (p q : Rational) (north : pos 0 <ℤ step_y p q) (u : Segment) (apart : IsApart p q u) where
  abbrev a : Point
  a = u.a

  abbrev b : Point
  b = u.b

  abbrev line_a : ℤ
  line_a = line_to p q u.a

  abbrev line_b : ℤ
  line_b = line_to p q u.b

  abbrev turn_p : ℤ
  turn_p = turn_at u.a u.b p

  abbrev turn_q : ℤ
  turn_q = turn_at u.a u.b q

  at_p : line_a *ℤ (p.d *ℤ b.y -ℤ p.y) +ℤ line_b *ℤ (p.y -ℤ p.d *ℤ a.y) ≡ pos 0 -ℤ step_y p q *ℤ turn_p
  at_p =
      weighed (step_x p q) (step_y p q) (p.x *ℤ q.y -ℤ q.x *ℤ p.y) a.x a.y b.x b.y p.x p.y p.d
      (first_on p.x p.y p.d q.x q.y q.d)

  at_q : line_a *ℤ (q.d *ℤ b.y -ℤ q.y) +ℤ line_b *ℤ (q.y -ℤ q.d *ℤ a.y) ≡ pos 0 -ℤ step_y p q *ℤ turn_q
  at_q =
      weighed (step_x p q) (step_y p q) (p.x *ℤ q.y -ℤ q.x *ℤ p.y) a.x a.y b.x b.y q.x q.y q.d
      (last_on p.x p.y p.d q.x q.y q.d)

  p_at_least : (line_a *ℤ (p.d *ℤ b.y -ℤ p.y)) ≤ℤ pos 0 → (line_b *ℤ (p.y -ℤ p.d *ℤ a.y)) ≤ℤ pos 0 → pos 0 ≤ℤ turn_p
  p_at_least = at_least line_a (p.d *ℤ b.y -ℤ p.y) line_b (p.y -ℤ p.d *ℤ a.y) (step_y p q) turn_p at_p north

  p_at_most : pos 0 ≤ℤ (line_a *ℤ (p.d *ℤ b.y -ℤ p.y)) → pos 0 ≤ℤ (line_b *ℤ (p.y -ℤ p.d *ℤ a.y)) → turn_p ≤ℤ pos 0
  p_at_most = at_most line_a (p.d *ℤ b.y -ℤ p.y) line_b (p.y -ℤ p.d *ℤ a.y) (step_y p q) turn_p at_p north

  q_at_least : (line_a *ℤ (q.d *ℤ b.y -ℤ q.y)) ≤ℤ pos 0 → (line_b *ℤ (q.y -ℤ q.d *ℤ a.y)) ≤ℤ pos 0 → pos 0 ≤ℤ turn_q
  q_at_least = at_least line_a (q.d *ℤ b.y -ℤ q.y) line_b (q.y -ℤ q.d *ℤ a.y) (step_y p q) turn_q at_q north

  q_at_most : pos 0 ≤ℤ (line_a *ℤ (q.d *ℤ b.y -ℤ q.y)) → pos 0 ≤ℤ (line_b *ℤ (q.y -ℤ q.d *ℤ a.y)) → turn_q ≤ℤ pos 0
  q_at_most = at_most line_a (q.d *ℤ b.y -ℤ q.y) line_b (q.y -ℤ q.d *ℤ a.y) (step_y p q) turn_q at_q north

  -- ---- from below p to between

  module _ (low : IsNoHigher p u.a) (past : IsAbove p u.b) (low' : IsNoHigher q u.a) (high : IsNoHigher q u.b) where
    pub last_east : pos 0 <ℤ turn_p → line_b <ℤ pos 0
    last_east more =
        by_lt_z line_b (pos 0) (λ h. h)
        (λ right.
        let own = at_p in
        let left : line_a <ℤ pos 0 = by_lt_z line_a (pos 0) (λ h. h) (λ h. absurd
        (let one = product_at_least line_a (p.d *ℤ b.y -ℤ p.y) h (omega (arith, ints, past)) in
        let two = product_at_least line_b (p.y -ℤ p.d *ℤ a.y) right (omega (arith, ints, low)) in
        let three = product_above (step_y p q) turn_p north more in
        omega (arith, ints, own, one, two, three))) in
        absurd (touch_left p q u apart (omega (arith, ints, left)) right (inl left) (omega (arith, ints, more))
        (q_at_most (less_less line_a (q.d *ℤ b.y -ℤ q.y) (omega (arith, ints, left)) (omega (arith, ints, high)))
        (product_at_least line_b (q.y -ℤ q.d *ℤ a.y) right (omega (arith, ints, low'))))))

    pub passed_by_last : line_b <ℤ pos 0 → pos 0 <ℤ turn_p
    passed_by_last right =
        by_lt_z (pos 0) turn_p (λ h. h)
        (λ less.
        let own = at_p in
        let left : pos 0 ≤ℤ line_a = by_lt_z line_a (pos 0) (λ h. absurd
        (let one = below_above line_a (p.d *ℤ b.y -ℤ p.y) h (omega (arith, ints, past)) in
        let two = less_more line_b (p.y -ℤ p.d *ℤ a.y) (omega (arith, ints, right)) (omega (arith, ints, low)) in
        let three = more_less (step_y p q) turn_p (omega (arith, ints, north)) less in
        omega (arith, ints, own, one, two, three))) (λ h. h) in
        absurd (touch_right p q u apart left (omega (arith, ints, right)) (inr right) less
        (q_at_least (more_less line_a (q.d *ℤ b.y -ℤ q.y) left (omega (arith, ints, high)))
        (less_more line_b (q.y -ℤ q.d *ℤ a.y) (omega (arith, ints, right)) (omega (arith, ints, low'))))))

  -- ---- from between to above q

  module _ (low : IsAbove p u.a) (past : IsAbove p u.b) (low' : IsNoHigher q u.a) (high : IsAbove q u.b) where
    pub first_east : pos 0 <ℤ turn_q → line_a <ℤ pos 0
    first_east more =
        by_lt_z line_a (pos 0) (λ h. h)
        (λ left.
        let own = at_q in
        let right : line_b <ℤ pos 0 = by_lt_z line_b (pos 0) (λ h. h) (λ h. absurd
        (let one = product_at_least line_a (q.d *ℤ b.y -ℤ q.y) left (omega (arith, ints, high)) in
        let two = product_at_least line_b (q.y -ℤ q.d *ℤ a.y) h (omega (arith, ints, low')) in
        let three = product_above (step_y p q) turn_q north more in
        omega (arith, ints, own, one, two, three))) in
        absurd (touch_right p q u apart left (omega (arith, ints, right)) (inr right)
        (p_at_most (product_at_least line_a (p.d *ℤ b.y -ℤ p.y) left (omega (arith, ints, past)))
        (less_less line_b (p.y -ℤ p.d *ℤ a.y) (omega (arith, ints, right)) (omega (arith, ints, low)))) (omega (arith, ints, more))))

    pub passed_by_first : line_a <ℤ pos 0 → pos 0 <ℤ turn_q
    passed_by_first left =
        by_lt_z (pos 0) turn_q (λ h. h)
        (λ less.
        let own = at_q in
        let right : pos 0 ≤ℤ line_b = by_lt_z line_b (pos 0) (λ h. absurd
        (let one = below_above line_a (q.d *ℤ b.y -ℤ q.y) left (omega (arith, ints, high)) in
        let two = less_more line_b (q.y -ℤ q.d *ℤ a.y) (omega (arith, ints, h)) (omega (arith, ints, low')) in
        let three = more_less (step_y p q) turn_q (omega (arith, ints, north)) less in
        omega (arith, ints, own, one, two, three))) (λ h. h) in
        absurd (touch_left p q u apart (omega (arith, ints, left)) right (inl left)
        (p_at_least (less_more line_a (p.d *ℤ b.y -ℤ p.y) (omega (arith, ints, left)) (omega (arith, ints, past)))
        (more_less line_b (p.y -ℤ p.d *ℤ a.y) right (omega (arith, ints, low)))) less))

  -- ---- between

  module _ (low : IsAbove p u.a) (past : IsAbove p u.b) (low' : IsNoHigher q u.a) (high : IsNoHigher q u.b) where
    pub both_east : line_a <ℤ pos 0 → line_b <ℤ pos 0
    both_east left =
        by_lt_z line_b (pos 0) (λ h. h)
        (λ right.
        absurd (touch_left p q u apart (omega (arith, ints, left)) right (inl left)
        (p_at_least (less_more line_a (p.d *ℤ b.y -ℤ p.y) (omega (arith, ints, left)) (omega (arith, ints, past)))
        (more_less line_b (p.y -ℤ p.d *ℤ a.y) right (omega (arith, ints, low))))
        (q_at_most (less_less line_a (q.d *ℤ b.y -ℤ q.y) (omega (arith, ints, left)) (omega (arith, ints, high)))
        (product_at_least line_b (q.y -ℤ q.d *ℤ a.y) right (omega (arith, ints, low'))))))

    pub both_east_back : line_b <ℤ pos 0 → line_a <ℤ pos 0
    both_east_back right =
        by_lt_z line_a (pos 0) (λ h. h)
        (λ left.
        absurd (touch_right p q u apart left (omega (arith, ints, right)) (inr right)
        (p_at_most (product_at_least line_a (p.d *ℤ b.y -ℤ p.y) left (omega (arith, ints, past)))
        (less_less line_b (p.y -ℤ p.d *ℤ a.y) (omega (arith, ints, right)) (omega (arith, ints, low))))
        (q_at_least (more_less line_a (q.d *ℤ b.y -ℤ q.y) left (omega (arith, ints, high)))
        (less_more line_b (q.y -ℤ q.d *ℤ a.y) (omega (arith, ints, right)) (omega (arith, ints, low'))))))
