-- Where facing sides agree along lines, faces agree: what lies near the one end of a straight line that meets no chain lies near the other.
use Rattle.std.proofs.Common.{◌≡◌, inl, inr, ⊎_elim, ℕ, ◌+◌, ℤ, pos, ◌+ℤ◌, ◌-ℤ◌, ◌*ℤ◌, ◌<ℤ◌, ◌≤ℤ◌, List, refl, sym, ap, ap₂, subst, ◌∙◌, arith}
use Rattle.std.proofs.lemmas.Int.{ints}
use Rattle.tl_geom.specs.declared.rational.Rational.{Rational}
use Rattle.tl_geom.specs.declared.segment.Segment.{Segment}
use Rattle.tl_geom.specs.Plane.{cross}
use Rattle.tl_geom.proofs.Polynomials.{num, ◌⊕◌, ◌⊖◌, ◌⊗◌, same}
use Rattle.tl_geom.proofs.Signs.{mono, product_above, product_at_least, above_of_product, times_zero, sign}
use Rattle.tl_map_county.specs.declared.sides.Side.{Side}
use Rattle.tl_map_county.specs.declared.sides.Side.TheVariants.{Outside}
use Rattle.tl_map_county.specs.TheMap.{MapChain}
use Rattle.tl_check_planar.specs.Planar.{IsPlanar}
use Rattle.tl_check_faces.specs.Facing.{IsOfChain, IsOff, IsStrictlyOn, IsClearBetween, IsClearFrom, IsSideToward, FacesAgree, step_x, step_y}
use Rattle.tl_check_faces.specs.Truth.{LiesAt, IsNearer, IsTrueAbout, AreSidesTrue, turn_about}
use Rattle.tl_check_faces.proofs.Bounds.{AreBounded, IsFar, far, some_bound}
use Rattle.tl_check_faces.proofs.Along.{AreFaced}
use Rattle.tl_check_faces.proofs.TrueSides.{true_sides}
use Rattle.tl_check_faces.proofs.Unique.{unique}
use Rattle.tl_check_faces.proofs.Means.{mean}
use Rattle.tl_check_faces.proofs.Straight.{alike}
use Rattle.tl_check_faces.proofs.Outside.{outside, outside_west, last_turned as times_minus}

-- ---- the straight line from a place

-- two parts of what is made of two parts
weighed : (m n u v w t p q x y : ℤ) → x ≡ u *ℤ p +ℤ v *ℤ q → y ≡ w *ℤ p +ℤ t *ℤ q → m *ℤ x +ℤ n *ℤ y ≡ (m *ℤ u +ℤ n *ℤ w) *ℤ p +ℤ (m *ℤ v +ℤ n *ℤ t) *ℤ q
weighed m n u v w t p q x y e f =
    ap₂ (λ a b. m *ℤ a +ℤ n *ℤ b) e f
    ∙ (let M = num m in let N = num n in
    same (M ⊗ (num u ⊗ num p ⊕ num v ⊗ num q) ⊕ N ⊗ (num w ⊗ num p ⊕ num t ⊗ num q))
    ((M ⊗ num u ⊕ N ⊗ num w) ⊗ num p ⊕ (M ⊗ num v ⊕ N ⊗ num t) ⊗ num q) (omega arith))

pub both_above : (m n u w : ℤ) → pos 0 <ℤ m → pos 0 <ℤ n → pos 0 <ℤ u → pos 0 <ℤ w → pos 0 <ℤ (m *ℤ u +ℤ n *ℤ w)
both_above m n u w a b c d = let one = product_above m u a c in let other = product_above n w b d in omega (arith, ints, one, other)

pub step_of : (x d X D m n : ℤ) → (m *ℤ x +ℤ n *ℤ X) *ℤ d -ℤ x *ℤ (m *ℤ d +ℤ n *ℤ D) ≡ n *ℤ (X *ℤ d -ℤ x *ℤ D)
step_of x d X D m n =
    let M = num m in let N = num n in
    same ((M ⊗ num x ⊕ N ⊗ num X) ⊗ num d ⊖ num x ⊗ (M ⊗ num d ⊕ N ⊗ num D)) (N ⊗ (num X ⊗ num d ⊖ num x ⊗ num D)) (omega arith)

one_times : (z : ℤ) → pos 1 *ℤ z ≡ z
one_times z = same (num (pos 1) ⊗ num z) (num z) (omega arith)

times_one : (z : ℤ) → z *ℤ pos 1 ≡ z
times_one z = same (num z ⊗ num (pos 1)) (num z) (omega arith)

pub exchanged : (y z : ℤ) → y *ℤ z ≡ z *ℤ y
exchanged y z = same (num y ⊗ num z) (num z ⊗ num y) (omega arith)

pub turn_ahead : (u v ax ay px py pd x y d m : ℤ) →
    pd *ℤ (u *ℤ ((m *ℤ py +ℤ pos 1 *ℤ y) -ℤ (m *ℤ pd +ℤ pos 1 *ℤ d) *ℤ ay) -ℤ v *ℤ ((m *ℤ px +ℤ pos 1 *ℤ x) -ℤ (m *ℤ pd +ℤ pos 1 *ℤ d) *ℤ ax)) ≡
    (m *ℤ pd +ℤ pos 1 *ℤ d) *ℤ (u *ℤ (py -ℤ pd *ℤ ay) -ℤ v *ℤ (px -ℤ pd *ℤ ax)) +ℤ (u *ℤ (y *ℤ pd -ℤ py *ℤ d) -ℤ v *ℤ (x *ℤ pd -ℤ px *ℤ d))
turn_ahead u v ax ay px py pd x y d m =
    let U = num u in let V = num v in let a = num ax in let b = num ay in let M = num m in let p = num pd in let e = num d in let one = num (pos 1) in
    same (p ⊗ (U ⊗ ((M ⊗ num py ⊕ one ⊗ num y) ⊖ (M ⊗ p ⊕ one ⊗ e) ⊗ b) ⊖ V ⊗ ((M ⊗ num px ⊕ one ⊗ num x) ⊖ (M ⊗ p ⊕ one ⊗ e) ⊗ a)))
    ((M ⊗ p ⊕ one ⊗ e) ⊗ (U ⊗ (num py ⊖ p ⊗ b) ⊖ V ⊗ (num px ⊖ p ⊗ a)) ⊕ (U ⊗ (num y ⊗ p ⊖ num py ⊗ e) ⊖ V ⊗ (num x ⊗ p ⊖ num px ⊗ e))) (omega arith)

pub wide : (m p d : ℤ) → pos 0 <ℤ m → pos 0 <ℤ p → pos 0 ≤ℤ d → m ≤ℤ (p *ℤ (m *ℤ p +ℤ pos 1 *ℤ d))
wide m p d some_m some_p at_least =
    let one : (m *ℤ pos 1) ≤ℤ (m *ℤ p) = mono m (pos 1) p (omega (arith, ints, some_m)) (omega (arith, ints, some_p)) in
    let two = times_one m in let three = one_times d in
    let more : ((m *ℤ p +ℤ pos 1 *ℤ d) *ℤ pos 1) ≤ℤ ((m *ℤ p +ℤ pos 1 *ℤ d) *ℤ p) =
    mono (m *ℤ p +ℤ pos 1 *ℤ d) (pos 1) p (omega (arith, ints, some_m, one, two, three, at_least)) (omega (arith, ints, some_p)) in
    let four = times_one (m *ℤ p +ℤ pos 1 *ℤ d) in let five = exchanged (m *ℤ p +ℤ pos 1 *ℤ d) p in
    omega (arith, ints, one, two, three, more, four, five, at_least)

-- from p toward the rational point x/d, y/d; with d = 0, in the direction (x, y)
module _ (p : Rational) (x y d : ℤ) (at_least : pos 0 ≤ℤ d) where
  -- r is m parts of p and n of the other
  pub record IsAhead (r : Rational) : Type 0 where
    pub m : ℤ
    pub n : ℤ
    pub some_m : pos 0 <ℤ m
    pub some_n : pos 0 <ℤ n
    pub at_x : r.x ≡ m *ℤ p.x +ℤ n *ℤ x
    pub at_y : r.y ≡ m *ℤ p.y +ℤ n *ℤ y
    pub at_d : r.d ≡ m *ℤ p.d +ℤ n *ℤ d

  pub means : (m n : ℤ) (some_m : pos 0 <ℤ m) (some_n : pos 0 <ℤ n) (q r : Rational) → IsAhead q → IsAhead r → IsAhead (mean m n some_m some_n q r)
  means m n some_m some_n q r a b = record {
    m = m *ℤ a.m +ℤ n *ℤ b.m;
    n = m *ℤ a.n +ℤ n *ℤ b.n;
    some_m = both_above m n a.m b.m some_m some_n a.some_m b.some_m;
    some_n = both_above m n a.n b.n some_m some_n a.some_n b.some_n;
    at_x = weighed m n a.m a.n b.m b.n p.x x q.x r.x a.at_x b.at_x;
    at_y = weighed m n a.m a.n b.m b.n p.y y q.y r.y a.at_y b.at_y;
    at_d = weighed m n a.m a.n b.m b.n p.d d q.d r.d a.at_d b.at_d;
  }

  pub ahead_above : (m n : ℤ) → pos 0 <ℤ m → pos 0 <ℤ n → pos 0 <ℤ (m *ℤ p.d +ℤ n *ℤ d)
  ahead_above m n some_m some_n =
      let one = product_above m p.d some_m p.above_zero in
      let other = product_at_least n d (omega (arith, ints, some_n)) at_least in
      omega (arith, ints, one, other)

  abbrev pub ahead : (m n : ℤ) → pos 0 <ℤ m → pos 0 <ℤ n → Rational
  ahead m n some_m some_n = record {
    x = m *ℤ p.x +ℤ n *ℤ x;
    y = m *ℤ p.y +ℤ n *ℤ y;
    d = m *ℤ p.d +ℤ n *ℤ d;
    above_zero = ahead_above m n some_m some_n;
  }

  pub is_ahead : (m n : ℤ) (some_m : pos 0 <ℤ m) (some_n : pos 0 <ℤ n) → IsAhead (ahead m n some_m some_n)
  is_ahead m n some_m some_n = record { m = m; n = n; some_m = some_m; some_n = some_n; at_x = refl; at_y = refl; at_d = refl }

  -- ---- near p

  -- the direction, times p's d
  abbrev pub step_east : ℤ
  step_east = x *ℤ p.d -ℤ p.x *ℤ d

  abbrev pub step_north : ℤ
  step_north = y *ℤ p.d -ℤ p.y *ℤ d

  -- the place that is m parts of p and one of the other is as near as m is great
  module _ (e m : ℤ) (some_e : pos 0 <ℤ e) (some_m : pos 0 <ℤ m) (one : pos 0 <ℤ pos 1) (b : ℕ) (great : (e *ℤ pos b) <ℤ m) where
    within : (z g : ℤ) → z ≡ pos 1 *ℤ g → g ≤ℤ pos b → (e *ℤ z) <ℤ (p.d *ℤ (m *ℤ p.d +ℤ pos 1 *ℤ d))
    within z g is le =
        let same_g = one_times g in
        let up : (e *ℤ z) ≤ℤ (e *ℤ pos b) = mono e z (pos b) (omega (arith, ints, some_e)) (omega (arith, ints, is, same_g, le)) in
        let w = wide m p.d d some_m p.above_zero at_least in omega (arith, ints, up, great, w)

    within_below : (z g : ℤ) → z ≡ pos 1 *ℤ g → (pos 0 -ℤ pos b) ≤ℤ g → (e *ℤ (pos 0 -ℤ z)) <ℤ (p.d *ℤ (m *ℤ p.d +ℤ pos 1 *ℤ d))
    within_below z g is le =
        let same_g = one_times g in let other = one_times (pos 0 -ℤ g) in
        within (pos 0 -ℤ z) (pos 0 -ℤ g) (omega (arith, ints, is, same_g, other)) (omega (arith, ints, le))

    is_near : (pos 0 -ℤ pos b) ≤ℤ step_east → step_east ≤ℤ pos b → (pos 0 -ℤ pos b) ≤ℤ step_north → step_north ≤ℤ pos b →
        IsNearer e p (ahead m (pos 1) some_m one)
    is_near west east south north = record {
      west = within_below (step_x p (ahead m (pos 1) some_m one)) step_east (step_of p.x p.d x d m (pos 1)) west;
      east = within (step_x p (ahead m (pos 1) some_m one)) step_east (step_of p.x p.d x d m (pos 1)) east;
      south = within_below (step_y p (ahead m (pos 1) some_m one)) step_north (step_of p.y p.d y d m (pos 1)) south;
      north = within (step_y p (ahead m (pos 1) some_m one)) step_north (step_of p.y p.d y d m (pos 1)) north;
    }

  -- on which side of a segment through p it lies, the direction tells
  module _ (u : Segment) (on : IsStrictlyOn u p) (m : ℤ) (some_m : pos 0 <ℤ m) (one : pos 0 <ℤ pos 1) where
    side_is : p.d *ℤ turn_about u (ahead m (pos 1) some_m one) ≡ cross (u.b.x -ℤ u.a.x) (u.b.y -ℤ u.a.y) step_east step_north
    side_is =
        let all = turn_ahead (u.b.x -ℤ u.a.x) (u.b.y -ℤ u.a.y) u.a.x u.a.y p.x p.y p.d x y d m in
        let none : (m *ℤ p.d +ℤ pos 1 *ℤ d) *ℤ turn_about u p ≡ pos 0 =
        ap (λ z. (m *ℤ p.d +ℤ pos 1 *ℤ d) *ℤ z) on.on.straight ∙ times_zero (m *ℤ p.d +ℤ pos 1 *ℤ d) in
        omega (arith, ints, all, none)

    left_of : pos 0 <ℤ cross (u.b.x -ℤ u.a.x) (u.b.y -ℤ u.a.y) step_east step_north → pos 0 <ℤ turn_about u (ahead m (pos 1) some_m one)
    left_of h =
        let is = side_is in let a : pos 0 <ℤ p.d = p.above_zero in
        above_of_product p.d (turn_about u (ahead m (pos 1) some_m one)) (omega (arith, ints, a)) (omega (arith, ints, is, h))

    right_of : cross (u.b.x -ℤ u.a.x) (u.b.y -ℤ u.a.y) step_east step_north <ℤ pos 0 → turn_about u (ahead m (pos 1) some_m one) <ℤ pos 0
    right_of h =
        let is = side_is in let a : pos 0 <ℤ p.d = p.above_zero in let back = times_minus p.d (turn_about u (ahead m (pos 1) some_m one)) in
        let k = above_of_product p.d (pos 0 -ℤ turn_about u (ahead m (pos 1) some_m one)) (omega (arith, ints, a)) (omega (arith, ints, is, back, h)) in
        omega (arith, ints, k)

  -- so what the side of the segment names lies on the line, if the line meets no chain
  pub record IsSeen (chains : List MapChain) (side : Side) : Type 0 where
    pub place : Rational
    pub on_line : IsAhead place
    pub lies : LiesAt chains place side

  module _ (chains : List MapChain) (true_there : AreSidesTrue chains) (clear : (r : Rational) → IsAhead r → IsOff chains r)
      (chain : MapChain) (u : Segment) (of : IsOfChain chains chain u) (on : IsStrictlyOn u p) where
    pub seen : (side : Side) → IsSideToward chain u step_east step_north side → IsSeen chains side
    seen side toward = by_about (true_there chain u p of on)
      where
        east : IsFar step_east
        east = far step_east

        north : IsFar step_north
        north = far step_north

        b : ℕ
        b = east.n + north.n

        one : pos 0 <ℤ pos 1
        one = omega (arith, ints)

        by_about : (e : ℤ) × IsTrueAbout chains chain u p e → IsSeen chains side
        by_about (e, about) = by_place (ahead m (pos 1) some_m one) (is_ahead m (pos 1) some_m one)
            (is_near e m about.some some_m one b great
            (let h = east.below in omega (arith, ints, h)) (let h = east.above in omega (arith, ints, h))
            (let h = north.below in omega (arith, ints, h)) (let h = north.above in omega (arith, ints, h)))
            (λ h. left_of u on m some_m one h) (λ h. right_of u on m some_m one h)
          where
            m : ℤ
            m = e *ℤ pos b +ℤ pos 1

            some_m : pos 0 <ℤ m
            some_m = let more = product_at_least e (pos b) (let h = about.some in omega (arith, ints, h)) (omega (arith, ints)) in omega (arith, ints, more)

            great : (e *ℤ pos b) <ℤ m
            great = omega (arith, ints)

            by_place : (t : Rational) → IsAhead t → IsNearer e p t →
                (pos 0 <ℤ cross (u.b.x -ℤ u.a.x) (u.b.y -ℤ u.a.y) step_east step_north → pos 0 <ℤ turn_about u t) →
                (cross (u.b.x -ℤ u.a.x) (u.b.y -ℤ u.a.y) step_east step_north <ℤ pos 0 → turn_about u t <ℤ pos 0) → IsSeen chains side
            by_place t there near left right = record {
              place = t;
              on_line = there;
              lies = ⊎_elim
                  (λ k. subst (LiesAt chains t) (sym k.1) (about.left t near (clear t there) (left k.0)))
                  (λ k. subst (LiesAt chains t) (sym k.1) (about.right t near (clear t there) (right k.0)))
                  toward;
            }

-- ---- two segments that face one another

-- where sides are true, what lies at the places of a straight line that meets no chain is one side, and far to the west lies the outside
module _ (chains : List MapChain) (true_there : AreSidesTrue chains)
    (alike_along : (P : Rational → Type 0) → ((r : Rational) → P r → IsOff chains r) →
    ((m n : ℤ) (some_m : pos 0 <ℤ m) (some_n : pos 0 <ℤ n) (p q : Rational) → P p → P q → P (mean m n some_m some_n p q)) →
    (p q : Rational) → P p → P q → (side : Side) → LiesAt chains p side → LiesAt chains q side)
    (far_west : (b : ℕ) → AreBounded b chains → (q : Rational) → IsOff chains q → q.x <ℤ (pos 0 -ℤ q.d *ℤ pos b) → LiesAt chains q Outside) where
  facing : (one other : MapChain) (u w : Segment) (p q : Rational) (side opposite : Side) → IsOfChain chains one u → IsOfChain chains other w →
      IsStrictlyOn u p → IsStrictlyOn w q → IsClearBetween chains p q →
      IsSideToward one u (step_x p q) (step_y p q) side → IsSideToward other w (step_x q p) (step_y q p) opposite → side ≡ opposite
  facing one other u w p q side opposite of of' on on' free toward toward' =
      by_seen (seen p q.x q.y q.d some_q chains true_there clear one u of on side toward)
      (seen q p.x p.y p.d some_p chains true_there (λ r a. clear r (turned r a)) other w of' on' opposite toward')
    where
      some_p : pos 0 ≤ℤ p.d
      some_p = let h : pos 0 <ℤ p.d = p.above_zero in omega (arith, ints, h)

      some_q : pos 0 ≤ℤ q.d
      some_q = let h : pos 0 <ℤ q.d = q.above_zero in omega (arith, ints, h)

      On : Rational → Type 0
      On r = IsAhead p q.x q.y q.d some_q r

      clear : (r : Rational) → On r → IsOff chains r
      clear r a = free r (record {
        m = a.m;
        n = a.n;
        some_p = a.some_m;
        some_q = a.some_n;
        x = ap (λ z. r.x *ℤ z) (sym a.at_d) ∙ ap (λ z. z *ℤ r.d) a.at_x;
        y = ap (λ z. r.y *ℤ z) (sym a.at_d) ∙ ap (λ z. z *ℤ r.d) a.at_y;
      })

      turned : (r : Rational) → IsAhead q p.x p.y p.d some_p r → On r
      turned r a =
          let x = a.at_x in let y = a.at_y in let d = a.at_d in
          record {
            m = a.n;
            n = a.m;
            some_m = a.some_n;
            some_n = a.some_m;
            at_x = omega (arith, ints, x);
            at_y = omega (arith, ints, y);
            at_d = omega (arith, ints, d);
          }

      by_seen : IsSeen p q.x q.y q.d some_q chains side → IsSeen q p.x p.y p.d some_p chains opposite → side ≡ opposite
      by_seen a b =
          unique chains b.place side opposite
          (alike_along On clear (means p q.x q.y q.d some_q) a.place b.place a.on_line (turned b.place b.on_line) side a.lies) b.lies

  -- ---- and one that faces the outside

  outward : (chain : MapChain) (u : Segment) (p : Rational) (x y : ℤ) (side : Side) → IsOfChain chains chain u →
      IsStrictlyOn u p → IsClearFrom chains p x y → IsSideToward chain u x y side → side ≡ Outside
  outward chain u p x y side of on free toward =
      by_seen (seen p x y (pos 0) none chains true_there clear chain u of on side (stretched toward))
    where
      none : pos 0 ≤ℤ pos 0
      none = omega (arith, ints)

      On : Rational → Type 0
      On r = IsAhead p x y (pos 0) none r

      parts : (r : Rational) (a : On r) → r.d ≡ a.m *ℤ p.d
      parts r a = let d = a.at_d in let z = times_zero a.n in omega (arith, ints, d, z)

      clear : (r : Rational) → On r → IsOff chains r
      clear r a = free r (record {
        m = a.m;
        n = a.n;
        some_m = a.some_m;
        some_n = a.some_n;
        at_x = ap (λ z. r.x *ℤ z) (sym (parts r a)) ∙ ap (λ z. z *ℤ r.d) a.at_x;
        at_y = ap (λ z. r.y *ℤ z) (sym (parts r a)) ∙ ap (λ z. z *ℤ r.d) a.at_y;
      })

      -- the direction, times p's d
      stretched : IsSideToward chain u x y side → IsSideToward chain u (step_east p x y (pos 0) none) (step_north p x y (pos 0) none) side
      stretched =
          let e = times_d (u.b.x -ℤ u.a.x) (u.b.y -ℤ u.a.y) x y p.x p.y p.d in
          ⊎_elim
          (λ k. let m = product_above p.d (cross (u.b.x -ℤ u.a.x) (u.b.y -ℤ u.a.y) x y) p.above_zero k.0 in inl (omega (arith, ints, m, e), k.1))
          (λ k.
          let h = k.0 in
          let m = product_above p.d (pos 0 -ℤ cross (u.b.x -ℤ u.a.x) (u.b.y -ℤ u.a.y) x y) p.above_zero (omega (arith, ints, h)) in
          let f = times_minus p.d (cross (u.b.x -ℤ u.a.x) (u.b.y -ℤ u.a.y) x y) in
          inr (omega (arith, ints, m, e, f), k.1))
        where
          times_d : (v w x y px py d : ℤ) → v *ℤ (y *ℤ d -ℤ py *ℤ pos 0) -ℤ w *ℤ (x *ℤ d -ℤ px *ℤ pos 0) ≡ d *ℤ (v *ℤ y -ℤ w *ℤ x)
          times_d v w x y px py d =
              same (num v ⊗ (num y ⊗ num d ⊖ num py ⊗ num (pos 0)) ⊖ num w ⊗ (num x ⊗ num d ⊖ num px ⊗ num (pos 0)))
              (num d ⊗ (num v ⊗ num y ⊖ num w ⊗ num x)) (omega arith)

      -- a place far out
      bound : (b : ℕ) × AreBounded b chains
      bound = some_bound chains

      one : IsFar p.x
      one = far p.x

      other : IsFar p.y
      other = far p.y

      n : ℤ
      n = p.d *ℤ pos bound.0 +ℤ pos one.n +ℤ pos other.n +ℤ pos 1

      some_parts : pos 0 ≤ℤ (p.d *ℤ pos bound.0)
      some_parts = let d : pos 0 <ℤ p.d = p.above_zero in product_at_least p.d (pos bound.0) (omega (arith, ints, d)) (omega (arith, ints))

      some_n : pos 0 <ℤ n
      some_n = let m = some_parts in omega (arith, ints, m)

      some_m : pos 0 <ℤ pos 1
      some_m = omega (arith, ints)

      -- so many parts of a number that isn't 0 are more than that
      more : (z : ℤ) → pos 0 <ℤ z → n ≤ℤ (n *ℤ z)
      more z h =
          let some = some_n in
          let m : (n *ℤ pos 1) ≤ℤ (n *ℤ z) = mono n (pos 1) z (omega (arith, ints, some)) (omega (arith, ints, h)) in
          let e = times_one n in omega (arith, ints, m, e)

      less : (z : ℤ) → z <ℤ pos 0 → (n *ℤ z) ≤ℤ (pos 0 -ℤ n)
      less z h = let m = more (pos 0 -ℤ z) (omega (arith, ints, h)) in let e = times_minus n z in omega (arith, ints, m, e)

      by_place : (r : Rational) → On r → r.x ≡ p.x +ℤ n *ℤ x → r.y ≡ p.y +ℤ n *ℤ y → r.d ≡ p.d → LiesAt chains r Outside
      by_place r at ex ey ed =
          let same_parts : r.d *ℤ pos bound.0 ≡ p.d *ℤ pos bound.0 = ap (λ z. z *ℤ pos bound.0) ed in
          let west = one.below in let east = one.above in let south = other.below in let north = other.above in
          let some = some_parts in
          ⊎_elim
          (λ h. let m = less y h in outside chains bound.0 bound.1 r (inl (inr (omega (arith, ints, m, ey, same_parts, north, some)))))
          (⊎_elim
          (λ level. ⊎_elim
          (λ h. let m = less x h in far_west bound.0 bound.1 r (clear r at) (omega (arith, ints, m, ex, same_parts, east, some)))
          (⊎_elim
          (λ still. absurd (no_direction toward level still))
          (λ h. let m = more x h in outside chains bound.0 bound.1 r (inr (omega (arith, ints, m, ex, same_parts, west, some)))))
          (sign x))
          (λ h. let m = more y h in outside chains bound.0 bound.1 r (inl (inl (omega (arith, ints, m, ey, same_parts, south, some))))))
          (sign y)
        where
          no_direction : IsSideToward chain u x y side → y ≡ pos 0 → x ≡ pos 0 → ⊥
          no_direction toward level still =
              let e : cross (u.b.x -ℤ u.a.x) (u.b.y -ℤ u.a.y) x y ≡ pos 0 =
              ap₂ (λ a b. (u.b.x -ℤ u.a.x) *ℤ b -ℤ (u.b.y -ℤ u.a.y) *ℤ a) still level
              ∙ same ((num u.b.x ⊖ num u.a.x) ⊗ num (pos 0) ⊖ (num u.b.y ⊖ num u.a.y) ⊗ num (pos 0)) (num (pos 0)) (omega arith) in
              ⊎_elim (λ k. let h = k.0 in omega (arith, ints, h, e)) (λ k. let h = k.0 in omega (arith, ints, h, e)) toward

      by_seen : IsSeen p x y (pos 0) none chains side → side ≡ Outside
      by_seen a =
          let r : Rational = ahead p x y (pos 0) none (pos 1) n some_m some_n in
          let at : On r = is_ahead p x y (pos 0) none (pos 1) n some_m some_n in
          let ex = one_times p.x in let ey = one_times p.y in let ed = one_times p.d in let z = times_zero n in
          unique chains r side Outside
          (alike_along On clear (means p x y (pos 0) none) a.place r a.on_line at side a.lies)
          (by_place r at (omega (arith, ints, ex)) (omega (arith, ints, ey)) (omega (arith, ints, ed, z)))

  pub agree_by : FacesAgree chains
  agree_by = record { facing = facing; outward = outward }

-- ---- so where facing sides agree along lines

pub agree : (chains : List MapChain) → IsPlanar chains → AreFaced chains → FacesAgree chains
agree chains planar faced =
    agree_by chains (true_sides chains planar faced)
    (λ P clear means p q at at' side lies. alike chains P clear means faced p q at at' side lies)
    (λ b bounded q off far. outside_west chains b bounded q faced off (omega (arith, ints, far)))
