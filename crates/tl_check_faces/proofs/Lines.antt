-- Places of one height: how they lie along their line, and where segments meet it.
use Rattle.std.proofs.Common.{◌≡◌, ℤ, pos, ◌+ℤ◌, ◌-ℤ◌, ◌*ℤ◌, ◌<ℤ◌, ◌≤ℤ◌, ap, sym, ◌∙◌, arith}
use Rattle.std.proofs.lemmas.Int.{ints}
use Rattle.tl_geom.specs.declared.point.Point.{Point}
use Rattle.tl_geom.specs.declared.rational.Rational.{Rational}
use Rattle.tl_geom.specs.declared.segment.Segment.{Segment}
use Rattle.tl_geom.specs.Plane.{IsOn, IsSame}
use Rattle.tl_geom.proofs.Polynomials.{num, ◌⊕◌, ◌⊖◌, ◌⊗◌, same, same_by_two}
use Rattle.tl_geom.proofs.Signs.{cancel, product_above, product_at_least, times_zero}
use Rattle.tl_check_planar.specs.ByHeight.Heights.{height, height_of, low_end, high_end, turn_at}
use Rattle.tl_check_planar.proofs.ByHeight.Order.{lean}
use Rattle.tl_check_planar.proofs.ByHeight.Rising.{AreEndsOf}
use Rattle.tl_check_planar.proofs.ByHeight.Lying.{lies_on}
use Rattle.tl_check_faces.proofs.Numbers.{above_by, below_by, zero_by}
use Rattle.tl_check_faces.proofs.Steep.{IsSpanned}
use Rattle.tl_geom.proofs.Places.{part_straight as straight_by}

-- both have one height
pub record AreLevel (K : ℤ) (p q : Rational) : Type 0 where
  pub is : height_of K p *ℤ q.d ≡ height_of K q *ℤ p.d

-- p is west of q, as far as longitudes tell
abbrev pub IsWestward : (p q : Rational) → Type 0
IsWestward p q = (p.x *ℤ q.d) <ℤ (q.x *ℤ p.d)

pub level_back : (K : ℤ) (p q : Rational) → AreLevel K p q → AreLevel K q p
level_back K p q l = record { is = sym l.is }

level_by : (h d k e l f : ℤ) → pos 0 <ℤ e → h *ℤ e ≡ k *ℤ d → l *ℤ e ≡ k *ℤ f → h *ℤ f ≡ l *ℤ d
level_by h d k e l f above one other =
    cancel e (h *ℤ f) (l *ℤ d) above
    (same_by_two (num e ⊗ (num h ⊗ num f)) (num e ⊗ (num l ⊗ num d)) (num f) (num h ⊗ num e) (num k ⊗ num d) (num d) (num k ⊗ num f) (num l ⊗ num e) one (sym other) (omega arith))

-- two places of the height of a third
pub level_with : (K : ℤ) (p q r : Rational) → AreLevel K p r → AreLevel K q r → AreLevel K p q
level_with K p q r one other = record { is = level_by (height_of K p) p.d (height_of K r) r.d (height_of K q) q.d r.above_zero one.is other.is }

-- ---- the turn to a place, by a place of a line that has its height

two_by : (K T u W hq hp qd pd ha qx px ax : ℤ) → K *ℤ T ≡ u *ℤ (hq -ℤ qd *ℤ ha) -ℤ W *ℤ (qx -ℤ qd *ℤ ax) → u *ℤ (hp -ℤ pd *ℤ ha) -ℤ W *ℤ (px -ℤ pd *ℤ ax) ≡ pos 0 → hp *ℤ qd ≡ hq *ℤ pd →
    (K *ℤ pd) *ℤ T ≡ W *ℤ (px *ℤ qd -ℤ qx *ℤ pd)
two_by K T u W hq hp qd pd ha qx px ax e f g =
    same (num K ⊗ num pd ⊗ num T) (num pd ⊗ (num K ⊗ num T)) (omega arith)
    ∙ ap (λ z. pd *ℤ z) e
    ∙ (let u' = num u in let W' = num W in let q = num qd in let p = num pd in let a = num ha in let x = num ax in
    same_by_two (p ⊗ (u' ⊗ (num hq ⊖ q ⊗ a) ⊖ W' ⊗ (num qx ⊖ q ⊗ x))) (W' ⊗ (num px ⊗ q ⊖ num qx ⊗ p))
    q (u' ⊗ (num hp ⊖ p ⊗ a) ⊖ W' ⊗ (num px ⊖ p ⊗ x)) (num (pos 0)) u' (num hq ⊗ p) (num hp ⊗ q) f (sym g) (omega arith))

module _ (K : ℤ) (above : pos 0 <ℤ K) (a b : Point) (up : height K a <ℤ height K b) (p q : Rational) (straight : turn_at a b p ≡ pos 0) (level : AreLevel K p q) where
  abbrev rise : ℤ
  rise = height K b -ℤ height K a

  rise_above : pos 0 <ℤ rise
  rise_above = omega (arith, ints, up)

  abbrev lead : ℤ
  lead = p.x *ℤ q.d -ℤ q.x *ℤ p.d

  parts_above : pos 0 <ℤ (K *ℤ p.d)
  parts_above = product_above K p.d above p.above_zero

  by_lead : (K *ℤ p.d) *ℤ turn_at a b q ≡ rise *ℤ lead
  by_lead =
      two_by K (turn_at a b q) (b.x -ℤ a.x) rise (height_of K q) (height_of K p) q.d p.d (height K a) q.x p.x a.x (lean K a b q)
      (sym (lean K a b p) ∙ ap (λ z. K *ℤ z) straight ∙ times_zero K) level.is

  pub west_of_turn : pos 0 <ℤ turn_at a b q → IsWestward q p
  west_of_turn t = let z = above_by (K *ℤ p.d) (turn_at a b q) rise lead parts_above rise_above by_lead t in omega (arith, ints, z)

  pub east_of_turn : turn_at a b q <ℤ pos 0 → IsWestward p q
  east_of_turn t = let z = below_by (K *ℤ p.d) (turn_at a b q) rise lead parts_above rise_above by_lead t in omega (arith, ints, z)

  pub same_of_turn : turn_at a b q ≡ pos 0 → p.x *ℤ q.d ≡ q.x *ℤ p.d
  same_of_turn t = let z = zero_by (K *ℤ p.d) (turn_at a b q) rise lead rise_above by_lead t in omega (arith, ints, z)

  pub turn_of_west : IsWestward q p → pos 0 <ℤ turn_at a b q
  turn_of_west w = above_by rise lead (K *ℤ p.d) (turn_at a b q) rise_above parts_above (sym by_lead) (omega (arith, ints, w))

  pub turn_of_east : IsWestward p q → turn_at a b q <ℤ pos 0
  turn_of_east w = below_by rise lead (K *ℤ p.d) (turn_at a b q) rise_above parts_above (sym by_lead) (omega (arith, ints, w))

-- ---- places of one height and longitude

pub one_place : (K : ℤ) (p q : Rational) → pos 0 <ℤ K → AreLevel K p q → p.x *ℤ q.d ≡ q.x *ℤ p.d → IsSame p q
one_place K p q above level e = record { x = e; y = cancel K (p.y *ℤ q.d) (q.y *ℤ p.d) above by_heights }
  where
    spread : (y x d : ℤ) → (K *ℤ y -ℤ x) *ℤ d ≡ K *ℤ (y *ℤ d) -ℤ x *ℤ d
    spread y x d = same ((num K ⊗ num y ⊖ num x) ⊗ num d) (num K ⊗ (num y ⊗ num d) ⊖ num x ⊗ num d) (omega arith)

    by_heights : K *ℤ (p.y *ℤ q.d) ≡ K *ℤ (q.y *ℤ p.d)
    by_heights = let one = spread p.y p.x q.d in let other = spread q.y q.x p.d in let l = level.is in omega (arith, ints, one, other, l, e)

-- ---- where a segment meets the line of a height between those of its ends

pub height_by : (K ax ay bx by n d : ℤ) → K *ℤ (d *ℤ ay +ℤ n *ℤ (by -ℤ ay)) -ℤ (d *ℤ ax +ℤ n *ℤ (bx -ℤ ax)) ≡ d *ℤ (K *ℤ ay -ℤ ax) +ℤ n *ℤ ((K *ℤ by -ℤ bx) -ℤ (K *ℤ ay -ℤ ax))
height_by K ax ay bx by n d =
    let k = num K in let a = num ax in let b = num ay in let c = num bx in let e = num by in let m = num n in let f = num d in
    same (k ⊗ (f ⊗ b ⊕ m ⊗ (e ⊖ b)) ⊖ (f ⊗ a ⊕ m ⊗ (c ⊖ a))) (f ⊗ (k ⊗ b ⊖ a) ⊕ m ⊗ ((k ⊗ e ⊖ c) ⊖ (k ⊗ b ⊖ a))) (omega arith)

height_there : (W ha h d : ℤ) → ((d *ℤ W) *ℤ ha +ℤ (h -ℤ d *ℤ ha) *ℤ W) *ℤ d ≡ h *ℤ (d *ℤ W)
height_there W ha h d =
    let w = num W in let a = num ha in let k = num h in let e = num d in
    same (((e ⊗ w) ⊗ a ⊕ (k ⊖ e ⊗ a) ⊗ w) ⊗ e) (k ⊗ (e ⊗ w)) (omega arith)

rest_there : (ha hb h d : ℤ) → (d *ℤ (hb -ℤ ha)) *ℤ hb -ℤ ((d *ℤ (hb -ℤ ha)) *ℤ ha +ℤ (h -ℤ d *ℤ ha) *ℤ (hb -ℤ ha)) ≡ (hb -ℤ ha) *ℤ (d *ℤ hb -ℤ h)
rest_there ha hb h d =
    let a = num ha in let b = num hb in let k = num h in let e = num d in
    same ((e ⊗ (b ⊖ a)) ⊗ b ⊖ ((e ⊗ (b ⊖ a)) ⊗ a ⊕ (k ⊖ e ⊗ a) ⊗ (b ⊖ a))) ((b ⊖ a) ⊗ (e ⊗ b ⊖ k)) (omega arith)

-- the segment's place of the height of r
pub record IsMet (K : ℤ) (u : Segment) (r : Rational) : Type 0 where
  pub place : Rational
  pub on : IsOn u place
  pub level : AreLevel K place r

pub met : (K : ℤ) (u : Segment) (r : Rational) → AreEndsOf K u (low_end K u) (high_end K u) → IsSpanned K u r → IsMet K u r
met K u r ends s = record {
  place = there;
  on = lies_on K u a b ends there (straight_by (b.x -ℤ a.x) (b.y -ℤ a.y) a.x a.y n d) (omega (arith, ints, is, begun)) (omega (arith, ints, is, rest, left));
  level = record { is = ap (λ z. z *ℤ r.d) is ∙ height_there rise (height K a) (height_of K r) r.d };
}
  where
    a : Point
    a = low_end K u

    b : Point
    b = high_end K u

    rise : ℤ
    rise = height K b -ℤ height K a

    n : ℤ
    n = height_of K r -ℤ r.d *ℤ height K a

    d : ℤ
    d = r.d *ℤ rise

    above : pos 0 <ℤ rise
    above = let up = ends.rising in omega (arith, ints, up)

    there : Rational
    there = record { x = d *ℤ a.x +ℤ n *ℤ (b.x -ℤ a.x); y = d *ℤ a.y +ℤ n *ℤ (b.y -ℤ a.y); d = d; above_zero = product_above r.d rise r.above_zero above }

    is : height_of K there ≡ d *ℤ height K a +ℤ n *ℤ rise
    is = height_by K a.x a.y b.x b.y n d

    begun : pos 0 ≤ℤ (n *ℤ rise)
    begun = let from = s.from in product_at_least n rise (omega (arith, ints, from)) (let h = above in omega (arith, ints, h))

    rest : d *ℤ height K b -ℤ (d *ℤ height K a +ℤ n *ℤ rise) ≡ rise *ℤ (r.d *ℤ height K b -ℤ height_of K r)
    rest = rest_there (height K a) (height K b) (height_of K r) r.d

    left : pos 0 ≤ℤ (rise *ℤ (r.d *ℤ height K b -ℤ height_of K r))
    left = let to = s.to in product_at_least rise (r.d *ℤ height K b -ℤ height_of K r) (let h = above in omega (arith, ints, h)) (omega (arith, ints, to))
