-- The sides of a segment to the west and to the east of it along a line that it meets.
use Rattle.std.proofs.Common.{◌≡◌, ◌⊎◌, inl, inr, ⊎_elim, ℤ, pos, ◌+ℤ◌, ◌-ℤ◌, ◌*ℤ◌, ◌<ℤ◌, Bool, true, false, if◌then◌else◌, List, refl, sym, ap, ◌∙◌, arith}
use Rattle.std.specs.Prelude.{int_lt}
use Rattle.std.proofs.lemmas.Int.{ints}
use Rattle.tl_geom.specs.declared.point.Point.{Point}
use Rattle.tl_geom.specs.declared.rational.Rational.{Rational}
use Rattle.tl_geom.specs.Plane.{cross}
use Rattle.tl_geom.proofs.Polynomials.{num, ◌⊕◌, ◌⊖◌, ◌⊗◌, same, same_by}
use Rattle.tl_geom.proofs.Signs.{product_above, above_of_product, cancel}
use Rattle.tl_map_county.specs.declared.sides.Side.{Side}
use Rattle.tl_map_county.specs.TheMap.{MapChain}
use Rattle.tl_check_inside.specs.declared.flanks.Flanks.{Flanks}
use Rattle.tl_check_inside.specs.Inside.{flanks_at}
use Rattle.tl_check_inside.proofs.Sides.{by_points, no_lt, is_lt}
use Rattle.tl_check_planar.specs.ByHeight.Heights.{height, height_of, AreNear}
use Rattle.tl_check_planar.proofs.ByHeight.Rising.{le_of, lt_of, one_higher, higher, near_back}
use Rattle.tl_check_faces.specs.Facing.{IsSideToward, IsStrictlyBetween, IsOnRay, step_x, step_y}
use Rattle.tl_check_faces.proofs.Numbers.{above_by, below_by}
use Rattle.tl_check_faces.proofs.Lines.{AreLevel, IsWestward}
use Rattle.tl_check_faces.proofs.Items.{Item, numbered, IsLine}

-- ---- the turn from a segment to a step along a line of one height

cross_by : (K ax ay bx by y : ℤ) → cross (bx -ℤ ax) (by -ℤ ay) (K *ℤ y) y ≡ pos 0 -ℤ y *ℤ ((K *ℤ by -ℤ bx) -ℤ (K *ℤ ay -ℤ ax))
cross_by K ax ay bx by y =
    let k = num K in let a = num ax in let b = num ay in let c = num bx in let d = num by in let e = num y in
    same ((c ⊖ a) ⊗ e ⊖ (d ⊖ b) ⊗ (k ⊗ e)) (num (pos 0) ⊖ e ⊗ ((k ⊗ d ⊖ c) ⊖ (k ⊗ b ⊖ a))) (omega arith)

module _ (K : ℤ) (above : pos 0 <ℤ K) (a b : Point) (x y : ℤ) (along : K *ℤ y ≡ x) where
  cross_is : cross (b.x -ℤ a.x) (b.y -ℤ a.y) x y ≡ pos 0 -ℤ y *ℤ (height K b -ℤ height K a)
  cross_is = ap (λ z. cross (b.x -ℤ a.x) (b.y -ℤ a.y) z y) (sym along) ∙ cross_by K a.x a.y b.x b.y y

  north : pos 0 <ℤ x → pos 0 <ℤ y
  north east = above_of_product K y (omega (arith, ints, above)) (omega (arith, ints, along, east))

  negated : (v w : ℤ) → v *ℤ (pos 0 -ℤ w) ≡ pos 0 -ℤ v *ℤ w
  negated v w = same (num v ⊗ (num (pos 0) ⊖ num w)) (num (pos 0) ⊖ num v ⊗ num w) (omega arith)

  negated_first : (v w : ℤ) → (pos 0 -ℤ v) *ℤ w ≡ pos 0 -ℤ v *ℤ w
  negated_first v w = same ((num (pos 0) ⊖ num v) ⊗ num w) (num (pos 0) ⊖ num v ⊗ num w) (omega arith)

  south : x <ℤ pos 0 → y <ℤ pos 0
  south west =
      let e : K *ℤ (pos 0 -ℤ y) ≡ pos 0 -ℤ K *ℤ y = negated K y in
      let up : pos 0 <ℤ (pos 0 -ℤ y) = above_of_product K (pos 0 -ℤ y) (omega (arith, ints, above)) (omega (arith, ints, along, west, e)) in
      omega (arith, ints, up)

  -- the four cases
  pub east_up : pos 0 <ℤ x → height K a <ℤ height K b → cross (b.x -ℤ a.x) (b.y -ℤ a.y) x y <ℤ pos 0
  east_up east up =
      let p = product_above y (height K b -ℤ height K a) (north east) (omega (arith, ints, up)) in
      let e = cross_is in omega (arith, ints, p, e)

  pub east_down : pos 0 <ℤ x → height K b <ℤ height K a → pos 0 <ℤ cross (b.x -ℤ a.x) (b.y -ℤ a.y) x y
  east_down east down =
      let p = product_above y (pos 0 -ℤ (height K b -ℤ height K a)) (north east) (omega (arith, ints, down)) in
      let f = negated y (height K b -ℤ height K a) in
      let e = cross_is in omega (arith, ints, p, e, f)

  pub west_up : x <ℤ pos 0 → height K a <ℤ height K b → pos 0 <ℤ cross (b.x -ℤ a.x) (b.y -ℤ a.y) x y
  west_up west up =
      let s = south west in
      let p = product_above (pos 0 -ℤ y) (height K b -ℤ height K a) (omega (arith, ints, s)) (omega (arith, ints, up)) in
      let f = negated_first y (height K b -ℤ height K a) in
      let e = cross_is in omega (arith, ints, p, e, f)

  pub west_down : x <ℤ pos 0 → height K b <ℤ height K a → cross (b.x -ℤ a.x) (b.y -ℤ a.y) x y <ℤ pos 0
  west_down west down =
      let s = south west in
      let p = product_above (pos 0 -ℤ y) (pos 0 -ℤ (height K b -ℤ height K a)) (omega (arith, ints, s)) (omega (arith, ints, down)) in
      let f = negated_first y (pos 0 -ℤ (height K b -ℤ height K a)) in
      let g = negated y (height K b -ℤ height K a) in
      let e = cross_is in omega (arith, ints, p, e, f, g)

-- ---- the near side of an item and its far side

abbrev flanks_if : (left right : Side) → Bool → Flanks
flanks_if left right t = if t then record { near = left; far = right } else record { near = right; far = left }

abbrev sides_if : (left right : Side) → Bool → Flanks
sides_if left right t = record { near = if t then left else right; far = if t then right else left }

one_test : (left right : Side) (s t u : Bool) → s ≡ u → t ≡ u → flanks_if left right s ≡ sides_if left right t
one_test left right s t u e f = ap (flanks_if left right) e ∙ alike u ∙ sym (ap (sides_if left right) f)
  where
    alike : (u : Bool) → flanks_if left right u ≡ sides_if left right u
    alike true = refl
    alike false = refl

module _ (K : ℤ) (chains : List MapChain) (r : Rational) (line : IsLine K chains r) where
  abbrev rises : Item K chains r → Bool
  rises x = int_lt (height K x.segment.a) (height K x.segment.b)

  abbrev pub near_side : Item K chains r → Side
  near_side x = if rises x then x.chain.left else x.chain.right

  abbrev pub far_side : Item K chains r → Side
  far_side x = if rises x then x.chain.right else x.chain.left

  abbrev pub sides_of : Item K chains r → Flanks
  sides_of x = record { near = near_side x; far = far_side x }

  falls : (x : Item K chains r) → rises x ≡ false → height K x.segment.b <ℤ height K x.segment.a
  falls x e = ⊎_elim
      (λ up. absurd (let le = le_of (height K x.segment.a) (height K x.segment.b) e in omega (arith, ints, le, up)))
      (λ down. down)
      (one_higher K x.segment.a x.segment.b (line.ends x.s x.segment (numbered K chains r x)) x.segment.different)

  module _ (x : Item K chains r) (dx dy : ℤ) (along : K *ℤ dy ≡ dx) where
    pub toward_east : pos 0 <ℤ dx → IsSideToward x.chain x.segment dx dy (far_side x)
    toward_east east = go (rises x) refl
      where
        go : (t : Bool) → rises x ≡ t → IsSideToward x.chain x.segment dx dy (if t then x.chain.right else x.chain.left)
        go true e = inr (east_up K line.above x.segment.a x.segment.b dx dy along east (lt_of (height K x.segment.a) (height K x.segment.b) e), refl)
        go false e = inl (east_down K line.above x.segment.a x.segment.b dx dy along east (falls x e), refl)

    pub toward_west : dx <ℤ pos 0 → IsSideToward x.chain x.segment dx dy (near_side x)
    toward_west west = go (rises x) refl
      where
        go : (t : Bool) → rises x ≡ t → IsSideToward x.chain x.segment dx dy (if t then x.chain.left else x.chain.right)
        go true e = inl (west_up K line.above x.segment.a x.segment.b dx dy along west (lt_of (height K x.segment.a) (height K x.segment.b) e), refl)
        go false e = inr (west_down K line.above x.segment.a x.segment.b dx dy along west (falls x e), refl)

  -- of a segment that isn't level these are its flanks
  pub flanks_are : (x : Item K chains r) → (x.segment.a.y <ℤ x.segment.b.y) ⊎ (x.segment.b.y <ℤ x.segment.a.y) → flanks_at chains x.s ≡ sides_of x
  flanks_are x slanted =
      by_points chains x.s x.c x.k x.segment.a x.segment.b (record { chain = x.chain; is = x.is; place = x.inside; number = x.number }) x.from x.to
      ∙ ⊎_elim (λ up. one_test x.chain.left x.chain.right (int_lt x.segment.a.y x.segment.b.y) (rises x) true (is_lt x.segment.a.y x.segment.b.y up) (is_lt (height K x.segment.a) (height K x.segment.b) (higher K x.segment.a x.segment.b near up)))
      (λ down. one_test x.chain.left x.chain.right (int_lt x.segment.a.y x.segment.b.y) (rises x) false (no_lt x.segment.a.y x.segment.b.y (omega (arith, ints, down)))
      (no_lt (height K x.segment.a) (height K x.segment.b)
      (let h = higher K x.segment.b x.segment.a (near_back K x.segment.a x.segment.b near) down in omega (arith, ints, h)))) slanted
    where
      near : AreNear K x.segment.a x.segment.b
      near = line.ends x.s x.segment (numbered K chains r x)

-- ---- steps along a line of one height

pub step_along : (K : ℤ) (p q : Rational) → AreLevel K p q → K *ℤ step_y p q ≡ step_x p q
step_along K p q level =
    let k = num K in
    same_by (k ⊗ (num q.y ⊗ num p.d ⊖ num p.y ⊗ num q.d)) (num q.x ⊗ num p.d ⊖ num p.x ⊗ num q.d)
    (num (pos 1)) ((k ⊗ num q.y ⊖ num q.x) ⊗ num p.d) ((k ⊗ num p.y ⊖ num p.x) ⊗ num q.d) (sym level.is) (omega arith)

-- what lies strictly between two places of one height
module _ (K : ℤ) (p q t : Rational) (level : AreLevel K p q) (west : IsWestward p q) (b : IsStrictlyBetween p q t) where
  abbrev weight : ℤ
  weight = b.m *ℤ p.d +ℤ b.n *ℤ q.d

  some_weight : pos 0 <ℤ weight
  some_weight =
      let one = product_above b.m p.d b.some_p p.above_zero in
      let other = product_above b.n q.d b.some_q q.above_zero in
      omega (arith, ints, one, other)

  level_weighed : (m n py px qy qx pd qd ty tx td : ℤ) → tx *ℤ (m *ℤ pd +ℤ n *ℤ qd) ≡ (m *ℤ px +ℤ n *ℤ qx) *ℤ td → ty *ℤ (m *ℤ pd +ℤ n *ℤ qd) ≡ (m *ℤ py +ℤ n *ℤ qy) *ℤ td →
      (K *ℤ py -ℤ px) *ℤ qd ≡ (K *ℤ qy -ℤ qx) *ℤ pd → (m *ℤ pd +ℤ n *ℤ qd) *ℤ ((K *ℤ ty -ℤ tx) *ℤ pd) ≡ (m *ℤ pd +ℤ n *ℤ qd) *ℤ ((K *ℤ py -ℤ px) *ℤ td)
  level_weighed m n py px qy qx pd qd ty tx td at_x at_y l =
      let spread : (m *ℤ pd +ℤ n *ℤ qd) *ℤ ((K *ℤ ty -ℤ tx) *ℤ pd) ≡ (K *ℤ (ty *ℤ (m *ℤ pd +ℤ n *ℤ qd)) -ℤ tx *ℤ (m *ℤ pd +ℤ n *ℤ qd)) *ℤ pd =
      (let w = num (m *ℤ pd +ℤ n *ℤ qd) in same (w ⊗ ((num K ⊗ num ty ⊖ num tx) ⊗ num pd)) ((num K ⊗ (num ty ⊗ w) ⊖ num tx ⊗ w) ⊗ num pd) (omega arith)) in
      spread
      ∙ ap (λ z. (K *ℤ z -ℤ tx *ℤ (m *ℤ pd +ℤ n *ℤ qd)) *ℤ pd) at_y
      ∙ ap (λ z. (K *ℤ ((m *ℤ py +ℤ n *ℤ qy) *ℤ td) -ℤ z) *ℤ pd) at_x
      ∙ (let k = num K in let M = num m in let N = num n in
      same_by ((k ⊗ ((M ⊗ num py ⊕ N ⊗ num qy) ⊗ num td) ⊖ (M ⊗ num px ⊕ N ⊗ num qx) ⊗ num td) ⊗ num pd)
      ((M ⊗ num pd ⊕ N ⊗ num qd) ⊗ ((k ⊗ num py ⊖ num px) ⊗ num td))
      (N ⊗ num td) ((k ⊗ num qy ⊖ num qx) ⊗ num pd) ((k ⊗ num py ⊖ num px) ⊗ num qd) (sym l) (omega arith))

  pub between_level : AreLevel K t p
  between_level = record { is = cancel weight (height_of K t *ℤ p.d) (height_of K p *ℤ t.d) some_weight (level_weighed b.m b.n p.y p.x q.y q.x p.d q.d t.y t.x t.d b.x b.y level.is) }

  spread_first : (m n px qx pd qd tx td : ℤ) → tx *ℤ (m *ℤ pd +ℤ n *ℤ qd) ≡ (m *ℤ px +ℤ n *ℤ qx) *ℤ td → (m *ℤ pd +ℤ n *ℤ qd) *ℤ (tx *ℤ pd -ℤ px *ℤ td) ≡ (n *ℤ td) *ℤ (qx *ℤ pd -ℤ px *ℤ qd)
  spread_first m n px qx pd qd tx td e =
      let M = num m in let N = num n in
      same_by ((M ⊗ num pd ⊕ N ⊗ num qd) ⊗ (num tx ⊗ num pd ⊖ num px ⊗ num td)) ((N ⊗ num td) ⊗ (num qx ⊗ num pd ⊖ num px ⊗ num qd))
      (num pd) (num tx ⊗ (M ⊗ num pd ⊕ N ⊗ num qd)) ((M ⊗ num px ⊕ N ⊗ num qx) ⊗ num td) e (omega arith)

  spread_last : (m n px qx pd qd tx td : ℤ) → tx *ℤ (m *ℤ pd +ℤ n *ℤ qd) ≡ (m *ℤ px +ℤ n *ℤ qx) *ℤ td → (m *ℤ pd +ℤ n *ℤ qd) *ℤ (qx *ℤ td -ℤ tx *ℤ qd) ≡ (m *ℤ td) *ℤ (qx *ℤ pd -ℤ px *ℤ qd)
  spread_last m n px qx pd qd tx td e =
      let M = num m in let N = num n in
      same_by ((M ⊗ num pd ⊕ N ⊗ num qd) ⊗ (num qx ⊗ num td ⊖ num tx ⊗ num qd)) ((M ⊗ num td) ⊗ (num qx ⊗ num pd ⊖ num px ⊗ num qd))
      (num qd) ((M ⊗ num px ⊕ N ⊗ num qx) ⊗ num td) (num tx ⊗ (M ⊗ num pd ⊕ N ⊗ num qd)) (sym e) (omega arith)

  pub between_first : IsWestward p t
  between_first =
      let z = above_by (b.n *ℤ t.d) (q.x *ℤ p.d -ℤ p.x *ℤ q.d) weight (t.x *ℤ p.d -ℤ p.x *ℤ t.d) (product_above b.n t.d b.some_q t.above_zero) some_weight
      (sym (spread_first b.m b.n p.x q.x p.d q.d t.x t.d b.x)) (omega (arith, ints, west)) in
      omega (arith, ints, z)

  pub between_last : IsWestward t q
  between_last =
      let z = above_by (b.m *ℤ t.d) (q.x *ℤ p.d -ℤ p.x *ℤ q.d) weight (q.x *ℤ t.d -ℤ t.x *ℤ q.d) (product_above b.m t.d b.some_p t.above_zero) some_weight
      (sym (spread_last b.m b.n p.x q.x p.d q.d t.x t.d b.x)) (omega (arith, ints, west)) in
      omega (arith, ints, z)

-- what lies on a ray along such a line
module _ (K : ℤ) (p t : Rational) (dx dy : ℤ) (along : K *ℤ dy ≡ dx) (o : IsOnRay p dx dy t) where
  some_part : pos 0 <ℤ (o.m *ℤ p.d)
  some_part = product_above o.m p.d o.some_m p.above_zero

  ray_weighed : (m n py px pd ty tx td x y : ℤ) → tx *ℤ (m *ℤ pd) ≡ (m *ℤ px +ℤ n *ℤ x) *ℤ td → ty *ℤ (m *ℤ pd) ≡ (m *ℤ py +ℤ n *ℤ y) *ℤ td → K *ℤ y ≡ x →
      m *ℤ ((K *ℤ ty -ℤ tx) *ℤ pd) ≡ m *ℤ ((K *ℤ py -ℤ px) *ℤ td)
  ray_weighed m n py px pd ty tx td x y at_x at_y l =
      same (num m ⊗ ((num K ⊗ num ty ⊖ num tx) ⊗ num pd)) (num K ⊗ (num ty ⊗ (num m ⊗ num pd)) ⊖ num tx ⊗ (num m ⊗ num pd)) (omega arith)
      ∙ ap (λ z. K *ℤ z -ℤ tx *ℤ (m *ℤ pd)) at_y
      ∙ ap (λ z. K *ℤ ((m *ℤ py +ℤ n *ℤ y) *ℤ td) -ℤ z) at_x
      ∙ (let k = num K in let M = num m in let N = num n in
      same_by (k ⊗ ((M ⊗ num py ⊕ N ⊗ num y) ⊗ num td) ⊖ (M ⊗ num px ⊕ N ⊗ num x) ⊗ num td) (M ⊗ ((k ⊗ num py ⊖ num px) ⊗ num td))
      (N ⊗ num td) (k ⊗ num y) (num x) l (omega arith))

  pub ray_level : AreLevel K t p
  ray_level = record { is = cancel o.m (height_of K t *ℤ p.d) (height_of K p *ℤ t.d) o.some_m (ray_weighed o.m o.n p.y p.x p.d t.y t.x t.d dx dy o.at_x o.at_y along) }

  ray_ahead : (m n px pd tx td x : ℤ) → tx *ℤ (m *ℤ pd) ≡ (m *ℤ px +ℤ n *ℤ x) *ℤ td → m *ℤ (tx *ℤ pd -ℤ px *ℤ td) ≡ (n *ℤ td) *ℤ x
  ray_ahead m n px pd tx td x e =
      let M = num m in
      same_by (M ⊗ (num tx ⊗ num pd ⊖ num px ⊗ num td)) ((num n ⊗ num td) ⊗ num x) (num (pos 1)) (num tx ⊗ (M ⊗ num pd)) ((M ⊗ num px ⊕ num n ⊗ num x) ⊗ num td) e (omega arith)

  pub ray_east : pos 0 <ℤ dx → IsWestward p t
  ray_east east =
      let z = above_by (o.n *ℤ t.d) dx o.m (t.x *ℤ p.d -ℤ p.x *ℤ t.d) (product_above o.n t.d o.some_n t.above_zero) o.some_m (sym (ray_ahead o.m o.n p.x p.d t.x t.d dx o.at_x)) east in
      omega (arith, ints, z)

  pub ray_west : dx <ℤ pos 0 → IsWestward t p
  ray_west west =
      let z = below_by (o.n *ℤ t.d) dx o.m (t.x *ℤ p.d -ℤ p.x *ℤ t.d) (product_above o.n t.d o.some_n t.above_zero) o.some_m (sym (ray_ahead o.m o.n p.x p.d t.x t.d dx o.at_x)) west in
      omega (arith, ints, z)
