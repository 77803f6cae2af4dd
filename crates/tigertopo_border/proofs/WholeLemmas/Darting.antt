-- Places beside the first segment of a dart, near its node, and what lies there.
use Rattle.std.proofs.Common.{◌≡◌, ⊎_elim, ℕ, ◌+◌, ℤ, pos, ◌+ℤ◌, ◌-ℤ◌, ◌*ℤ◌, ◌<ℤ◌, ◌≤ℤ◌, Some, List, refl, ap, subst, ◌∙◌, arith}
use Rattle.std.proofs.lemmas.Int.{ints}
use Rattle.tl_geom.specs.declared.point.Point.{Point}
use Rattle.tl_geom.specs.declared.rational.Rational.{Rational}
use Rattle.tl_geom.specs.Plane.{IsOn, cross, whole}
use Rattle.tl_geom.proofs.Polynomials.{num, ◌⊕◌, ◌⊖◌, ◌⊗◌, same, same_by}
use Rattle.tl_geom.proofs.Places.{a_on, b_on}
use Rattle.tl_geom.proofs.Signs.{mono, mono_lt, product_above, product_at_least}
use Rattle.tl_map_county.specs.declared.sides.Side.{Side}
use Rattle.tl_map_county.specs.TheMap.{MapChain}
use Rattle.tl_map_county.specs.Darts.{dart_left}
use Rattle.tl_check_sides.specs.Sides.{dart_right}
use Rattle.tl_check_faces.specs.Crossings.Headings.{AreProper}
use Rattle.tl_check_faces.specs.Facing.{IsOff, step_x, step_y}
use Rattle.tl_check_faces.specs.Truth.{LiesAt, IsNearer, IsTrueAbout, AreSidesTrue, turn_about}
use Rattle.tl_check_faces.proofs.Bounds.{IsFar, far}
use Rattle.tigertopo_border.proofs.WholeLemmas.Beside.{inner, strictly}
use Rattle.tigertopo_border.proofs.WholeLemmas.Spokes.{IsSpoke, of_spoke}
use Rattle.tigertopo_border.proofs.WholeLemmas.Spots.{spot, IsClose}

-- ---- numbers

times_sum : (e M a b : ℤ) → e *ℤ (M *ℤ a +ℤ b) ≡ M *ℤ (e *ℤ a) +ℤ e *ℤ b
times_sum e M a b = same (num e ⊗ (num M ⊗ num a ⊕ num b)) (num M ⊗ (num e ⊗ num a) ⊕ num e ⊗ num b) (omega arith)

-- M a + b is within M (n + k), where a is within n and b within k
within : (e M m0 a b n k : ℤ) → pos 0 <ℤ e → pos 1 ≤ℤ M → pos 0 ≤ℤ k → a ≤ℤ n → b ≤ℤ k → (e *ℤ (n +ℤ k)) <ℤ m0 → (e *ℤ (M *ℤ a +ℤ b)) <ℤ (M *ℤ m0)
within e M m0 a b n k some one least le le' less =
    let f = times_sum e M a b in
    let g : (e *ℤ a) ≤ℤ (e *ℤ n) = mono e a n (omega (arith, ints, some)) le in
    let h : (M *ℤ (e *ℤ a)) ≤ℤ (M *ℤ (e *ℤ n)) = mono M (e *ℤ a) (e *ℤ n) (omega (arith, ints, one)) g in
    let i : (e *ℤ b) ≤ℤ (e *ℤ k) = mono e b k (omega (arith, ints, some)) le' in
    let j : pos 0 ≤ℤ (e *ℤ k) = product_at_least e k (omega (arith, ints, some)) least in
    let l : (pos 1 *ℤ (e *ℤ k)) ≤ℤ (M *ℤ (e *ℤ k)) = scale (e *ℤ k) M j one in
    let o : (M *ℤ (e *ℤ (n +ℤ k))) <ℤ (M *ℤ m0) = mono_lt M (e *ℤ (n +ℤ k)) m0 (omega (arith, ints, one)) less in
    let p : M *ℤ (e *ℤ (n +ℤ k)) ≡ M *ℤ (e *ℤ n) +ℤ M *ℤ (e *ℤ k) = same (num M ⊗ (num e ⊗ (num n ⊕ num k))) (num M ⊗ (num e ⊗ num n) ⊕ num M ⊗ (num e ⊗ num k)) (omega arith) in
    let q : pos 1 *ℤ (e *ℤ k) ≡ e *ℤ k = same (num (pos 1) ⊗ (num e ⊗ num k)) (num e ⊗ num k) (omega arith) in
    omega (arith, ints, f, h, i, l, o, p, q)
  where
    scale : (z M : ℤ) → pos 0 ≤ℤ z → pos 1 ≤ℤ M → (pos 1 *ℤ z) ≤ℤ (M *ℤ z)
    scale z M h k =
        let m : (z *ℤ pos 1) ≤ℤ (z *ℤ M) = mono z (pos 1) M h k in
        let a : z *ℤ pos 1 ≡ pos 1 *ℤ z = same (num z ⊗ num (pos 1)) (num (pos 1) ⊗ num z) (omega arith) in
        let b : z *ℤ M ≡ M *ℤ z = same (num z ⊗ num M) (num M ⊗ num z) (omega arith) in
        omega (arith, ints, m, a, b)

turned_sum : (e M a b : ℤ) → e *ℤ (pos 0 -ℤ (M *ℤ a +ℤ b)) ≡ e *ℤ (M *ℤ (pos 0 -ℤ a) +ℤ (pos 0 -ℤ b))
turned_sum e M a b = same (num e ⊗ (num (pos 0) ⊖ (num M ⊗ num a ⊕ num b))) (num e ⊗ (num M ⊗ (num (pos 0) ⊖ num a) ⊕ (num (pos 0) ⊖ num b))) (omega arith)

-- from the place that is one of m parts along the way, where m is mm + 2, to the one beside it
step_beside : (v a s M p mm : ℤ) → s ≡ v +ℤ (v +ℤ a) →
    ((M *ℤ (mm *ℤ pos 1 +ℤ pos 1 *ℤ pos 2)) *ℤ v +ℤ (M *ℤ a +ℤ p)) *ℤ (mm *ℤ pos 1 +ℤ pos 1 *ℤ pos 2)
    -ℤ (mm *ℤ v +ℤ pos 1 *ℤ s) *ℤ (M *ℤ (mm *ℤ pos 1 +ℤ pos 1 *ℤ pos 2)) ≡ (mm *ℤ pos 1 +ℤ pos 1 *ℤ pos 2) *ℤ p
step_beside v a s M p mm e =
    let V = num v in let A = num a in let S = num s in let N = num M in let P = num p in let m = num mm ⊗ num (pos 1) ⊕ num (pos 1) ⊗ num (pos 2) in
    same_by (((N ⊗ m) ⊗ V ⊕ (N ⊗ A ⊕ P)) ⊗ m ⊖ (num mm ⊗ V ⊕ num (pos 1) ⊗ S) ⊗ (N ⊗ m)) (m ⊗ P)
    (num (pos 0) ⊖ N ⊗ m) S (V ⊕ (V ⊕ A)) e (omega arith)

near_by : (e m M p k : ℤ) → pos 0 <ℤ e → pos 1 ≤ℤ m → pos 1 ≤ℤ M → p ≤ℤ k → (e *ℤ k) <ℤ M → (e *ℤ (m *ℤ p)) <ℤ (m *ℤ (M *ℤ m))
near_by e m M p k some one some_M le less =
    let f : (e *ℤ p) ≤ℤ (e *ℤ k) = mono e p k (omega (arith, ints, some)) le in
    let g : (m *ℤ (e *ℤ p)) <ℤ (m *ℤ M) = mono_lt m (e *ℤ p) M (omega (arith, ints, one)) (omega (arith, ints, f, less)) in
    let h : e *ℤ (m *ℤ p) ≡ m *ℤ (e *ℤ p) = same (num e ⊗ (num m ⊗ num p)) (num m ⊗ (num e ⊗ num p)) (omega arith) in
    let j : (M *ℤ pos 1) ≤ℤ (M *ℤ m) = mono M (pos 1) m (omega (arith, ints, some_M)) one in
    let k : M *ℤ pos 1 ≡ M = same (num M ⊗ num (pos 1)) (num M) (omega arith) in
    let l : (m *ℤ M) ≤ℤ (m *ℤ (M *ℤ m)) = mono m M (M *ℤ m) (omega (arith, ints, one)) (omega (arith, ints, j, k)) in
    omega (arith, ints, g, h, l)

turned_step : (m p : ℤ) → pos 0 -ℤ m *ℤ p ≡ m *ℤ (pos 0 -ℤ p)
turned_step m p = same (num (pos 0) ⊖ num m ⊗ num p) (num m ⊗ (num (pos 0) ⊖ num p)) (omega arith)

-- ---- on which side

side_along : (vx vy sx sy M m px py : ℤ) →
    cross (sx -ℤ vx) (sy -ℤ vy) ((m *ℤ vx +ℤ (M *ℤ (sx -ℤ vx) +ℤ px)) -ℤ m *ℤ vx) ((m *ℤ vy +ℤ (M *ℤ (sy -ℤ vy) +ℤ py)) -ℤ m *ℤ vy) ≡
    cross (sx -ℤ vx) (sy -ℤ vy) px py
side_along vx vy sx sy M m px py =
    let a = num vx in let b = num vy in let c = num sx in let d = num sy in let N = num M in let n = num m in
    same ((c ⊖ a) ⊗ ((n ⊗ b ⊕ (N ⊗ (d ⊖ b) ⊕ num py)) ⊖ n ⊗ b) ⊖ (d ⊖ b) ⊗ ((n ⊗ a ⊕ (N ⊗ (c ⊖ a) ⊕ num px)) ⊖ n ⊗ a))
    ((c ⊖ a) ⊗ num py ⊖ (d ⊖ b) ⊗ num px) (omega arith)

side_against : (vx vy sx sy M m px py : ℤ) →
    cross (vx -ℤ sx) (vy -ℤ sy) ((m *ℤ vx +ℤ (M *ℤ (sx -ℤ vx) +ℤ px)) -ℤ m *ℤ sx) ((m *ℤ vy +ℤ (M *ℤ (sy -ℤ vy) +ℤ py)) -ℤ m *ℤ sy) ≡
    pos 0 -ℤ cross (sx -ℤ vx) (sy -ℤ vy) px py
side_against vx vy sx sy M m px py =
    let a = num vx in let b = num vy in let c = num sx in let d = num sy in let N = num M in let n = num m in
    same ((a ⊖ c) ⊗ ((n ⊗ b ⊕ (N ⊗ (d ⊖ b) ⊕ num py)) ⊖ n ⊗ d) ⊖ (b ⊖ d) ⊗ ((n ⊗ a ⊕ (N ⊗ (c ⊖ a) ⊕ num px)) ⊖ n ⊗ c))
    (num (pos 0) ⊖ ((c ⊖ a) ⊗ num py ⊖ (d ⊖ b) ⊗ num px)) (omega arith)

-- ---- a dart

module _ (chains : List MapChain) (proper : AreProper chains) (true_there : AreSidesTrue chains) (a : ℕ) (s : IsSpoke chains a) where
  abbrev pub way_x : ℤ
  way_x = s.second.x -ℤ s.v.x

  abbrev pub way_y : ℤ
  way_y = s.second.y -ℤ s.v.y

  -- a place that is M parts along the dart and one of (px, py), over m, as near the node as e, and what lies there
  pub record IsBeside (e px py : ℤ) (G : ℕ) : Type 0 where
    pub M : ℤ
    pub m : ℤ
    pub some_m : pos 0 <ℤ m
    pub great : pos G <ℤ M
    pub close : IsClose e (M *ℤ way_x +ℤ px) (M *ℤ way_y +ℤ py) m
    pub left : pos 0 <ℤ cross way_x way_y px py → IsOff chains (spot s.v (M *ℤ way_x +ℤ px) (M *ℤ way_y +ℤ py) m some_m) →
        (side : Side) × (dart_left chains a ≡ Some side) × LiesAt chains (spot s.v (M *ℤ way_x +ℤ px) (M *ℤ way_y +ℤ py) m some_m) side
    pub right : cross way_x way_y px py <ℤ pos 0 → IsOff chains (spot s.v (M *ℤ way_x +ℤ px) (M *ℤ way_y +ℤ py) m some_m) →
        (side : Side) × (dart_right chains a ≡ Some side) × LiesAt chains (spot s.v (M *ℤ way_x +ℤ px) (M *ℤ way_y +ℤ py) m some_m) side

  on_node : IsOn s.u (whole s.v)
  on_node = ⊎_elim (λ r. subst (λ z. IsOn s.u (whole z)) r.from (a_on s.u)) (λ r. subst (λ z. IsOn s.u (whole z)) r.from (b_on s.u)) s.runs

  both_x : s.u.a.x +ℤ s.u.b.x ≡ s.v.x +ℤ (s.v.x +ℤ way_x)
  both_x = ⊎_elim
      (λ r. let e = ap (λ (z : Point). z.x) r.from in let f = ap (λ (z : Point). z.x) r.to in omega (arith, ints, e, f))
      (λ r. let e = ap (λ (z : Point). z.x) r.from in let f = ap (λ (z : Point). z.x) r.to in omega (arith, ints, e, f)) s.runs

  both_y : s.u.a.y +ℤ s.u.b.y ≡ s.v.y +ℤ (s.v.y +ℤ way_y)
  both_y = ⊎_elim
      (λ r. let e = ap (λ (z : Point). z.y) r.from in let f = ap (λ (z : Point). z.y) r.to in omega (arith, ints, e, f))
      (λ r. let e = ap (λ (z : Point). z.y) r.from in let f = ap (λ (z : Point). z.y) r.to in omega (arith, ints, e, f)) s.runs

  module _ (e px py : ℤ) (some_e : pos 0 <ℤ e) (G : ℕ) where
    ax : IsFar way_x
    ax = far way_x

    ay : IsFar way_y
    ay = far way_y

    bx : IsFar px
    bx = far px

    by : IsFar py
    by = far py

    g : ℕ
    g = (ax.n + ay.n) + (bx.n + by.n)

    mm : ℤ
    mm = e *ℤ pos g +ℤ pos 1

    mm_is : mm ≡ e *ℤ pos g +ℤ pos 1
    unfolding mm
    mm_is = refl

    some_mm : pos 0 <ℤ mm
    unfolding mm
    some_mm = let p = product_at_least e (pos g) (omega (arith, ints, some_e)) (omega (arith, ints)) in omega (arith, ints, p)

    m0 : ℤ
    m0 = mm *ℤ pos 1 +ℤ pos 1 *ℤ pos 2

    m0_is : m0 ≡ mm +ℤ pos 2
    unfolding m0
    m0_is = same (num mm ⊗ num (pos 1) ⊕ num (pos 1) ⊗ num (pos 2)) (num mm ⊕ num (pos 2)) (omega arith)

    some_m0 : pos 1 ≤ℤ m0
    some_m0 = let e = m0_is in let s = some_mm in omega (arith, ints, e, s)

    r : Rational
    r = inner s.u (whole s.v) on_node mm some_mm

    by_about : (e' : ℤ) × IsTrueAbout chains s.chain s.u r e' → IsBeside e px py G
    unfolding r m0 g
    by_about (e', about) = record {
      M = M;
      m = m;
      some_m = some_m;
      great = great;
      close = record {
        west = (let f = turned_sum e M way_x px in let k = reach (pos 0 -ℤ way_x) (pos 0 -ℤ px) (let h = ax.below in omega (arith, ints, h)) (let h = bx.below in omega (arith, ints, h)) in omega (arith, ints, f, k));
        east = reach way_x px (let h = ax.above in omega (arith, ints, h)) (let h = bx.above in omega (arith, ints, h));
        south = (let f = turned_sum e M way_y py in let k = reach (pos 0 -ℤ way_y) (pos 0 -ℤ py) (let h = ay.below in omega (arith, ints, h)) (let h = by.below in omega (arith, ints, h)) in omega (arith, ints, f, k));
        north = reach way_y py (let h = ay.above in omega (arith, ints, h)) (let h = by.above in omega (arith, ints, h));
      };
      left = λ turn clear. ⊎_elim
          (λ run. (s.chain.left, run.left, about.left q near clear (let f = along run.from run.to in omega (arith, ints, f, turn))))
          (λ run. (s.chain.right, run.left, about.right q near clear (let f = against run.from run.to in omega (arith, ints, f, turn))))
          s.runs;
      right = λ turn clear. ⊎_elim
          (λ run. (s.chain.right, run.right, about.right q near clear (let f = along run.from run.to in omega (arith, ints, f, turn))))
          (λ run. (s.chain.left, run.right, about.left q near clear (let f = against run.from run.to in omega (arith, ints, f, turn))))
          s.runs;
    }
      where
        M : ℤ
        M = e' *ℤ pos g +ℤ pos G +ℤ pos 1

        more : pos 0 ≤ℤ (e' *ℤ pos g)
        more = product_at_least e' (pos g) (let h = about.some in omega (arith, ints, h)) (omega (arith, ints))

        great : pos G <ℤ M
        great = let h = more in omega (arith, ints, h)

        some_M : pos 1 ≤ℤ M
        some_M = let h = more in omega (arith, ints, h)

        m : ℤ
        m = M *ℤ m0

        some_m : pos 0 <ℤ m
        some_m = product_above M m0 (let h = some_M in omega (arith, ints, h)) (let h = some_m0 in omega (arith, ints, h))

        less_m0 : (e *ℤ pos g) <ℤ m0
        less_m0 = let f = m0_is in let h = mm_is in omega (arith, ints, f, h)

        reach : (z w : ℤ) → z ≤ℤ pos (ax.n + ay.n) → w ≤ℤ pos (bx.n + by.n) → (e *ℤ (M *ℤ z +ℤ w)) <ℤ m
        reach z w le le' = within e M m0 z w (pos (ax.n + ay.n)) (pos (bx.n + by.n)) some_e some_M (omega (arith, ints)) le le' less_m0

        q : Rational
        q = spot s.v (M *ℤ way_x +ℤ px) (M *ℤ way_y +ℤ py) m some_m

        step : (z k : ℤ) → z ≡ m0 *ℤ k → k ≤ℤ pos g → (e' *ℤ z) <ℤ (m0 *ℤ m)
        step z k is le =
            let f = near_by e' m0 M k (pos g) about.some some_m0 some_M le (omega (arith, ints)) in
            let h = ap (λ t. e' *ℤ t) is in omega (arith, ints, f, h)

        east : step_x r q ≡ m0 *ℤ px
        east = step_beside s.v.x way_x (s.u.a.x +ℤ s.u.b.x) M px mm both_x

        north : step_y r q ≡ m0 *ℤ py
        north = step_beside s.v.y way_y (s.u.a.y +ℤ s.u.b.y) M py mm both_y

        near : IsNearer e' r q
        near = record {
          west = step (pos 0 -ℤ step_x r q) (pos 0 -ℤ px) (ap (λ z. pos 0 -ℤ z) east ∙ turned_step m0 px) (let h = bx.below in omega (arith, ints, h));
          east = step (step_x r q) px east (let h = bx.above in omega (arith, ints, h));
          south = step (pos 0 -ℤ step_y r q) (pos 0 -ℤ py) (ap (λ z. pos 0 -ℤ z) north ∙ turned_step m0 py) (let h = by.below in omega (arith, ints, h));
          north = step (step_y r q) py north (let h = by.above in omega (arith, ints, h));
        }

        along : s.u.a ≡ s.v → s.u.b ≡ s.second → turn_about s.u q ≡ cross way_x way_y px py
        along f h = ends f h ∙ side_along s.v.x s.v.y s.second.x s.second.y M m px py
          where
            ends : s.u.a ≡ s.v → s.u.b ≡ s.second → turn_about s.u q ≡
                cross (s.second.x -ℤ s.v.x) (s.second.y -ℤ s.v.y) (q.x -ℤ q.d *ℤ s.v.x) (q.y -ℤ q.d *ℤ s.v.y)
            ends f h = λ i. cross ((h i).x -ℤ (f i).x) ((h i).y -ℤ (f i).y) (q.x -ℤ q.d *ℤ (f i).x) (q.y -ℤ q.d *ℤ (f i).y)

        against : s.u.b ≡ s.v → s.u.a ≡ s.second → turn_about s.u q ≡ pos 0 -ℤ cross way_x way_y px py
        against f h = ends f h ∙ side_against s.v.x s.v.y s.second.x s.second.y M m px py
          where
            ends : s.u.b ≡ s.v → s.u.a ≡ s.second → turn_about s.u q ≡
                cross (s.v.x -ℤ s.second.x) (s.v.y -ℤ s.second.y) (q.x -ℤ q.d *ℤ s.second.x) (q.y -ℤ q.d *ℤ s.second.y)
            ends f h = λ i. cross ((f i).x -ℤ (h i).x) ((f i).y -ℤ (h i).y) (q.x -ℤ q.d *ℤ (h i).x) (q.y -ℤ q.d *ℤ (h i).y)

    pub beside : IsBeside e px py G
    unfolding r
    beside = by_about (true_there s.chain s.u (inner s.u (whole s.v) on_node mm some_mm) (of_spoke chains proper a s) (strictly s.u (whole s.v) on_node mm some_mm))
