-- What is near a place: of segments that hold a place near enough to it each holds the place itself, and of two places near it so is
-- what lies between.
use Rattle.std.proofs.Common.{◌≡◌, inl, inr, ⊎_elim, ℕ, ◌+◌, ℤ, pos, ◌+ℤ◌, ◌-ℤ◌, ◌*ℤ◌, ◌<ℤ◌, ◌≤ℤ◌, List, ap, arith}
use Rattle.std.proofs.lemmas.Int.{ints, by_lt_z}
use Rattle.tl_geom.specs.declared.rational.Rational.{Rational}
use Rattle.tl_geom.specs.declared.segment.Segment.{Segment}
use Rattle.tl_geom.specs.Plane.{IsOn, IsBetween}
use Rattle.tl_geom.proofs.Polynomials.{num, ◌⊕◌, ◌⊖◌, ◌⊗◌, same, same_by}
use Rattle.tl_geom.proofs.Signs.{mono_lt, cancel_lt, product_above, sign}
use Rattle.tl_map_county.specs.TheMap.{MapChain}
use Rattle.tl_check_planar.specs.ByHeight.Heights.{turn_at}
use Rattle.tl_check_planar.specs.ByHeight.Neighbours.{IsNumbered}
use Rattle.tl_check_faces.specs.Facing.{IsStrictlyBetween, step_x, step_y}
use Rattle.tl_check_faces.specs.Truth.{IsNearer}
use Rattle.tl_check_faces.proofs.Bounds.{IsBounded, AreBounded}
use Rattle.tl_check_faces.proofs.Near as near_by
use Rattle.tl_check_faces.proofs.Others.{widest_of, nearness, wide_enough}

-- ---- between

module _ (m n rd qd td : ℤ) (some_m : pos 0 <ℤ m) (some_n : pos 0 <ℤ n) (r_above : pos 0 <ℤ rd) (q_above : pos 0 <ℤ qd) (t_above : pos 0 <ℤ td) where
  abbrev weight : ℤ
  weight = m *ℤ rd +ℤ n *ℤ qd

  some_weight : pos 0 <ℤ weight
  some_weight = let one = product_above m rd some_m r_above in let two = product_above n qd some_n q_above in omega (arith, ints, one, two)

  nearer : (e rx qx tx : ℤ) → tx *ℤ weight ≡ (m *ℤ rx +ℤ n *ℤ qx) *ℤ td → (e *ℤ (qx *ℤ rd -ℤ rx *ℤ qd)) <ℤ (rd *ℤ qd) → (e *ℤ (tx *ℤ rd -ℤ rx *ℤ td)) <ℤ (rd *ℤ td)
  nearer e rx qx tx mean near =
      let M = num m in let N = num n in let R = num rd in let Q = num qd in let T = num td in let E = num e in
      let X = num rx in let Y = num qx in let Z = num tx in
      let step : weight *ℤ (tx *ℤ rd -ℤ rx *ℤ td) ≡ (n *ℤ td) *ℤ (qx *ℤ rd -ℤ rx *ℤ qd) =
      same_by ((M ⊗ R ⊕ N ⊗ Q) ⊗ (Z ⊗ R ⊖ X ⊗ T)) ((N ⊗ T) ⊗ (Y ⊗ R ⊖ X ⊗ Q)) R (Z ⊗ (M ⊗ R ⊕ N ⊗ Q)) ((M ⊗ X ⊕ N ⊗ Y) ⊗ T) mean (omega arith) in
      let one : weight *ℤ (e *ℤ (tx *ℤ rd -ℤ rx *ℤ td)) ≡ e *ℤ (weight *ℤ (tx *ℤ rd -ℤ rx *ℤ td)) =
      same ((M ⊗ R ⊕ N ⊗ Q) ⊗ (E ⊗ (Z ⊗ R ⊖ X ⊗ T))) (E ⊗ ((M ⊗ R ⊕ N ⊗ Q) ⊗ (Z ⊗ R ⊖ X ⊗ T))) (omega arith) in
      let two : e *ℤ (weight *ℤ (tx *ℤ rd -ℤ rx *ℤ td)) ≡ e *ℤ ((n *ℤ td) *ℤ (qx *ℤ rd -ℤ rx *ℤ qd)) = ap (λ z. e *ℤ z) step in
      let three : e *ℤ ((n *ℤ td) *ℤ (qx *ℤ rd -ℤ rx *ℤ qd)) ≡ (n *ℤ td) *ℤ (e *ℤ (qx *ℤ rd -ℤ rx *ℤ qd)) =
      same (E ⊗ ((N ⊗ T) ⊗ (Y ⊗ R ⊖ X ⊗ Q))) ((N ⊗ T) ⊗ (E ⊗ (Y ⊗ R ⊖ X ⊗ Q))) (omega arith) in
      let less : ((n *ℤ td) *ℤ (e *ℤ (qx *ℤ rd -ℤ rx *ℤ qd))) <ℤ ((n *ℤ td) *ℤ (rd *ℤ qd)) =
      mono_lt (n *ℤ td) (e *ℤ (qx *ℤ rd -ℤ rx *ℤ qd)) (rd *ℤ qd) (product_above n td some_n t_above) near in
      let whole : weight *ℤ (rd *ℤ td) ≡ (m *ℤ rd) *ℤ (rd *ℤ td) +ℤ (n *ℤ td) *ℤ (rd *ℤ qd) =
      same ((M ⊗ R ⊕ N ⊗ Q) ⊗ (R ⊗ T)) ((M ⊗ R) ⊗ (R ⊗ T) ⊕ (N ⊗ T) ⊗ (R ⊗ Q)) (omega arith) in
      let more : pos 0 <ℤ ((m *ℤ rd) *ℤ (rd *ℤ td)) = product_above (m *ℤ rd) (rd *ℤ td) (product_above m rd some_m r_above) (product_above rd td r_above t_above) in
      let some = some_weight in
      cancel_lt weight (e *ℤ (tx *ℤ rd -ℤ rx *ℤ td)) (rd *ℤ td) (omega (arith, ints, some)) (omega (arith, ints, one, two, three, less, whole, more))

turned : (e z : ℤ) → e *ℤ (pos 0 -ℤ z) ≡ (pos 0 -ℤ e) *ℤ z
turned e z = same (num e ⊗ (num (pos 0) ⊖ num z)) ((num (pos 0) ⊖ num e) ⊗ num z) (omega arith)

-- what lies between a place and one near it is as near
pub between_near : (e : ℤ) (r q t : Rational) → IsNearer e r q → IsStrictlyBetween r q t → IsNearer e r t
between_near e r q t near b =
    let west = near.west in let south = near.south in
    let w = turned e (step_x r q) in let w' = turned e (step_x r t) in let s = turned e (step_y r q) in let s' = turned e (step_y r t) in
    let less : ((pos 0 -ℤ e) *ℤ step_x r t) <ℤ (r.d *ℤ t.d) =
    nearer b.m b.n r.d q.d t.d b.some_p b.some_q r.above_zero q.above_zero t.above_zero (pos 0 -ℤ e) r.x q.x t.x b.x (omega (arith, ints, west, w)) in
    let less' : ((pos 0 -ℤ e) *ℤ step_y r t) <ℤ (r.d *ℤ t.d) =
    nearer b.m b.n r.d q.d t.d b.some_p b.some_q r.above_zero q.above_zero t.above_zero (pos 0 -ℤ e) r.y q.y t.y b.y (omega (arith, ints, south, s)) in
    record {
      west = omega (arith, ints, less, w');
      east = nearer b.m b.n r.d q.d t.d b.some_p b.some_q r.above_zero q.above_zero t.above_zero e r.x q.x t.x b.x near.east;
      south = omega (arith, ints, less', s');
      north = nearer b.m b.n r.d q.d t.d b.some_p b.some_q r.above_zero q.above_zero t.above_zero e r.y q.y t.y b.y near.north;
    }

-- ---- segments

-- with latitudes and longitudes exchanged
abbrev across : Rational → Rational
across r = record { x = r.y; y = r.x; d = r.d; above_zero = r.above_zero }

near_across : (e : ℤ) (r q : Rational) → IsNearer e r q → IsNearer e (across r) (across q)
near_across e r q near = record { west = near.south; east = near.north; south = near.west; north = near.east }

module _ (chains : List MapChain) (n : ℕ) (bounded : AreBounded n chains) (r q : Rational) (near : IsNearer (nearness r n) r q) where
  between_stays : (a b rx qx : ℤ) → ((v : ℤ) → rx <ℤ (r.d *ℤ v) → qx <ℤ (q.d *ℤ v)) → ((v : ℤ) → (r.d *ℤ v) <ℤ rx → (q.d *ℤ v) <ℤ qx) →
      IsBetween (q.d *ℤ a) (q.d *ℤ b) qx → IsBetween (r.d *ℤ a) (r.d *ℤ b) rx
  between_stays a b rx qx below above = ⊎_elim (λ k. inl (from a k.0, to b k.1)) (λ k. inr (from b k.0, to a k.1))
    where
      from : (v : ℤ) → (q.d *ℤ v) ≤ℤ qx → (r.d *ℤ v) ≤ℤ rx
      from v h = by_lt_z rx (r.d *ℤ v) (λ lt. absurd (let k = below v lt in omega (arith, ints, k, h))) (λ le. le)

      to : (v : ℤ) → qx ≤ℤ (q.d *ℤ v) → rx ≤ℤ (r.d *ℤ v)
      to v h = by_lt_z (r.d *ℤ v) rx (λ lt. absurd (let k = above v lt in omega (arith, ints, k, h))) (λ le. le)

  pub on_near : (s : ℕ) (u : Segment) → IsNumbered chains s u → IsOn u q → IsOn u r
  on_near s u is on = record {
    straight = ⊎_elim (λ less. absurd (let h = turned_below less in let e = on.straight in omega (arith, ints, h, e)))
        (⊎_elim (λ zero. zero) (λ more. absurd (let h = turned_above more in let e = on.straight in omega (arith, ints, h, e))))
        (sign (turn_at u.a u.b r));
    x_between = between_stays u.a.x u.b.x r.x q.x
        (near_by.north_stays (across r) (across q) (widest_of n) (wide_enough n) (near_across (nearness r n) r q near))
        (near_by.south_stays (across r) (across q) (widest_of n) (wide_enough n) (near_across (nearness r n) r q near)) on.x_between;
    y_between = between_stays u.a.y u.b.y r.y q.y (near_by.north_stays r q (widest_of n) (wide_enough n) near)
        (near_by.south_stays r q (widest_of n) (wide_enough n) near) on.y_between;
  }
    where
      first : IsBounded n u.a
      first = bounded is.c is.k is.joins.chain u.a is.joins.is is.joins.from

      last : IsBounded n u.b
      last = bounded is.c (is.k + 1) is.joins.chain u.b is.joins.is is.joins.to

      x_low : (pos 0 -ℤ widest_of n) ≤ℤ (u.b.x -ℤ u.a.x)
      x_low = let w = last.west in let e = first.east in omega (arith, ints, w, e)

      x_high : (u.b.x -ℤ u.a.x) ≤ℤ widest_of n
      x_high = let w = first.west in let e = last.east in omega (arith, ints, w, e)

      y_low : (pos 0 -ℤ widest_of n) ≤ℤ (u.b.y -ℤ u.a.y)
      y_low = let w = last.south in let e = first.north in omega (arith, ints, w, e)

      y_high : (u.b.y -ℤ u.a.y) ≤ℤ widest_of n
      y_high = let w = first.south in let e = last.north in omega (arith, ints, w, e)

      turned_above : pos 0 <ℤ turn_at u.a u.b r → pos 0 <ℤ turn_at u.a u.b q
      turned_above = near_by.turn_above r q (widest_of n) (wide_enough n) near u.a u.b x_low x_high y_low y_high

      turned_below : turn_at u.a u.b r <ℤ pos 0 → turn_at u.a u.b q <ℤ pos 0
      turned_below = near_by.turn_below r q (widest_of n) (wide_enough n) near u.a u.b x_low x_high y_low y_high
