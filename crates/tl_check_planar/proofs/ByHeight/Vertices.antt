-- A place that is an end of two segments may be shared, where the vertices are tested.
use Rattle.std.proofs.Common.{◌≡◌, ◌⊎◌, inl, inr, ⊎_elim, ℕ, ◌+◌, ◌-◌, ◌<◌, ◌≤◌, Some, List, length, ap, sym, subst, ◌∙◌, arith}
use Rattle.std.specs.Prelude.{slice_get}
use Rattle.std.proofs.lemmas.Bool.{cases_eq}
use Rattle.tl_geom.specs.declared.point.Point.{Point}
use Rattle.tl_geom.specs.declared.rational.Rational.{Rational}
use Rattle.tl_geom.specs.Plane.{IsSame, whole}
use Rattle.tl_geom.specs.Contact.{IsEnd}
use Rattle.tl_geom.proofs.Places.{same_sym, same_trans, whole_same}
use Rattle.tl_map_county.specs.TheMap.{MapChain}
use Rattle.tl_map_county.specs.Segments.{segments_before}
use Rattle.tl_check_planar.specs.Planar.{IsOnSegment, IsChainEnd, MayShareWithin}
use Rattle.tl_check_planar.specs.Meets.{IsSharedBy, IsAllowed}
use Rattle.tl_check_planar.proofs.Ends.{vertex_at}
use Rattle.tl_check_planar.proofs.Planes.{one_points}
use Rattle.tl_check_planar.specs.ByHeight.Slabs.{IsChainPoint, IsEndPlace, AreVerticesTested}

-- the place is the point at place k of a chain, one of the two of segment i
record IsAtPlace (points : List Point) (i : ℕ) (r : Rational) : Type 0 where
  k : ℕ
  low : i ≤ k
  high : k ≤ i + 1
  point : Point
  is : slice_get points k ≡ Some point
  same : IsSame r (whole point)

at_place : (points : List Point) (i : ℕ) (r : Rational) (o : IsOnSegment points i r) → IsEnd o.segment r → IsAtPlace points i r
at_place points i r o =
    ⊎_elim (λ e. record { k = i; low = omega arith; high = omega arith; point = o.segment.a; is = o.from; same = e })
    (λ e. record { k = i + 1; low = omega arith; high = omega arith; point = o.segment.b; is = o.to; same = e })

chain_end : (points : List Point) (k : ℕ) (p : Point) (r : Rational) → slice_get points k ≡ Some p → IsSame r (whole p) → IsEndPlace points k → IsChainEnd points r
chain_end points k p r is same =
    ⊎_elim (λ e. inl (vertex_at points 0 p r (subst (λ n. slice_get points n ≡ Some p) e is) same))
    (λ e. inr (vertex_at points (length points - 1) p r (subst (λ n. slice_get points n ≡ Some p) (let last : k ≡ length points - 1 = omega (arith, e) in last) is) same))

-- two segments of one chain, i below j, at a place k of the one and at a place l of the other
module _ (points : List Point) (i j : ℕ) (r : Rational) (lt : i < j) (within : j + 1 < length points) (k l : ℕ) (low : i ≤ k) (high : k ≤ i + 1) (low' : j ≤ l) (high' : l ≤ j + 1)
    (p : Point) (is : slice_get points k ≡ Some p) (is' : slice_get points l ≡ Some p) (same : IsSame r (whole p)) where
  at_one : k ≡ l → MayShareWithin points i j r
  at_one e =
      inl (record {
        follows = omega (arith, lt, high, low', e);
        vertex = vertex_at points j p r (subst (λ n. slice_get points n ≡ Some p) (let is_j : k ≡ j = omega (arith, lt, high, low', e) in is_j) is) same;
      })

  closing : k ≡ 0 → l + 1 ≡ length points → MayShareWithin points i j r
  closing e f =
      let last : l ≡ j + 1 = omega (arith, f, within, high') in
      inr (record {
        first = omega (arith, e, low);
        last = omega (arith, f, last);
        closed = ap (slice_get points) (sym e) ∙ is ∙ sym is' ∙ ap (slice_get points) last;
        start = vertex_at points 0 p r (subst (λ n. slice_get points n ≡ Some p) e is) same;
      })

  at_ends : IsEndPlace points k → IsEndPlace points l → MayShareWithin points i j r
  at_ends first last =
      ⊎_elim
      (λ start. absurd (let zero : l ≡ 0 = start in omega (arith, zero, low', lt)))
      (λ f. ⊎_elim (λ e. closing e f) (λ e. at_one (let both : k ≡ l = omega (arith, e, f) in both)) first)
      last

-- the two places are those of one point
pub may_share : (chains : List MapChain) → AreVerticesTested chains → (s t : ℕ) → s < t → (r : Rational) (m : IsSharedBy chains s t r) → IsEnd m.on_first.segment r → IsEnd m.on_second.segment r → IsAllowed chains s t r m
may_share chains tested s t lt r m end end' =
    let one : IsAtPlace m.first.chain.points m.i r = at_place m.first.chain.points m.i r m.on_first end in
    let other : IsAtPlace m.second.chain.points m.j r = at_place m.second.chain.points m.j r m.on_second end' in
    let here : other.point ≡ one.point = whole_same other.point one.point (same_trans (whole other.point) r (whole one.point) (same_sym r (whole other.point) other.same) one.same) in
    let is : slice_get m.second.chain.points other.k ≡ Some one.point = other.is ∙ ap Some here in
    let first : IsChainPoint chains m.c one.k one.point = record { chain = m.first.chain; is = m.first.is; point = one.is } in
    let second : IsChainPoint chains m.d other.k one.point = record { chain = m.second.chain; is = m.second.is; point = is } in
    let told : ((m.c ≡ m.d) × (one.k ≡ other.k)) ⊎ (IsEndPlace m.first.chain.points one.k × IsEndPlace m.second.chain.points other.k) =
    tested m.c one.k m.d other.k one.point first second in
    ⊎_elim
    (λ e.
    let points : m.second.chain.points ≡ m.first.chain.points = ap (λ (z : MapChain). z.points) (one_points chains s t r m e) in
    let before : segments_before chains m.c ≡ segments_before chains m.d = ap (λ n. segments_before chains n) e in
    let number = m.first.number in
    let number' = m.second.number in
    let place = m.second.place in
    let long : length m.second.chain.points ≡ length m.first.chain.points = ap length points in
    let below : m.i < m.j = omega (arith, lt, before, number, number') in
    let within : m.j + 1 < length m.first.chain.points = omega (arith, place, long) in
    let is' : slice_get m.first.chain.points other.k ≡ Some one.point = subst (λ ps. slice_get ps other.k ≡ Some one.point) points is in
    inr (
      e,
      ⊎_elim
          (λ twice. at_one m.first.chain.points m.i m.j r below within one.k other.k one.low one.high other.low other.high one.point one.is is' one.same twice.1)
          (λ ends. at_ends m.first.chain.points m.i m.j r below within one.k other.k one.low one.high other.low other.high one.point one.is is' one.same ends.0
          (subst (λ ps. IsEndPlace ps other.k) points ends.1)) told,
    ))
    (λ ne.
    inl (
      ne,
      ⊎_elim (λ twice. absurd (ne twice.0))
          (λ ends. (
            chain_end m.first.chain.points one.k one.point r one.is one.same ends.0,
            chain_end m.second.chain.points other.k one.point r is one.same ends.1,
          )) told,
    ))
    (cases_eq m.c m.d)
