-- The points that two chains, or two segments of one chain, may share.
use Rattle.std.proofs.Common.{◌≡◌, ◌≢◌, ◌⊎◌, inl, inr, ⊎_elim, ◌↔◌, ℕ, ◌+◌, ◌-◌, ◌<◌, ◌≤◌, ℤ, pos, ◌*ℤ◌, Option, Some, None, List, length, get_or, ap, sym, subst, ◌∙◌, arith}
use Rattle.std.specs.Prelude.{slice_get}
use Rattle.std.proofs.lemmas.Option.{slice_get-get_or}
use Rattle.tl_geom.specs.declared.point.Point.{Point}
use Rattle.tl_geom.specs.declared.rational.Rational.{Rational}
use Rattle.tl_geom.specs.Plane.{IsSame, whole}
use Rattle.tl_geom.proofs.Polynomials.{num, ◌⊗◌, same}
use Rattle.tl_geom.proofs.Places.{same_sym, same_trans, whole_same}
use Rattle.tl_check_planar.specs.declared.allowed.Allowed.{Allowed}
use Rattle.tl_check_planar.specs.Planar.{IsVertex, IsChainEnd, IsBetweenSegments, IsClosingPoint, MayShareWithin}
use Rattle.tl_check_planar.specs.Keeping.Allowing.{IsAt, IsOneOf}
use Rattle.tl_check_planar.specs.Keeping.Apart.{one_found}

-- ---- a place by products

times_one : (x : ℤ) → x *ℤ pos 1 ≡ x
times_one x = same (num x ⊗ num (pos 1)) (num x) (omega arith)

pub same_by_products : (r : Rational) (p : Point) → r.x ≡ p.x *ℤ r.d → r.y ≡ p.y *ℤ r.d → IsSame r (whole p)
same_by_products r p e f = record { x = times_one r.x ∙ e; y = times_one r.y ∙ f }

pub products_by_same : (r : Rational) (p : Point) → IsSame r (whole p) → (r.x ≡ p.x *ℤ r.d) × (r.y ≡ p.y *ℤ r.d)
products_by_same r p e = (sym (times_one r.x) ∙ e.x, sym (times_one r.y) ∙ e.y)

-- ---- vertices

pub at_vertex : (points : List Point) (k : ℕ) (p : Point) (r : Rational) → slice_get points k ≡ Some p → IsVertex points k r → IsSame r (whole p)
at_vertex points k p r e v =
    let at : v.point ≡ p = one_found v.point p (slice_get points k) v.is e in
    subst (λ z. IsSame r (whole z)) at v.same

pub vertex_at : (points : List Point) (k : ℕ) (p : Point) (r : Rational) → slice_get points k ≡ Some p → IsSame r (whole p) → IsVertex points k r
vertex_at points k p r e s = record { point = p; is = e; same = s }

-- a point stands at a place if it is the one that is read there
pub at_place : (points : List Point) (k : ℕ) (p d : Point) → k < length points → (slice_get points k ≡ Some p) ↔ (p ≡ get_or points k d)
at_place points k p d lt = (
  (λ e. one_found p (get_or points k d) (slice_get points k) e (slice_get-get_or points k d lt)),
  (λ e. slice_get-get_or points k d lt ∙ ap Some (sym e)),
)

-- one point stands at two places if those that are read there are one
pub at_two : (points : List Point) (i j : ℕ) (d : Point) → i < length points → j < length points → (slice_get points i ≡ slice_get points j) ↔ (get_or points i d ≡ get_or points j d)
at_two points i j d one other = (
  (λ e. (at_place points j (get_or points i d) d other).0 (sym e ∙ slice_get-get_or points i d one)),
  (λ e. slice_get-get_or points i d one ∙ ap Some e ∙ sym (slice_get-get_or points j d other)),
)

-- ---- a closed chain

pub closed_ends : (points : List Point) (i j : ℕ) (r : Rational) → IsClosingPoint points i j r → slice_get points 0 ≡ slice_get points (length points - 1)
closed_ends points i j r k =
    let last : j + 1 ≡ length points - 1 = omega (arith, k.last) in
    k.closed ∙ ap (slice_get points) last

pub closing_start : (points : List Point) (steps i j : ℕ) (r : Rational) (d : Point) → 1 ≤ length points → steps + 2 ≡ length points → slice_get points 0 ≡ slice_get points (length points - 1) → j ≡ i + steps → j + 1 < length points
    → IsSame r (whole (get_or points 0 d)) ↔ IsClosingPoint points i j r
closing_start points steps i j r d some long closed e lt =
    let start : slice_get points 0 ≡ Some (get_or points 0 d) = slice_get-get_or points 0 d (omega (arith, some)) in
    let last : length points - 1 ≡ j + 1 = omega (arith, long, e, lt) in (
      (λ s. record { first = omega (arith, long, e, lt); last = omega (arith, long, e, lt); closed = closed ∙ ap (slice_get points) last; start = vertex_at points 0 (get_or points 0 d) r start s }),
      (λ k. at_vertex points 0 (get_or points 0 d) r start k.start),
    )

-- ---- two chains

-- the two points are looked for at the ends of the other chain
pub record AreEnds (points others : List Point) (first last : Point) (allowed : Allowed) : Type 0 where
  pub first_is : slice_get points 0 ≡ Some first
  pub last_is : slice_get points (length points - 1) ≡ Some last
  pub one : (r : Rational) → IsAt allowed.one r ↔ (IsSame r (whole first) × IsChainEnd others r)
  pub other : (r : Rational) → IsAt allowed.other r ↔ (IsSame r (whole last) × IsChainEnd others r)

pub between : (points others : List Point) (first last : Point) (allowed : Allowed) → AreEnds points others first last allowed → (r : Rational) → IsOneOf allowed r ↔ (IsChainEnd points r × IsChainEnd others r)
between points others first last allowed k r = (
  ⊎_elim (λ h. let w : IsSame r (whole first) × IsChainEnd others r = (k.one r).0 h in (inl (vertex_at points 0 first r k.first_is w.0), w.1))
      (λ h. let w : IsSame r (whole last) × IsChainEnd others r = (k.other r).0 h in (inr (vertex_at points (length points - 1) last r k.last_is w.0), w.1)),
  λ h. ⊎_elim (λ v. inl ((k.one r).1 (at_vertex points 0 first r k.first_is v, h.1))) (λ v. inr ((k.other r).1 (at_vertex points (length points - 1) last r k.last_is v, h.1))) h.0,
)

-- a point that is an end, and one that is none
abbrev pub IsFirstOrLast : List Point → Point → Type 0
IsFirstOrLast points p = (slice_get points 0 ≡ Some p) ⊎ (slice_get points (length points - 1) ≡ Some p)

pub end_found : (points : List Point) (p : Point) (r : Rational) → IsFirstOrLast points p → IsAt (Some p) r ↔ (IsSame r (whole p) × IsChainEnd points r)
end_found points p r end = (
  λ h. (h, ⊎_elim (λ e. inl (vertex_at points 0 p r e h)) (λ e. inr (vertex_at points (length points - 1) p r e h)) end),
  λ h. h.0,
)

vertex_is : (points : List Point) (k : ℕ) (p : Point) (r : Rational) → IsSame r (whole p) → IsVertex points k r → slice_get points k ≡ Some p
vertex_is points k p r e v =
    v.is ∙ ap Some (whole_same v.point p (same_trans (whole v.point) r (whole p) (same_sym r (whole v.point) v.same) e))

pub no_end_found : (points : List Point) (p : Point) (r : Rational) → ¬ IsFirstOrLast points p → ⊥ ↔ (IsSame r (whole p) × IsChainEnd points r)
no_end_found points p r none = (
  λ h. absurd h,
  λ h. none (⊎_elim (λ v. inl (vertex_is points 0 p r h.0 v)) (λ v. inr (vertex_is points (length points - 1) p r h.0 v)) h.1),
)

-- ---- two segments of one chain

pub follows_found : (points : List Point) (vertex : Point) (i j : ℕ) (r : Rational) → j ≡ i + 1 → slice_get points (i + 1) ≡ Some vertex → IsAt (Some vertex) r ↔ IsBetweenSegments points i j r
follows_found points vertex i j r e f =
    let at : slice_get points j ≡ Some vertex = ap (λ n. slice_get points n) e ∙ f in (
      λ h. record { follows = e; vertex = vertex_at points j vertex r at h },
      λ k. at_vertex points j vertex r at k.vertex,
    )

-- the two of them together, for segments that follow one another and for others
pub within_next : (points : List Point) (vertex : Point) (steps i j : ℕ) (r : Rational) (allowed : Allowed) → j ≡ i + steps → steps ≡ 1 → slice_get points (i + 1) ≡ Some vertex →
    allowed.one ≡ Some vertex → IsAt allowed.other r ↔ IsClosingPoint points i j r → IsOneOf allowed r ↔ MayShareWithin points i j r
within_next points vertex steps i j r allowed e one at is k =
    let next : IsAt (Some vertex) r ↔ IsBetweenSegments points i j r = follows_found points vertex i j r (omega (arith, e, one)) at in (
      ⊎_elim (λ h. inl (next.0 (subst (λ o. IsAt o r) is h))) (λ h. inr (k.0 h)),
      ⊎_elim (λ h. inl (subst (λ o. IsAt o r) (sym is) (next.1 h))) (λ h. inr (k.1 h)),
    )

pub within_far : (points : List Point) (steps i j : ℕ) (r : Rational) (allowed : Allowed) → j ≡ i + steps → steps ≢ 1 →
    allowed.one ≡ None → IsAt allowed.other r ↔ IsClosingPoint points i j r → IsOneOf allowed r ↔ MayShareWithin points i j r
within_far points steps i j r allowed e far is k = (
  ⊎_elim (λ h. absurd (let none : Option Point = None in let f : IsAt none r = subst (λ o. IsAt o r) is h in f)) (λ h. inr (k.0 h)),
  ⊎_elim (λ h. absurd (far (let f = h.follows in omega arith))) (λ h. inr (k.1 h)),
)
