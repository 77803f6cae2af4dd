-- What two segments by their numbers may share, from what was found of their chains.
use Rattle.std.proofs.Common.{◌≡◌, ◌≢◌, inl, inr, ⊎_elim, ◌↔◌, ℕ, ◌+◌, ◌-◌, ◌<◌, Some, List, length, ap, sym, subst, ◌∙◌, arith}
use Rattle.std.specs.Prelude.{slice_get}
use Rattle.tl_geom.specs.declared.point.Point.{Point}
use Rattle.tl_geom.specs.declared.rational.Rational.{Rational}
use Rattle.tl_geom.specs.declared.segment.Segment.{Segment}
use Rattle.tl_geom.specs.Plane.{end_b}
use Rattle.tl_map_county.specs.TheMap.{MapChain}
use Rattle.tl_map_county.specs.Segments.{segments_before, IsSegmentOf, Joins}
use Rattle.tl_check_planar.specs.declared.allowed.Allowed.{Allowed}
use Rattle.tl_check_planar.specs.Planar.{IsChainEnd, MayShareWithin}
use Rattle.tl_check_planar.specs.Meets.{IsSharedBy, IsAllowed}
use Rattle.tl_check_planar.specs.Keeping.Allowing.{IsOneOf}
use Rattle.tl_check_planar.specs.Keeping.Apart.{one_found}
use Rattle.tl_check_planar.proofs.Numbering.{one_chain, one_place}
use Rattle.tl_check_planar.proofs.Planes.{one_points}

-- a segment, by its chain's points
pub record IsFound (chains : List MapChain) (s c : ℕ) (points : List Point) : Type 0 where
  pub k : ℕ
  pub number : IsSegmentOf chains s c k
  pub chain : MapChain
  pub is : slice_get chains c ≡ Some chain
  pub points_are : points ≡ chain.points

found_points : (chains : List MapChain) (s c d i : ℕ) (points : List Point) → IsFound chains s c points → (number : IsSegmentOf chains s d i) → points ≡ number.chain.points
found_points chains s c d i points f number =
    let e : c ≡ d = one_chain chains s c f.k d i f.number number in
    f.points_are ∙ ap (λ (z : MapChain). z.points) (one_found f.chain number.chain (slice_get chains c) f.is (subst (λ n. slice_get chains n ≡ Some number.chain) (sym e) number.is))

-- the end of a segment, by any of its numbers
vertex : (chains : List MapChain) (s c k d i : ℕ) (one : Segment) → IsSegmentOf chains s c k → Joins chains c k one → (number : IsSegmentOf chains s d i) → slice_get number.chain.points (i + 1) ≡ Some (end_b one)
vertex chains s c k d i one first joins number =
    let e : c ≡ d = one_chain chains s c k d i first number in
    let f : k ≡ i = one_place chains s c k d i first number in
    let same : joins.chain ≡ number.chain = one_found joins.chain number.chain (slice_get chains c) joins.is (subst (λ n. slice_get chains n ≡ Some number.chain) (sym e) number.is) in
    subst (λ (z : MapChain). slice_get z.points (i + 1) ≡ Some (end_b one)) same (subst (λ n. slice_get joins.chain.points (n + 1) ≡ Some (end_b one)) f joins.to)

pub same_chain : (chains : List MapChain) (s t c d : ℕ) (points : List Point) (one : Segment) (allowed : Allowed) → s < t → IsFound chains s c points → (k : ℕ) × IsSegmentOf chains t d k → c ≡ d →
    (c : ℕ) × (k : ℕ) × IsSegmentOf chains s c k × Joins chains c k one →
    ((i j : ℕ) (r : Rational) → j ≡ i + (t - s) → j + 1 < length points → slice_get points (i + 1) ≡ Some (end_b one) → IsOneOf allowed r ↔ MayShareWithin points i j r) →
    (r : Rational) (m : IsSharedBy chains s t r) → IsOneOf allowed r ↔ IsAllowed chains s t r m
same_chain chains s t c d points one allowed lt found other eq first within r m =
    let e : m.c ≡ m.d = one_chain chains s m.c m.i c found.k m.first found.number ∙ eq ∙ one_chain chains t d other.0 m.d m.j other.1 m.second in
    let ps : points ≡ m.first.chain.points = found_points chains s c m.c m.i points found m.first in
    let before : segments_before chains m.c ≡ segments_before chains m.d = ap (λ n. segments_before chains n) e in
    let count : length m.second.chain.points ≡ length points = ap (λ (z : MapChain). length z.points) (one_points chains s t r m e) ∙ ap length (sym ps) in
    let k : IsOneOf allowed r ↔ MayShareWithin points m.i m.j r =
    within m.i m.j r (omega (arith, lt, before, m.first.number, m.second.number)) (omega (arith, count, m.second.place))
    (subst (λ z. slice_get z (m.i + 1) ≡ Some (end_b one)) (sym ps) (vertex chains s first.0 first.1 m.c m.i one first.2 first.3 m.first)) in (
      λ h. inr (e, subst (λ z. MayShareWithin z m.i m.j r) ps (k.0 h)),
      ⊎_elim (λ w. absurd (w.0 e)) (λ w. k.1 (subst (λ z. MayShareWithin z m.i m.j r) (sym ps) w.1)),
    )

pub other_chain : (chains : List MapChain) (s t c d : ℕ) (points others : List Point) (allowed : Allowed) → IsFound chains s c points → IsFound chains t d others → c ≢ d →
    ((r : Rational) → IsOneOf allowed r ↔ (IsChainEnd points r × IsChainEnd others r)) →
    (r : Rational) (m : IsSharedBy chains s t r) → IsOneOf allowed r ↔ IsAllowed chains s t r m
other_chain chains s t c d points others allowed found found' ne between r m =
    let ps : points ≡ m.first.chain.points = found_points chains s c m.c m.i points found m.first in
    let os : others ≡ m.second.chain.points = found_points chains t d m.d m.j others found' m.second in
    let apart : m.c ≢ m.d = λ e. ne (one_chain chains s c found.k m.c m.i found.number m.first ∙ e ∙ one_chain chains t m.d m.j d found'.k m.second found'.number) in
    let k : IsOneOf allowed r ↔ (IsChainEnd points r × IsChainEnd others r) = between r in (
      λ h. inl (apart, (subst (λ z. IsChainEnd z r) ps (k.0 h).0, subst (λ z. IsChainEnd z r) os (k.0 h).1)),
      ⊎_elim (λ w. k.1 (subst (λ z. IsChainEnd z r) (sym ps) w.1.0, subst (λ z. IsChainEnd z r) (sym os) w.1.1)) (λ w. absurd (apart w.0)),
    )
