-- Where no meet is listed, chains are planar: a point that two segments share is allowed or isn't.
use Rattle.std.proofs.Common.{◌≡◌, inl, inr, ℕ, ◌+◌, ◌-◌, ◌<◌, ◌*ℤ◌, Option, Some, None, List, [], ◌∷◌, refl, length, sym, subst, ◌∙◌, arith}
use Rattle.std.specs.Prelude.{slice_get}
use Rattle.std.proofs.lemmas.Bool.{cases_eq}
use Rattle.tl_geom.specs.declared.point.Point.{Point}
use Rattle.tl_geom.specs.declared.rational.Rational.{Rational}
use Rattle.tl_geom.specs.Plane.{IsSame, whole}
use Rattle.tl_map_county.specs.TheMap.{MapChain}
use Rattle.tl_check_planar.specs.declared.meet.Meet.{Meet}
use Rattle.tl_check_planar.specs.Planar.{IsVertex, IsChainEnd, IsBetweenSegments, IsClosingPoint, IsPlanar}
use Rattle.tl_check_planar.specs.Meets.{IsSharedBy, IsAllowed}
use Rattle.tl_check_planar.proofs.Planes.{free_planar, meet_not_planar}
use Rattle.tl_check_planar.specs.Listing.Meets.{AreAllMeets}
use Rattle.tl_check_planar.proofs.ListingLemmas.Deciding.{Decided, same_int, same_point, same_option, both, either}

at_one_place : (r q : Rational) → Decided (IsSame r q)
at_one_place r q = elim (both (same_int (r.x *ℤ q.d) (q.x *ℤ r.d)) (same_int (r.y *ℤ q.d) (q.y *ℤ r.d))) [
  | inl same ↦ inl (record { x = same.0; y = same.1 })
  | inr other ↦ inr (λ s. other (s.x, s.y))
]

vertex : (points : List Point) (k : ℕ) (r : Rational) → Decided (IsVertex points k r)
vertex points k r = go (slice_get points k) (λ i. slice_get points k)
  where
    go : (o : Option Point) → slice_get points k ≡ o → Decided (IsVertex points k r)
    go None e = inr (λ v. let f : None ≡ Some v.point = sym e ∙ v.is in absurd cc)
    go (Some p) e = elim (at_one_place r (whole p)) [
      | inl same ↦ inl (record { point = p; is = e; same = same })
      | inr other ↦ inr (λ v.
          let f : Some v.point ≡ Some p = sym v.is ∙ e in
          let one : v.point ≡ p = cc in
          other (subst (λ q. IsSame r (whole q)) one v.same))
    ]

chain_end : (points : List Point) (r : Rational) → Decided (IsChainEnd points r)
chain_end points r = either (vertex points 0 r) (vertex points (length points - 1) r)

between : (points : List Point) (i j : ℕ) (r : Rational) → Decided (IsBetweenSegments points i j r)
between points i j r = elim (both (cases_eq j (i + 1)) (vertex points j r)) [
  | inl h ↦ inl (record { follows = h.0; vertex = h.1 })
  | inr other ↦ inr (λ b. other (b.follows, b.vertex))
]

closing : (points : List Point) (i j : ℕ) (r : Rational) → Decided (IsClosingPoint points i j r)
closing points i j r = elim (both (both (cases_eq i 0) (cases_eq (j + 2) (length points))) (both (same_option same_point (slice_get points 0) (slice_get points (j + 1))) (vertex points 0 r))) [
  | inl h ↦ inl (record { first = h.0.0; last = h.0.1; closed = h.1.0; start = h.1.1 })
  | inr other ↦ inr (λ c. other ((c.first, c.last), (c.closed, c.start)))
]

allowed : (chains : List MapChain) (s t : ℕ) (r : Rational) (m : IsSharedBy chains s t r) → Decided (IsAllowed chains s t r m)
allowed chains s t r m = elim (cases_eq m.c m.d) [
  | inl same ↦ elim (either (between m.first.chain.points m.i m.j r) (closing m.first.chain.points m.i m.j r)) [
    | inl within ↦ inl (inr (same, within))
    | inr not_within ↦ inr (λ h. elim h [ inl apart ↦ apart.0 same | inr one ↦ not_within one.1 ])
  ]
  | inr other ↦ elim (both (chain_end m.first.chain.points r) (chain_end m.second.chain.points r)) [
    | inl ends ↦ inl (inl (other, ends))
    | inr not_ends ↦ inr (λ h. elim h [ inl apart ↦ not_ends apart.1 | inr one ↦ other one.0 ])
  ]
]

pub planar_without : (chains : List MapChain) → AreAllMeets chains [] → IsPlanar chains
planar_without chains all = free_planar chains (λ s t lt r m. each s t r lt m)
  where
    each : (s t : ℕ) (r : Rational) → s < t → (m : IsSharedBy chains s t r) → IsAllowed chains s t r m
    each s t r lt m = elim (allowed chains s t r m) [
      | inl fine ↦ fine
      | inr refused ↦
          let named = all.complete s t r lt (record { shared = m; refused = refused }) in
          let within = named.2 in
          absurd (let none : named.0 < 0 = within in omega (arith, none))
    ]

pub none_where_planar : (chains : List MapChain) (meets : List Meet) → AreAllMeets chains meets → IsPlanar chains → meets ≡ []
none_where_planar chains [] all planar = refl
none_where_planar chains (m ∷ meets) all planar =
    let first = all.true_ones 0 m (omega arith) in
    absurd (meet_not_planar chains m.s m.t m.at first.ordered first.told.meet planar)
