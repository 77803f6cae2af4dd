-- A place strictly within a segment of planar chains lies on no other segment, and is no end of any.
use Rattle.std.proofs.Common.{◌≡◌, inl, inr, ⊎_elim, ℕ, ◌+◌, Some, List, sym, ap, subst, ◌∙◌, arith}
use Rattle.std.specs.Prelude.{slice_get}
use Rattle.std.proofs.lemmas.Bool.{cases_order}
use Rattle.tl_geom.specs.declared.point.Point.{Point}
use Rattle.tl_geom.specs.declared.rational.Rational.{Rational}
use Rattle.tl_geom.specs.declared.segment.Segment.{Segment}
use Rattle.tl_geom.specs.Plane.{IsOn, IsSame, whole}
use Rattle.tl_geom.specs.Contact.{IsEnd}
use Rattle.tl_geom.proofs.Places as places
use Rattle.tl_map_county.specs.TheMap.{MapChain}
use Rattle.tl_map_county.specs.Segments.{segments_before}
use Rattle.tl_check_planar.specs.Planar.{IsOnSegment, IsChainEnd, MayShareWithin, IsPlanar}
use Rattle.tl_check_planar.specs.Keeping.Apart.{one_found}
use Rattle.tl_check_planar.proofs.Ends.{at_vertex}
use Rattle.tl_check_planar.proofs.Numbering.{HaveSameEnds}
use Rattle.tl_check_planar.specs.ByHeight.Neighbours.{IsNumbered}
use Rattle.tl_check_planar.proofs.ByHeight.Numbered.{one_segment}
use Rattle.tl_check_faces.specs.Facing.{IsStrictlyOn}
use Rattle.tl_check_faces.proofs.Ends.{IsEndIn, chain_end, on_place}
use Rattle.tl_check_faces.proofs.Items.{IsNoEnd}

-- an end lies on its segment
pub end_on : (u : Segment) (r : Rational) → IsEnd u r → IsOn u r
end_on u r = ⊎_elim
    (λ k. places.on_same u (whole u.a) r (places.same_sym r (whole u.a) k) (places.a_on u))
    (λ k. places.on_same u (whole u.b) r (places.same_sym r (whole u.b) k) (places.b_on u))

-- ---- in one chain

module _ (points : List Point) (i : ℕ) (u : Segment) (from : slice_get points i ≡ Some u.a) (to : slice_get points (i + 1) ≡ Some u.b) (r : Rational) where
  before : (j : ℕ) → MayShareWithin points i j r → IsEnd u r
  before j = ⊎_elim
      (λ b. inr (at_vertex points j u.b r (subst (λ n. slice_get points n ≡ Some u.b) (sym b.follows) to) b.vertex))
      (λ b. inl (at_vertex points 0 u.a r (subst (λ n. slice_get points n ≡ Some u.a) b.first from) b.start))

  behind : (j : ℕ) → MayShareWithin points j i r → IsEnd u r
  behind j = ⊎_elim
      (λ b. inl (at_vertex points i u.a r from b.vertex))
      (λ b. inr (at_vertex points 0 u.b r (b.closed ∙ to) b.start))

module _ (chains : List MapChain) (planar : IsPlanar chains) (c : ℕ) (chain : MapChain) (is : slice_get chains c ≡ Some chain) (i : ℕ) (u : Segment) (from : slice_get chain.points i ≡ Some u.a) (to : slice_get chain.points (i + 1) ≡ Some u.b)
    (r : Rational) (on : IsStrictlyOn u r) where
  own : IsOnSegment chain.points i r
  own = record { segment = u; from = from; to = to; on = on.on }

  -- no other place of the chain holds it
  in_chain : (j : ℕ) → ¬ (i ≡ j) → ¬ IsOnSegment chain.points j r
  in_chain j ne other = ⊎_elim (λ e. ne e)
      (⊎_elim (λ lt. on.no_end (before chain.points i u from to r j (planar.simple c chain is i j r lt own other)))
      (λ lt. on.no_end (behind chain.points i u from to r j (planar.simple c chain is j i r lt other own))))
      (cases_order i j)

  -- it is no end of its chain
  no_chain_end : ¬ IsChainEnd chain.points r
  no_chain_end h =
      let e : IsEndIn chain.points r = chain_end chain i u from to r h in
      ⊎_elim
      (λ same.
      let first : u.a ≡ e.segment.a = one_found u.a e.segment.a (slice_get chain.points i) from (subst (λ n. slice_get chain.points n ≡ Some e.segment.a) (sym same) e.from) in
      let last : u.b ≡ e.segment.b = one_found u.b e.segment.b (slice_get chain.points (i + 1)) to (subst (λ n. slice_get chain.points (n + 1) ≡ Some e.segment.b) (sym same) e.to) in
      on.no_end (⊎_elim (λ k. inl (subst (λ z. IsSame r (whole z)) (sym first) k)) (λ k. inr (subst (λ z. IsSame r (whole z)) (sym last) k)) e.end))
      (λ other. in_chain e.k (λ f. ⊎_elim (λ lt. omega (arith, lt, f)) (λ lt. omega (arith, lt, f)) other)
      (record { segment = e.segment; from = e.from; to = e.to; on = end_on e.segment r e.end }))
      (cases_order i e.k)

  -- no other chain holds it
  in_other : (d : ℕ) (other : MapChain) (j : ℕ) → ¬ (c ≡ d) → slice_get chains d ≡ Some other → ¬ IsOnSegment other.points j r
  in_other d other j ne is' o = no_chain_end (planar.apart c d chain other ne is is' r (i, own) (j, o)).0

-- no other segment holds it
pub alone : (chains : List MapChain) → IsPlanar chains → (s t : ℕ) (u w : Segment) (r : Rational) → IsNumbered chains s u → IsNumbered chains t w → IsStrictlyOn u r → ¬ (s ≡ t) → ¬ IsOn w r
alone chains planar s t u w r is is' on ne on' =
    let chain : MapChain = is.number.chain in
    let other : MapChain = is'.number.chain in
    let first : IsOnSegment chain.points is.k r = on_place chains s u is r on.on in
    let last : IsOnSegment other.points is'.k r = on_place chains t w is' r on' in
    let same_u : is.joins.chain ≡ chain = one_found is.joins.chain chain (slice_get chains is.c) is.joins.is is.number.is in
    let from : slice_get chain.points is.k ≡ Some u.a = subst (λ (z : MapChain). slice_get z.points is.k ≡ Some u.a) same_u is.joins.from in
    let to : slice_get chain.points (is.k + 1) ≡ Some u.b = subst (λ (z : MapChain). slice_get z.points (is.k + 1) ≡ Some u.b) same_u is.joins.to in
    ⊎_elim
    (λ e.
    let one : other ≡ chain = one_found other chain (slice_get chains is'.c) is'.number.is (subst (λ n. slice_get chains n ≡ Some chain) e is.number.is) in
    let before : segments_before chains is.c ≡ segments_before chains is'.c = ap (λ n. segments_before chains n) e in
    let number = is.number.number in
    let number' = is'.number.number in
    in_chain chains planar is.c chain is.number.is is.k u from to r on is'.k (λ k. ne (omega (arith, before, number, number', k)))
    (subst (λ (z : MapChain). IsOnSegment z.points is'.k r) one last))
    (λ differ. in_other chains planar is.c chain is.number.is is.k u from to r on is'.c other is'.k
    (λ e. ⊎_elim (λ lt. omega (arith, lt, e)) (λ lt. omega (arith, lt, e)) differ) is'.number.is last)
    (cases_order is.c is'.c)

pub no_end_within : (chains : List MapChain) → IsPlanar chains → (s : ℕ) (u : Segment) (r : Rational) → IsNumbered chains s u → IsStrictlyOn u r → IsNoEnd chains r
no_end_within chains planar s u r is on t w is' end = ⊎_elim
    (λ e.
    let same : HaveSameEnds w u = one_segment chains s w u (subst (λ n. IsNumbered chains n w) (sym e) is') is in
    on.no_end (⊎_elim (λ k. inl (subst (λ z. IsSame r (whole z)) same.first k)) (λ k. inr (subst (λ z. IsSame r (whole z)) same.last k)) end))
    (λ other. alone chains planar s t u w r is is' on (λ e. ⊎_elim (λ lt. omega (arith, lt, e)) (λ lt. omega (arith, lt, e)) other) (end_on w r end))
    (cases_order s t)
