-- Events at one point whose segments don't conflict, with one another or with an end of their own chain, may be there.
use Rattle.std.proofs.Common.{◌≡◌, inl, inr, ⊎_elim, ℕ, zero, suc, ◌+◌, ◌-◌, ◌<◌, ◌≤◌, Bool, true, false, if◌then◌else◌, Some, List, [], ◌∷◌, length, take, refl, sym, ap, subst, ◌∙◌, arith}
use Rattle.std.specs.Prelude.{slice_get}
use Rattle.std.proofs.lemmas.Bool.{cases_lt, cases_order}
use Rattle.std.proofs.lemmas.List.Sums.{sum_by-cons}
use Rattle.std.proofs.lemmas.Int.{ints}
use Rattle.tl_geom.specs.declared.point.Point.{Point}
use Rattle.tl_geom.proofs.Places.{point_same}
use Rattle.tl_map_county.specs.TheMap.{MapChain}
use Rattle.tl_map_county.specs.Segments.{segments_before, IsSegmentOf}
use Rattle.tl_check_planar.specs.ByHeight.Heights.{height, widest}
use Rattle.tl_check_planar.specs.ByHeight.Slabs.{IsEndPlace}
use Rattle.tl_check_planar.specs.Keeping.Apart.{one_found}
use Rattle.tl_check_planar.proofs.Numbering.{in_order, below_total, one_chain, one_place}
use Rattle.tl_check_faces.specs.Crossings.Headings.{AreProper}
use Rattle.tl_check_active.specs.declared.events.Event.{Event}
use Rattle.tl_check_active.specs.Events.{end_at, IsEvent}
use Rattle.tl_check_active.specs.Ranges.{IsInRange, AreInRange}
use Rattle.tl_check_active.specs.Vertices.{IsAtPlace, MayMeet}
use Rattle.tl_check_sweep.specs.Keeping.Pairs.{AreFreeBothWays, IsFreeOfEnds}
use Rattle.tl_check_sweep.proofs.Apart.{IsAtSegment, IsEndAt, may_be_there}

-- points of one height are one
pub one_at_height : (p q : Point) → IsInRange p → IsInRange q → height widest p ≡ height widest q → p ≡ q
one_at_height p q r t same =
    let a = r.west in
    let b = r.east in
    let c = t.west in
    let d = t.east in
    point_same p q (omega (arith, ints, same, a, b, c, d)) (omega (arith, ints, same, a, b, c, d))

module _ (chains : List MapChain) (ranges : AreInRange chains) where
  -- the end that an event is at is in range
  end_in_range : (e : Event) (tell : IsEvent chains e) → IsInRange (end_at e tell.segment)
  end_in_range e tell = by e.first
    where
      both : IsInRange tell.segment.a × IsInRange tell.segment.b
      both = ranges e.segment tell.segment tell.is

      by : (first : Bool) → IsInRange (if first then tell.segment.a else tell.segment.b)
      by true = both.0
      by false = both.1

  -- an event at place p of chain c, as an end of its segment at its point
  at_its_point : (e : Event) (tell : IsEvent chains e) (c p : ℕ) → IsAtPlace chains e c p → IsEndAt chains (end_at e tell.segment) e.segment c p
  at_its_point e tell c p at = record {
    k = at.k;
    number = at.number;
    place = by e.first at.k at.place;
    is = ap (slice_get at.number.chain.points) at.place ∙ point e.first;
  }
    where
      by : (first : Bool) (k : ℕ) → p ≡ (if first then k else k + 1) → IsAtSegment k p
      by true k e = inl e
      by false k e = inr e

      chain : at.number.chain ≡ tell.is.joins.chain
      chain = one_found at.number.chain tell.is.joins.chain (slice_get chains c) at.number.is
          (ap (slice_get chains) (one_chain chains e.segment c at.k tell.is.c tell.is.k at.number tell.is.number) ∙ tell.is.joins.is)

      place : at.k ≡ tell.is.k
      place = one_place chains e.segment c at.k tell.is.c tell.is.k at.number tell.is.number

      point : (first : Bool) → slice_get at.number.chain.points (if first then at.k else at.k + 1) ≡ Some (if first then tell.segment.a else tell.segment.b)
      point true = (λ i. slice_get (chain i).points (place i)) ∙ tell.is.joins.from
      point false = (λ i. slice_get (chain i).points (place i + 1)) ∙ tell.is.joins.to

  pub met_where_free : AreProper chains → (e f : Event) → IsEvent chains e → IsEvent chains f → e.height ≡ f.height → AreFreeBothWays chains e.segment f.segment →
      IsFreeOfEnds chains e.segment → IsFreeOfEnds chains f.segment → MayMeet chains e f
  met_where_free proper e f tell tell' level free first second c p d q at at' =
      let one = tell.height_is in
      let other = tell'.height_is in
      let same : end_at f tell'.segment ≡ end_at e tell.segment =
      one_at_height (end_at f tell'.segment) (end_at e tell.segment) (end_in_range f tell') (end_in_range e tell) (omega (arith, ints, one, other, level)) in
      let here : IsEndAt chains (end_at e tell.segment) e.segment c p = at_its_point e tell c p at in
      let there : IsEndAt chains (end_at e tell.segment) f.segment d q =
      subst (λ (z : Point). IsEndAt chains z f.segment d q) same (at_its_point f tell' d q at') in
      ⊎_elim (λ k. inl k)
      (λ ends. inr (
        (λ chain is. subst (λ (z : MapChain). IsEndPlace z.points p) (one_found here.number.chain chain (slice_get chains c) here.number.is is) ends.0),
        (λ chain is. subst (λ (z : MapChain). IsEndPlace z.points q) (one_found there.number.chain chain (slice_get chains d) there.number.is is) ends.1),
      ))
      (may_be_there chains proper (end_at e tell.segment) e.segment f.segment c p d q here there free first second)

-- ---- the ends of a chain

-- a number below how many segments there are is that of a segment
some_segment : (cs : List MapChain) (m n : ℕ) → n < segments_before cs m → (d : ℕ) × (k : ℕ) × IsSegmentOf cs n d k
some_segment [] zero n lt = absurd (omega (arith, lt))
some_segment [] (suc m) n lt = absurd (omega (arith, lt))
some_segment (y ∷ cs) zero n lt = absurd (omega (arith, lt))
some_segment (y ∷ cs) (suc m) n lt =
    let sum = sum_by-cons (λ (z : MapChain). length z.points - 1) y (take m cs) in
    elim (cases_lt n (length y.points - 1)) [
      | inl here ↦ (0, n, record { chain = y; is = refl; place = omega (arith, here); number = omega arith })
      | inr there ↦
          let rest = some_segment cs m (n - (length y.points - 1)) (omega (arith, lt, sum, there)) in
          let number = rest.2.number in (
            suc rest.0,
            rest.1,
            record {
              chain = rest.2.chain;
              is = rest.2.is;
              place = rest.2.place;
              number = omega (arith, number, there, sum_by-cons (λ (z : MapChain). length z.points - 1) y (take rest.0 cs));
            },
          )
    ]

module _ (chains : List MapChain) (proper : AreProper chains) (s own first behind : ℕ) (place : (k : ℕ) × IsSegmentOf chains s own k)
    (below : (x d k : ℕ) → x < first → IsSegmentOf chains x d k → d < own) (above : (x d k : ℕ) → first ≤ x → IsSegmentOf chains x d k → own ≤ d)
    (below' : (x d k : ℕ) → x < behind → IsSegmentOf chains x d k → d < own + 1)
    (above' : (x d k : ℕ) → behind ≤ x → IsSegmentOf chains x d k → own + 1 ≤ d) (within : behind ≤ segments_before chains (length chains)) where
  -- the first one that is of no earlier chain is the first one of the chain
  is_first : (x : ℕ) → IsSegmentOf chains x own 0 → x ≡ first
  is_first x is =
      let number = is.number in
      elim (cases_lt x first) [
        | inl early ↦ absurd (let d = below x own 0 early is in omega (arith, d))
        | inr late ↦
            let few = below_total chains x own 0 is in
            let there = some_segment chains (length chains) first (omega (arith, late, few)) in
            let no_less = above first there.0 there.1 (omega arith) there.2 in
            ⊎_elim
            (λ (e : own ≡ there.0).
            let same : segments_before chains own ≡ segments_before chains there.0 = ap (λ n. segments_before chains n) e in
            let number' = there.2.number in
            omega (arith, late, same, number, number'))
            (λ w. ⊎_elim
            (λ more. absurd (let past = in_order chains x first own 0 there.0 there.1 is there.2 more in omega (arith, past, late)))
            (λ less. absurd (omega (arith, less, no_less))) w)
            (cases_order own there.0)
      ]

  -- the last one that is of no later chain is the last one of the chain
  is_last : (x l : ℕ) → (end : IsSegmentOf chains x own l) → l + 2 ≡ length end.chain.points → x ≡ behind - 1
  is_last x l end last =
      let number = end.number in
      elim (cases_lt x behind) [
        | inr late ↦ absurd (let d = above' x own l late end in omega (arith, d))
        | inl early ↦
            let there = some_segment chains (length chains) (behind - 1) (omega (arith, early, within)) in
            let no_more = below' (behind - 1) there.0 there.1 (omega (arith, early)) there.2 in
            ⊎_elim
            (λ (e : own ≡ there.0).
            let same : segments_before chains own ≡ segments_before chains there.0 = ap (λ n. segments_before chains n) e in
            let chain : end.chain ≡ there.2.chain = one_found end.chain there.2.chain (slice_get chains there.0) (subst (λ n. slice_get chains n ≡ Some end.chain) e end.is) there.2.is in
            let long : length end.chain.points ≡ length there.2.chain.points = ap (λ (z : MapChain). length z.points) chain in
            let number' = there.2.number in
            let place' = there.2.place in
            omega (arith, early, same, number, number', place', long, last))
            (λ w. ⊎_elim
            (λ more. absurd (omega (arith, more, no_more)))
            (λ less. absurd (let past = in_order chains (behind - 1) x there.0 there.1 own l there.2 end less in omega (arith, past, early))) w)
            (cases_order own there.0)
      ]

  pub free_of_ends : AreFreeBothWays chains s first → AreFreeBothWays chains s (behind - 1) → IsFreeOfEnds chains s
  free_of_ends one other c k x l is end way =
      let same : c ≡ own = one_chain chains s c k own place.0 is place.1 in
      let here : IsSegmentOf chains x own l = record {
        chain = end.chain;
        is = subst (λ n. slice_get chains n ≡ Some end.chain) same end.is;
        place = end.place;
        number = end.number ∙ ap (λ n. segments_before chains n + l) same;
      } in
      ⊎_elim
      (λ (e : l ≡ 0). subst (AreFreeBothWays chains s) (sym (is_first x (subst (IsSegmentOf chains x own) e here))) one)
      (λ e. subst (AreFreeBothWays chains s) (sym (is_last x l here e)) other)
      way
