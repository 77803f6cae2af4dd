-- Where two segments don't conflict, nor one of them with an end of its own chain, each point that they share is an end of both.
use Rattle.std.proofs.Common.{◌≡◌, ◌≢◌, inl, inr, ⊎_elim, ℕ, ◌+◌, ◌-◌, ◌<◌, Some, List, length, refl, sym, ap, subst, ◌∙◌, arith}
use Rattle.std.specs.Prelude.{slice_get}
use Rattle.std.proofs.lemmas.Bool.{cases_eq, cases_order}
use Rattle.tl_geom.specs.declared.point.Point.{Point}
use Rattle.tl_geom.specs.declared.rational.Rational.{Rational}
use Rattle.tl_geom.specs.declared.segment.Segment.{Segment}
use Rattle.tl_geom.specs.Plane.{IsOn, whole}
use Rattle.tl_geom.specs.Contact.{AreBothEnded, IsEnd, IsShared}
use Rattle.tl_geom.proofs.Places.{on_same, same_sym}
use Rattle.tl_map_county.specs.Chains.{IsProperChain}
use Rattle.tl_map_county.specs.TheMap.{MapChain}
use Rattle.tl_map_county.specs.Segments.{IsSegmentOf}
use Rattle.tl_check_planar.specs.Planar.{IsVertex, IsOnSegment, IsChainEnd, MayShareWithin}
use Rattle.tl_check_planar.specs.Meets.{IsSharedBy, AreFree}
use Rattle.tl_check_planar.specs.ByHeight.Neighbours.{IsNumbered, AreApartOrAtEnds}
use Rattle.tl_check_planar.specs.Keeping.Apart.{one_found}
use Rattle.tl_check_planar.proofs.Ends.{at_vertex}
use Rattle.tl_check_planar.proofs.ByHeight.Numbered.{on_it, end_of_it}
use Rattle.tl_check_faces.specs.Crossings.Headings.{AreProper}
use Rattle.tl_check_sweep.specs.Keeping.Pairs.{AreFreeBothWays, IsFreeOfEnds}
use Rattle.tl_check_sweep.proofs.Apart.{IsAtSegment, on_segment, shares_first, shares_last}

-- ---- along one chain

-- the segment joins points i and i + 1
record IsJoining (points : List Point) (i : ℕ) (u : Segment) : Type 0 where
  from : slice_get points i ≡ Some u.a
  to : slice_get points (i + 1) ≡ Some u.b

module _ (points : List Point) (r : Rational) where
  -- a vertex at one of the two points is an end of the segment
  first_end : (i k : ℕ) (u : Segment) → IsJoining points i u → IsVertex points k r → k ≡ i → IsEnd u r
  first_end i k u join v e = inl (at_vertex points k u.a r (ap (slice_get points) e ∙ join.from) v)

  last_end : (i k : ℕ) (u : Segment) → IsJoining points i u → IsVertex points k r → k ≡ i + 1 → IsEnd u r
  last_end i k u join v e = inr (at_vertex points k u.b r (ap (slice_get points) e ∙ join.to) v)

  -- what two segments may share is an end of both
  ends_within : (i j : ℕ) (u w : Segment) → IsJoining points i u → IsJoining points j w → MayShareWithin points i j r → IsEnd u r × IsEnd w r
  ends_within i j u w one other = ⊎_elim
      (λ b. (last_end i j u one b.vertex b.follows, first_end j j w other b.vertex refl))
      (λ c. (first_end i 0 u one c.start (sym c.first), inr (at_vertex points 0 w.b r (c.closed ∙ other.to) c.start)))

  joining : (i : ℕ) (on : IsOnSegment points i r) → IsJoining points i on.segment
  joining i on = record { from = on.from; to = on.to }

  module _ (proper : IsProperChain points) where
    -- a vertex lies on each segment that ends there
    vertex_on : (i p : ℕ) → i + 1 < length points → IsAtSegment i p → IsVertex points p r → IsOnSegment points i r
    vertex_on i p within place v =
        let there = on_segment points proper v.point i p within place v.is in
        record {
          segment = there.segment;
          from = there.from;
          to = there.to;
          on = on_same there.segment (whole v.point) r (same_sym r (whole v.point) v.same) there.on;
        }

    module _ (k : ℕ) (u : Segment) (within : k + 1 < length points) (join : IsJoining points k u) where
      at_start : (0 < k → IsOnSegment points 0 r → MayShareWithin points 0 k r) → IsVertex points 0 r → IsEnd u r
      at_start shares v =
          ⊎_elim (λ e. first_end k 0 u join v (sym e))
          (λ ne.
          let on : IsOnSegment points 0 r = vertex_on 0 0 (let several = proper.several in omega (arith, several)) (inl refl) v in
          (ends_within 0 k on.segment u (joining 0 on) join (shares (omega (arith, ne)) on)).1)
          (cases_eq k 0)

      at_stop : (l : ℕ) → l + 2 ≡ length points → (k < l → IsOnSegment points l r → MayShareWithin points k l r) → IsVertex points (length points - 1) r → IsEnd u r
      at_stop l last shares v =
          ⊎_elim (λ e. last_end k (length points - 1) u join v (omega (arith, e, last)))
          (λ ne.
          let on : IsOnSegment points l r = vertex_on l (length points - 1) (omega (arith, last)) (inr (omega (arith, last))) v in
          (ends_within k l u on.segment join (joining l on) (shares (omega (arith, ne, within, last)) on)).0)
          (cases_eq k l)

-- ---- by the segments' numbers

module _ (chains : List MapChain) (proper : AreProper chains) (r : Rational) where
  -- an end of a chain that lies on a segment of it that is free of its ends is an end of the segment
  chain_end_is_end : (s c k : ℕ) (number : IsSegmentOf chains s c k) (u : Segment) → IsJoining number.chain.points k u → IsOn u r → IsFreeOfEnds chains s →
      IsChainEnd number.chain.points r → IsEnd u r
  chain_end_is_end s c k number u join on free =
      let points : List Point = number.chain.points in
      let good : IsProperChain points = proper c number.chain number.is in
      let there : IsOnSegment points k r = record { segment = u; from = join.from; to = join.to; on = on } in
      let l : ℕ = length points - 2 in
      let last : l + 2 ≡ length points = let several = good.several in omega (arith, several) in
      ⊎_elim
      (at_start points r good k u number.place join (λ lt on'. shares_first chains proper s c k number free r lt on' there))
      (at_stop points r good k u number.place join l last (λ lt on'. shares_last chains proper s c k number free r l last lt there on'))

  numbered_joins : (s : ℕ) (u : Segment) (n : IsNumbered chains s u) → IsJoining n.number.chain.points n.k u
  numbered_joins s u n =
      let same : n.joins.chain ≡ n.number.chain = one_found n.joins.chain n.number.chain (slice_get chains n.c) n.joins.is n.number.is in
      record {
        from = subst (λ (z : MapChain). slice_get z.points n.k ≡ Some u.a) same n.joins.from;
        to = subst (λ (z : MapChain). slice_get z.points (n.k + 1) ≡ Some u.b) same n.joins.to;
      }

  -- a point that two segments may share by their numbers
  ends_where_free : (s t : ℕ) (u w : Segment) → IsNumbered chains s u → IsNumbered chains t w → IsFreeOfEnds chains s → IsFreeOfEnds chains t → AreFree chains s t →
      IsOn u r → IsOn w r → IsEnd u r × IsEnd w r
  ends_where_free s t u w one other first second free on on' =
      let join : IsJoining one.number.chain.points one.k u = numbered_joins s u one in
      let join' : IsJoining other.number.chain.points other.k w = numbered_joins t w other in
      let shared : IsSharedBy chains s t r = record {
        c = one.c;
        i = one.k;
        d = other.c;
        j = other.k;
        first = one.number;
        second = other.number;
        on_first = record { segment = u; from = join.from; to = join.to; on = on };
        on_second = record { segment = w; from = join'.from; to = join'.to; on = on' };
      } in
      ⊎_elim
      (λ two. (
        chain_end_is_end s one.c one.k one.number u join on first two.1.0,
        chain_end_is_end t other.c other.k other.number w join' on' second two.1.1,
      ))
      (λ within.
      let same : other.number.chain ≡ one.number.chain =
      one_found other.number.chain one.number.chain (slice_get chains other.c) other.number.is (subst (λ n. slice_get chains n ≡ Some one.number.chain) within.0 one.number.is) in
      ends_within one.number.chain.points r one.k other.k u w join (subst (λ (z : MapChain). IsJoining z.points other.k w) same join') within.1)
      (free r shared)

  pub both_ended : (s t : ℕ) (u w : Segment) → IsNumbered chains s u → IsNumbered chains t w → s ≢ t → AreFreeBothWays chains s t →
      IsFreeOfEnds chains s → IsFreeOfEnds chains t → IsShared u w r → AreBothEnded u w r
  both_ended s t u w one other ne free first second shared =
      ⊎_elim (λ e. absurd (ne e))
      (λ way. ⊎_elim
      (λ lt. ends_where_free s t u w one other first second (free.upward lt) shared.on_first shared.on_second)
      (λ lt.
      let ends : IsEnd w r × IsEnd u r = ends_where_free t s w u other one second first (free.downward lt) shared.on_second shared.on_first in
      (ends.1, ends.0)) way)
      (cases_order s t)

-- what is told of two segments is so of each that have their numbers
pub free_by_number : (chains : List MapChain) (s t : ℕ) (u w u' w' : Segment) → IsNumbered chains s u → IsNumbered chains t w → AreApartOrAtEnds u w →
    IsNumbered chains s u' → IsNumbered chains t w' → AreApartOrAtEnds u' w'
free_by_number chains s t u w u' w' one other free one' other' =
    ⊎_elim
    (λ apart. inl (λ r shared. apart r (back r shared)))
    (λ m. inr (
      m.0,
      record {
        only = record {
          shared = record {
            on_first = on_it chains s u (whole m.0) one m.1.only.shared.on_first u' one';
            on_second = on_it chains t w (whole m.0) other m.1.only.shared.on_second w' other';
          };
          only = λ q shared. m.1.only.only q (back q shared);
        };
        first_end = end_of_it chains s u' (whole m.0) one' (record { segment = u; is = one; end = m.1.first_end });
        second_end = end_of_it chains t w' (whole m.0) other' (record { segment = w; is = other; end = m.1.second_end });
      },
    ))
    free
  where
    back : (r : Rational) → IsShared u' w' r → IsShared u w r
    back r shared = record { on_first = on_it chains s u' r one' shared.on_first u one; on_second = on_it chains t w' r other' shared.on_second w other }
