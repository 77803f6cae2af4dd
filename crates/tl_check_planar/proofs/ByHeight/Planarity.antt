-- Where the lists of all slabs are tested and so are the vertices, the chains are planar.
use Rattle.std.proofs.Common.{◌≡◌, ◌⊎◌, inl, inr, ⊎_elim, ℕ, ◌<◌, ℤ, pos, ◌+ℤ◌, ◌-ℤ◌, ◌*ℤ◌, ◌<ℤ◌, ◌≤ℤ◌, List, sym, subst, arith}
use Rattle.std.proofs.lemmas.Int.{ints, by_lt_z}
use Rattle.tl_geom.specs.declared.point.Point.{Point}
use Rattle.tl_geom.specs.declared.rational.Rational.{Rational}
use Rattle.tl_geom.specs.declared.segment.Segment.{Segment}
use Rattle.tl_geom.specs.Plane.{IsOn, IsSame, whole}
use Rattle.tl_geom.specs.Contact.{IsEnd}
use Rattle.tl_geom.proofs.Signs.{mono, cancel_lt}
use Rattle.tl_map_county.specs.TheMap.{MapChain}
use Rattle.tl_check_planar.specs.Planar.{IsPlanar}
use Rattle.tl_check_planar.specs.Meets.{AreFree}
use Rattle.tl_check_planar.proofs.Planes.{free_planar}
use Rattle.tl_check_planar.specs.ByHeight.Heights.{height, height_of, AreNear, low_end, high_end}
use Rattle.tl_check_planar.specs.ByHeight.Neighbours.{IsNumbered, IsWide}
use Rattle.tl_check_planar.specs.ByHeight.Slabs.{IsListOf, AreSlabsTested, AreVerticesTested}
use Rattle.tl_check_planar.proofs.ByHeight.Rising.{AreEndsOf, ends_of}
use Rattle.tl_check_planar.proofs.ByHeight.Lying.{heights_of, at_first, at_last}
use Rattle.tl_check_planar.proofs.ByHeight.Numbered.{IsEndOfIt, on_it, end_of_it, first_of, second_of}
use Rattle.tl_check_planar.proofs.ByHeight.Walking.{in_by_times, meet_at_ends}
use Rattle.tl_check_planar.proofs.ByHeight.Floors.{IsFloor, floor}
use Rattle.tl_check_planar.proofs.ByHeight.Vertices.{may_share}

module _ (K : ℤ) (r : Rational) where
  -- the place is strictly between the heights of the segment's ends
  record IsInside (s : Segment) : Type 0 where
    below : (r.d *ℤ height K (low_end K s)) <ℤ height_of K r
    above : height_of K r <ℤ (r.d *ℤ height K (high_end K s))

  an_end : (s : Segment) (p : Point) → (p ≡ s.a) ⊎ (p ≡ s.b) → IsSame r (whole p) → IsEnd s r
  an_end s p is same = ⊎_elim (λ e. inl (subst (λ z. IsSame r (whole z)) e same)) (λ e. inr (subst (λ z. IsSame r (whole z)) e same)) is

  -- what lies on a segment is an end of it, or strictly between
  end_or_inside : (s : Segment) → AreNear K s.a s.b → IsOn s r → IsEnd s r ⊎ IsInside s
  end_or_inside s near on =
      let ends : AreEndsOf K s (low_end K s) (high_end K s) = ends_of K s near in
      let at = heights_of K s (low_end K s) (high_end K s) ends r on in
      let from : (r.d *ℤ height K (low_end K s)) ≤ℤ height_of K r = at.1 in
      let to : height_of K r ≤ℤ (r.d *ℤ height K (high_end K s)) = at.2 in
      by_lt_z (r.d *ℤ height K (low_end K s)) (height_of K r)
      (λ below. by_lt_z (height_of K r) (r.d *ℤ height K (high_end K s))
      (λ above. inr (record { below = below; above = above }))
      (λ last. inl (an_end s (high_end K s) (⊎_elim (λ k. inr k.1) (λ k. inl k.1) ends.are)
      (at_last K (low_end K s) (high_end K s) ends.rising r at.0 (omega (arith, ints, last, to))))))
      (λ first. inl (an_end s (low_end K s) (⊎_elim (λ k. inl k.0) (λ k. inr k.0) ends.are)
      (at_first K (low_end K s) (high_end K s) ends.rising r at.0 (omega (arith, ints, first, from)))))

  -- a slab that holds the height of the place, in which both segments are active
  record IsSlabOf (u w : Segment) (n : ℤ) : Type 0 where
    from : (r.d *ℤ n) ≤ℤ height_of K r
    to : height_of K r ≤ℤ (r.d *ℤ (n +ℤ pos 1))
    begun : height K (low_end K u) ≤ℤ n
    lasting : n <ℤ height K (high_end K u)
    begun' : height K (low_end K w) ≤ℤ n
    lasting' : n <ℤ height K (high_end K w)

  -- the slab above a height, and that below it
  slab_of : (u w : Segment) → AreNear K w.a w.b → IsInside u → IsOn w r → (n : ℤ) × IsSlabOf u w n
  slab_of u w near inside on =
      let ends : AreEndsOf K w (low_end K w) (high_end K w) = ends_of K w near in
      let at = heights_of K w (low_end K w) (high_end K w) ends r on in
      let from' : (r.d *ℤ height K (low_end K w)) ≤ℤ height_of K r = at.1 in
      let to' : height_of K r ≤ℤ (r.d *ℤ height K (high_end K w)) = at.2 in
      let below = inside.below in
      let above = inside.above in
      let f : IsFloor (height_of K r) r.d = floor (height_of K r) r.d r.above_zero in
      let from : (r.d *ℤ f.n) ≤ℤ height_of K r = f.from in
      let to : height_of K r <ℤ (r.d *ℤ (f.n +ℤ pos 1)) = f.to in
      let positive : pos 0 <ℤ r.d = r.above_zero in
      let d : pos 0 ≤ℤ r.d = omega (arith, ints, positive) in
      by_lt_z f.n (height K (high_end K w))
      (λ lasts.
      let low : height K (low_end K u) <ℤ (f.n +ℤ pos 1) = cancel_lt r.d (height K (low_end K u)) (f.n +ℤ pos 1) d (omega (arith, ints, below, to)) in
      let high : f.n <ℤ height K (high_end K u) = cancel_lt r.d f.n (height K (high_end K u)) d (omega (arith, ints, above, from)) in
      let low' : height K (low_end K w) <ℤ (f.n +ℤ pos 1) = cancel_lt r.d (height K (low_end K w)) (f.n +ℤ pos 1) d (omega (arith, ints, from', to)) in
      (f.n, record { from = from; to = omega (arith, ints, to); begun = omega (arith, ints, low); lasting = high; begun' = omega (arith, ints, low'); lasting' = lasts }))
      (λ ended.
      let top : ℤ = height K (high_end K w) in
      let under : (r.d *ℤ top) ≤ℤ (r.d *ℤ f.n) = mono r.d top f.n d ended in
      let less : (r.d *ℤ (top -ℤ pos 1)) ≤ℤ (r.d *ℤ top) = mono r.d (top -ℤ pos 1) top d (omega (arith, ints)) in
      let next : (top -ℤ pos 1) +ℤ pos 1 ≡ top = omega (arith, ints) in
      let low : height K (low_end K u) <ℤ top = cancel_lt r.d (height K (low_end K u)) top d (omega (arith, ints, below, to')) in
      let high : top <ℤ height K (high_end K u) = cancel_lt r.d top (height K (high_end K u)) d (omega (arith, ints, above, under, from)) in
      let rising : height K (low_end K w) <ℤ top = ends.rising in (
        top -ℤ pos 1,
        record {
          from = omega (arith, ints, under, from, less);
          to = subst (λ z. height_of K r ≤ℤ (r.d *ℤ z)) (sym next) to';
          begun = omega (arith, ints, low);
          lasting = omega (arith, ints, high);
          begun' = omega (arith, ints, rising);
          lasting' = omega (arith, ints);
        },
      ))

-- two segments share only ends of both
module _ (K : ℤ) (chains : List MapChain) (wide : IsWide K chains) (slabs : AreSlabsTested K chains) (r : Rational) where
  by_slab : (s t : ℕ) (u w : Segment) → ¬ (s ≡ t) → IsNumbered chains s u → IsNumbered chains t w → IsOn u r → IsOn w r → IsInside K r u → IsEnd u r × IsEnd w r
  by_slab s t u w ne is is' on on' inside =
      let slab : (n : ℤ) × IsSlabOf K r u w n = slab_of K r u w (wide t w is') inside on' in
      let in_slab : IsSlabOf K r u w slab.0 = slab.1 in
      let list : (list : List ℕ) × IsListOf K slab.0 chains list = slabs slab.0 in
      let listed : IsListOf K slab.0 chains list.0 = list.1 in
      let once = listed.once s (record { segment = u; is = is; begun = in_slab.begun; lasting = in_slab.lasting }) in
      let once' = listed.once t (record { segment = w; is = is'; begun = in_slab.begun'; lasting = in_slab.lasting' }) in
      let both : IsEndOfIt chains s r × IsEndOfIt chains t r =
      meet_at_ends K slab.0 chains wide r in_slab.from in_slab.to list.0 listed.active listed.tested s t
      (in_by_times s list.0 (omega (arith, once))) (in_by_times t list.0 (omega (arith, once'))) ne (on_it chains s u r is on) (on_it chains t w r is' on') in
      (end_of_it chains s u r is both.0, end_of_it chains t w r is' both.1)

  both_ends : (s t : ℕ) (u w : Segment) → ¬ (s ≡ t) → IsNumbered chains s u → IsNumbered chains t w → IsOn u r → IsOn w r → IsEnd u r × IsEnd w r
  both_ends s t u w ne is is' on on' =
      ⊎_elim
      (λ e. ⊎_elim (λ f. (e, f))
      (λ inside. let both : IsEnd w r × IsEnd u r = by_slab t s w u (λ q. ne (sym q)) is' is on' on inside in (both.1, both.0))
      (end_or_inside K r w (wide t w is') on'))
      (λ inside. by_slab s t u w ne is is' on on' inside)
      (end_or_inside K r u (wide s u is) on)

pub planar : (K : ℤ) (chains : List MapChain) → IsWide K chains → AreSlabsTested K chains → AreVerticesTested chains → IsPlanar chains
planar K chains wide slabs vertices = free_planar chains free
  where
    free : (s t : ℕ) → s < t → AreFree chains s t
    free s t lt r m =
        let both : IsEnd m.on_first.segment r × IsEnd m.on_second.segment r =
        both_ends K chains wide slabs r s t m.on_first.segment m.on_second.segment (λ e. omega (arith, e, lt)) (first_of chains s t r m) (second_of chains s t r m) m.on_first.on m.on_second.on in
        may_share chains vertices s t lt r m both.0 both.1
