-- A point that lies strictly between two neighbours of the list at its height, and the gap there.
use Rattle.std.proofs.Common.{◌≡◌, ℕ, ◌-◌, ◌<◌, ◌≤◌, ◌<ℤ◌, ◌+ℤ◌, ℤ, pos, inl, inr, Some, List, [], ◌∷◌, ◌++◌, length, get_or, count_by, refl, sym, ap, ap₂, subst, arith}
use Rattle.std.specs.Prelude.{slice_get}
use Rattle.std.proofs.lemmas.Int.{ints}
use Rattle.tl_geom.specs.declared.point.Point.{Point}
use Rattle.tl_map_county.specs.TheMap.{MapChain}
use Rattle.tl_check_planar.proofs.ByHeight.Walking.{IsIn}
use Rattle.tl_check_planar.specs.ByHeight.Heights.{height, widest}
use Rattle.tl_check_planar.specs.ByHeight.Neighbours.{IsWide}
use Rattle.tl_check_planar.specs.ByHeight.Slabs.{IsListOf}
use Rattle.tl_check_inside.specs.declared.flanks.Flanks.{Flanks}
use Rattle.tl_check_inside.specs.declared.strips.Site.{Site}
use Rattle.tl_check_inside.specs.Inside.{flanks_at}
use Rattle.tl_check_inside.specs.Places.{IsOffChains}
use Rattle.tl_check_inside.specs.Keeping.Tallies.{flanks_in, TellCounts}
use Rattle.tl_check_active.specs.declared.events.Event.{Event}
use Rattle.tl_check_active.specs.Events.{AreEvents, AreEventsRising}
use Rattle.tl_check_active.specs.Ranges.{IsInRange, AreInRange}
use Rattle.tl_check_gaps.specs.Beside.{IsNoVertex, IsEastOfLast, IsWestOfFirst, IsBetween}
use Rattle.tl_check_gaps.specs.Keeping.Facing.{raised}
use Rattle.tl_check_gaps.specs.Keeping.Swept.{IsSwept}
use Rattle.tl_check_gaps.proofs.Between.{active_behind, not_west, off_chains, crossed}
use Rattle.tl_check_gaps.proofs.Raised.{same_flanks}
use Rattle.tl_check_gaps.proofs.Slab.{list_of_slab}
use Rattle.tl_check_gaps.proofs.Spotting as spotting
use Rattle.tl_check_points.specs.declared.labels.Gap.{Gap}
use Rattle.tl_check_points.specs.declared.visits.Visit.{Visit}
use Rattle.tl_check_points.specs.Keeping.Ways.{TellGap}
use Rattle.tl_check_points.specs.Keeping.Visits.{IsVisit}

-- ---- a height between the events before a place and those from it on

pub no_vertex_at : (chains : List MapChain) (events : List Event) (from : ℕ) (list : List ℕ) (q : Point) (h : ℤ) → AreEvents chains events → AreEventsRising events →
    AreInRange chains → IsInRange q → IsSwept chains events from list → h ≡ height widest q +ℤ pos 2147483647 →
    ((d : Event) → 0 < from → from ≤ length events → (get_or events (from - 1) d).height <ℤ h) →
    ((d : Event) → from < length events → h <ℤ (get_or events from d).height) → IsNoVertex widest chains q
no_vertex_at chains events from list q h are rising ranges range swept at below above =
    spotting.no_vertex chains events are rising from swept.within h below above q at list swept.counted ranges range

pub between_at : (chains : List MapChain) (events : List Event) (from : ℕ) (list front back : List ℕ) (q : Point) (h : ℤ) → AreEvents chains events → AreEventsRising events →
    IsSwept chains events from list → h ≡ height widest q +ℤ pos 2147483647 →
    ((d : Event) → 0 < from → from ≤ length events → (get_or events (from - 1) d).height <ℤ h) →
    ((d : Event) → from < length events → h <ℤ (get_or events from d).height) →
    list ≡ front ++ back → IsEastOfLast widest chains q front → IsWestOfFirst widest chains q back → IsBetween widest chains q front back
between_at chains events from list front back q h are rising swept at below above parted east west =
    record { listed = subst (IsListOf widest (height widest q) chains) parted slab; east = east; west = west }
  where
    slab : IsListOf widest (height widest q) chains list
    slab =
        list_of_slab chains events are from list swept.counted (height widest q)
        (λ k lt within. let under = spotting.before chains events are rising from swept.within h below above k lt in omega (arith, ints, under, at))
        (λ k d le lt. let over = spotting.after chains events are rising from swept.within h below above k d le lt in omega (arith, ints, over, at)) swept.tested

-- ---- the counts there

module _ (n : ℕ) (chains : List MapChain) (wide : IsWide widest chains) (q : Point) (clear : IsNoVertex widest chains q) (front back : List ℕ)
    (between : IsBetween widest chains q front back) where
  same : (s : ℕ) → IsIn s back → flanks_at (raised chains) s ≡ flanks_at chains s
  same s i =
      let a = active_behind widest chains wide q clear front back between s i in
      same_flanks chains s a.segment a.is (wide s a.segment a.is) (not_west widest chains wide q clear front back between s i a)

  same_list : (list : List ℕ) → ((s : ℕ) → IsIn s list → flanks_at (raised chains) s ≡ flanks_at chains s) → flanks_in (raised chains) list ≡ flanks_in chains list
  same_list [] each = refl
  same_list (s ∷ rest) each = ap₂ (λ f fs. f ∷ fs) (each s (inl refl)) (same_list rest (λ t i. each t (inr i)))

  tell_counts : (gaps : List Gap) (g : ℕ) (told : TellGap n gaps g (flanks_in (raised chains) back)) → TellCounts chains q told.way
  tell_counts gaps g told S none = record {
    crossed = back;
    are = crossed widest chains wide q clear front back between;
    counted =
        let one = told.one S none in
        let near = ap (λ l. count_by (λ (f : Flanks). S f.near) l) (same_list back same) in
        let far = ap (λ l. count_by (λ (f : Flanks). S f.far) l) (same_list back same) in
        omega (arith, ints, one, near, far);
  }

  pub visited : (sites : List Site) (gaps : List Gap) (visit : Visit) (site : Site) → slice_get sites visit.place ≡ Some site → site.point ≡ q →
      TellGap n gaps visit.gap (flanks_in (raised chains) back) → IsVisit n chains sites gaps visit
  visited sites gaps visit site is at told = record {
    site = site;
    is = is;
    off = subst (IsOffChains chains) (sym at) (off_chains widest chains wide q clear front back between);
    way = told.way;
    is_way = told.is;
    tell = subst (λ p. TellCounts chains p told.way) (sym at) (tell_counts gaps visit.gap told);
  }
