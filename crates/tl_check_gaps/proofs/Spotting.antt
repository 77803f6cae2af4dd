-- The point of a polygon, between two events and two neighbours of the list there.
use Rattle.std.proofs.Common.{◌≡◌, inl, inr, ⊎_elim, ℕ, ◌+◌, ◌-◌, ◌<◌, ◌≤◌, ◌<ℤ◌, ◌≤ℤ◌, ◌+ℤ◌, ℤ, pos, true, Some, List, [], ◌∷◌, ◌++◌, length, get_or, take, count_by, refl, sym, ap, ap₂, subst, ◌∙◌, arith}
use Rattle.std.specs.Prelude.{slice_get}
use Rattle.std.proofs.lemmas.Bool.{cases_lt}
use Rattle.std.proofs.lemmas.Int.{ints}
use Rattle.tl_geom.specs.declared.point.Point.{Point}
use Rattle.tl_geom.specs.declared.segment.Segment.{Segment}
use Rattle.tl_geom.specs.Plane.{turn_of}
use Rattle.tl_map_county.specs.declared.sides.Side.TheVariants.{Polygon}
use Rattle.tl_map_county.specs.TheMap.{TheMap, MapChain}
use Rattle.tl_check_inside.specs.Placed.{IsPlacedIn}
use Rattle.tl_check_inside.specs.Inside.{flanks_at}
use Rattle.tl_tree_index.specs.Hits.{times}
use Rattle.tl_check_planar.proofs.ByHeight.Walking.{IsIn}
use Rattle.tl_check_active.specs.declared.events.Event.{Event}
use Rattle.tl_check_gaps.specs.Beside.{IsNoVertex, IsEastOf, IsWestOfIt, IsEastOfLast, IsWestOfFirst, IsBetween, seen_side}
use Rattle.tl_check_active.proofs.Wide.{near_by_range, wide_by_range}
use Rattle.tl_check_planar.specs.ByHeight.Heights.{height, widest, low_end, high_end, turn_to}
use Rattle.tl_check_planar.specs.ByHeight.Neighbours.{IsNumbered, IsWide}
use Rattle.tl_check_planar.specs.ByHeight.Slabs.{IsListOf}
use Rattle.tl_check_gaps.specs.Keeping.Facing.{gaps_of, raised}
use Rattle.tl_check_active.specs.Blocks.Lined.{last_of}
use Rattle.tl_check_active.specs.Events.{begins_at, ends_at, AreEvents, AreEventsRising}
use Rattle.tl_check_active.specs.Ranges.{IsInRange, AreInRange}
use Rattle.tl_check_gaps.specs.Keeping.Swept.{IsSwept}
use Rattle.tl_check_gaps.proofs.Between.{placed, turn_same, active_behind, not_west}
use Rattle.tl_check_gaps.proofs.Raised.{same_flanks, same_facing, same_seen}
use Rattle.tl_check_gaps.proofs.Found.{no_event, found}
use Rattle.tl_check_gaps.proofs.Counts.{facing_behind}
use Rattle.tl_check_active.proofs.Lining.{last_more}
use Rattle.tl_check_planar.proofs.ByHeight.Numbered.{one_segment}
use Rattle.tl_check_planar.proofs.ByHeight.Rising.{AreEndsOf, ends_of}
use Rattle.tl_check_gaps.proofs.Slab.{begun_by, ended_by, known, list_of_slab}
use Rattle.tl_check_active.proofs.Tests.{low_height, high_height}

-- ---- a height between the events before a place and those from it on

module _ (chains : List MapChain) (events : List Event) (are : AreEvents chains events) (rising : AreEventsRising events) (from : ℕ) (within : from ≤ length events) (h : ℤ)
    (below : (d : Event) → 0 < from → from ≤ length events → (get_or events (from - 1) d).height <ℤ h)
    (above : (d : Event) → from < length events → h <ℤ (get_or events from d).height) where
  pub before : (k : ℕ) → k < from → (get_or events k no_event).height <ℤ h
  before k lt =
      let up = rising k (from - 1) no_event (omega (arith, lt)) (omega (arith, lt, within)) in
      let under = below no_event (omega (arith, lt)) within in
      omega (arith, ints, up, under)

  pub after : (k : ℕ) (d : Event) → from ≤ k → k < length events → h <ℤ (get_or events k d).height
  after k d le lt =
      let up = rising from k d le lt in
      let over = above d (omega (arith, le, lt)) in
      omega (arith, ints, up, over)

  none_at : (k : ℕ) → k < length events → ¬ ((get_or events k no_event).height ≡ h)
  none_at k lt e = elim (cases_lt k from) [
    | inl early ↦ let under = before k early in omega (arith, ints, under, e)
    | inr late ↦ let over = after k no_event late lt in omega (arith, ints, over, e)
  ]

  module _ (q : Point) (at : h ≡ height widest q +ℤ pos 2147483647) (list : List ℕ)
      (counted : (s : ℕ) → times s list + count_by (ends_at s) (take from events) ≡ count_by (begins_at s) (take from events)) where
    no_low : (s : ℕ) (u : Segment) → IsNumbered chains s u → ¬ (height widest q ≡ height widest (low_end widest u))
    no_low s u is e =
        let once = are.begun s (known chains events are from list counted s u is) in
        let one : (m : ℕ) × (m < length events) × (begins_at s (get_or events m no_event) ≡ true) = found (begins_at s) events no_event (omega (arith, once)) in
        let first = begun_by chains events are from list counted s one.0 one.1 one.2 in
        let same : height widest (low_end widest first.0) ≡ height widest (low_end widest u) = low_height widest first.0 u (one_segment chains s first.0 u first.1 is) in
        let there = first.2 in
        none_at one.0 one.1 (omega (arith, ints, there, same, e, at))

    no_high : (s : ℕ) (u : Segment) → IsNumbered chains s u → ¬ (height widest q ≡ height widest (high_end widest u))
    no_high s u is e =
        let once = are.ended s (known chains events are from list counted s u is) in
        let one : (m : ℕ) × (m < length events) × (ends_at s (get_or events m no_event) ≡ true) = found (ends_at s) events no_event (omega (arith, once)) in
        let last = ended_by chains events are from list counted s one.0 one.1 one.2 in
        let same : height widest (high_end widest last.0) ≡ height widest (high_end widest u) = high_height widest last.0 u (one_segment chains s last.0 u last.1 is) in
        let there = last.2 in
        none_at one.0 one.1 (omega (arith, ints, there, same, e, at))

    pub no_vertex : AreInRange chains → IsInRange q → IsNoVertex widest chains q
    no_vertex ranges range = record {
      near_first = λ s u is. near_by_range q u.a range (ranges s u is).0;
      near_last = λ s u is. near_by_range q u.b range (ranges s u is).1;
      no_first = λ s u is e. ⊎_elim (λ k. no_low s u is (ap (height widest) (e ∙ sym k.0))) (λ k. no_high s u is (ap (height widest) (e ∙ sym k.1))) (ends s u is).are;
      no_last = λ s u is e. ⊎_elim (λ k. no_high s u is (ap (height widest) (e ∙ sym k.1))) (λ k. no_low s u is (ap (height widest) (e ∙ sym k.0))) (ends s u is).are;
    }
      where
        ends : (s : ℕ) (u : Segment) → IsNumbered chains s u → AreEndsOf widest u (low_end widest u) (high_end widest u)
        ends s u is = ends_of widest u (wide_by_range chains ranges s u is)

-- ---- the segments before and behind a place

module _ (K : ℤ) (chains : List MapChain) (q : Point) where
  module _ (s t : ℕ) (u : Segment) (a b : Point) (one : s ≡ t) (is : IsNumbered chains s u) (low : a ≡ low_end K u) (high : b ≡ high_end K u) where
    turn_by : (w : Segment) → IsNumbered chains t w → turn_of a b q ≡ turn_to K w q
    turn_by w is' = ap₂ (λ x y. turn_of x y q) low high ∙ turn_same K q u w (one_segment chains t u w (subst (λ n. IsNumbered chains n u) one is) is')

    pub east_by : turn_of a b q <ℤ pos 0 → IsEastOf K chains q t
    east_by lt w is' = subst (λ z. z <ℤ pos 0) (turn_by w is') lt

    pub west_by : pos 0 <ℤ turn_of a b q → IsWestOfIt K chains q t
    west_by lt w is' = subst (λ z. pos 0 <ℤ z) (turn_by w is') lt

    pub not_east_by : pos 0 ≤ℤ turn_of a b q → (w : Segment) → IsNumbered chains t w → pos 0 ≤ℤ turn_to K w q
    not_east_by le w is' = subst (λ z. pos 0 ≤ℤ z) (turn_by w is') le

  pub east_of_last : (front : List ℕ) → ((t : ℕ) → last_of front ≡ Some t → IsEastOf K chains q t) → IsEastOfLast K chains q front
  east_of_last [] east = tt
  east_of_last (s ∷ []) east = east s refl
  east_of_last (s ∷ (t ∷ rest)) east = east_of_last (t ∷ rest) (λ u e. east u (last_more s t rest ∙ e))

  pub west_of_first : (back : List ℕ) → ((t : ℕ) → slice_get back 0 ≡ Some t → IsWestOfIt K chains q t) → IsWestOfFirst K chains q back
  west_of_first [] west = tt
  west_of_first (s ∷ rest) west = west s refl

-- ---- in a map

pub spotted : (m : TheMap) (events : List Event) (from : ℕ) (list front back : List ℕ) (q : Point) (h : ℤ) (p : ℕ) → AreEvents m.chains events → AreEventsRising events → AreInRange m.chains → IsInRange q →
    IsSwept m.chains events from list → h ≡ height widest q +ℤ pos 2147483647 →
    ((d : Event) → 0 < from → from ≤ length events → (get_or events (from - 1) d).height <ℤ h) →
    ((d : Event) → from < length events → h <ℤ (get_or events from d).height) →
    list ≡ front ++ back → 0 ≡ gaps_of (raised m.chains) list → IsEastOfLast widest m.chains q front → IsWestOfFirst widest m.chains q back →
    seen_side (raised m.chains) back ≡ Polygon p → IsPlacedIn m q p
spotted m events from list front back q h p are rising ranges range swept at below above parted facing east west sees =
    placed widest m q front back p wide clear between
    (same_facing m.chains back same (facing_behind (raised m.chains) front back (ap (gaps_of (raised m.chains)) (sym parted) ∙ sym facing)))
    (sym (same_seen m.chains back same) ∙ sees)
  where
    slab : IsListOf widest (height widest q) m.chains list
    slab =
        list_of_slab m.chains events are from list swept.counted (height widest q)
        (λ k lt within. let under = before m.chains events are rising from swept.within h below above k lt in omega (arith, ints, under, at))
        (λ k d le lt. let over = after m.chains events are rising from swept.within h below above k d le lt in omega (arith, ints, over, at)) swept.tested

    wide : IsWide widest m.chains
    wide = wide_by_range m.chains ranges

    clear : IsNoVertex widest m.chains q
    clear = no_vertex m.chains events are rising from swept.within h below above q at list swept.counted ranges range

    between : IsBetween widest m.chains q front back
    between = record { listed = subst (IsListOf widest (height widest q) m.chains) parted slab; east = east; west = west }

    same : (s : ℕ) → IsIn s back → flanks_at (raised m.chains) s ≡ flanks_at m.chains s
    same s i =
        let a = active_behind widest m.chains wide q clear front back between s i in
        same_flanks m.chains s a.segment a.is (wide s a.segment a.is) (not_west widest m.chains wide q clear front back between s i a)
