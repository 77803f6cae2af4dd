-- Where a sweep has come to a vertex, its list is that of the slab below, and what ends and begins there is gathered.
use Rattle.std.proofs.Common.{◌≡◌, inl, inr, ⊎_elim, ℕ, ◌+◌, ◌-◌, ◌<◌, ◌≤◌, ◌==◌, Bool, not, pos, ◌+ℤ◌, ◌-ℤ◌, ◌<ℤ◌, ◌≤ℤ◌, List, length, take, drop, get_or, count_by, sym, ap, subst, ◌∙◌, arith}
use Rattle.std.specs.Prelude.{All}
use Rattle.std.proofs.lemmas.Bool.{cases_lt}
use Rattle.std.proofs.lemmas.Int.{ints, by_lt_z}
use Rattle.std.proofs.lemmas.List.{get_or_default}
use Rattle.std.proofs.lemmas.List.Elements.{All-take, All-drop}
use Rattle.std.proofs.lemmas.List.Sums.{sum_by-append}
use Rattle.std.proofs.Math.Seq.{take-add}
use Rattle.tl_geom.specs.declared.point.Point.{Point}
use Rattle.tl_geom.specs.declared.segment.Segment.{Segment}
use Rattle.tl_map_county.specs.TheMap.{MapChain}
use Rattle.tl_map_county.specs.Segments.{segments_before}
use Rattle.tl_tree_index.specs.Hits.{times}
use Rattle.tl_check_planar.specs.ByHeight.Heights.{height, widest, low_end, high_end}
use Rattle.tl_check_planar.specs.ByHeight.Neighbours.{IsNumbered}
use Rattle.tl_check_planar.specs.ByHeight.Slabs.{IsListOf}
use Rattle.tl_check_planar.proofs.ByHeight.Numbered.{one_segment}
use Rattle.tl_check_planar.proofs.ByHeight.Rising.{ends_of}
use Rattle.tl_check_faces.specs.Crossings.Headings.{AreProper}
use Rattle.tl_check_active.specs.declared.events.Event.{Event}
use Rattle.tl_check_active.specs.Events.{IsEvent, AreAt, AreEvents, AreEventsRising, begins_at, ends_at, joined, between, before}
use Rattle.tl_check_active.specs.Gathered.{AreGathered}
use Rattle.tl_check_active.specs.Ranges.{IsInRange, AreInRange}
use Rattle.tl_check_active.proofs.Bits.{bit}
use Rattle.tl_check_active.proofs.Joining.{all_joined, all_apart, before_past, before_within, part_is, level_there, first_behind}
use Rattle.tl_check_active.proofs.Tests.{same_low, high_height}
use Rattle.tl_check_sweep.specs.Keeping.Exact.{EndsAt, BeginsAt, IsBefore}
use Rattle.tl_check_gaps.specs.Keeping.Swept.{AreAbove, AreBelow, IsSwept}
use Rattle.tl_check_sweep.proofs.Exactly.{near}
use Rattle.tl_check_gaps.proofs.Found.{no_event, found, both_true, is_number, not_true}
use Rattle.tl_check_sweep.proofs.Freeing.{one_at_height}
use Rattle.tl_check_gaps.proofs.Gone.{all_before}
use Rattle.tl_check_gaps.proofs.Slab.{all_of, ended_by, found_before, in_list, known, list_of_slab, stands_before}

module _ (chains : List MapChain) (events : List (List Event)) (from to : ℕ) (list outs ins : List ℕ) (are : AreEvents chains (joined events))
    (rising : AreEventsRising (joined events)) (ranges : AreInRange chains) (proper : AreProper chains) (swept : IsSwept chains (joined events) (before from events) list)
    (gathered : AreGathered events from to outs ins) (p : Point) (here : (e : List Event) → AreAt p (get_or events from e))
    (below : AreBelow (before from events) (joined events)) (range : IsInRange p) where
  abbrev all : List Event
  all = joined events

  abbrev n : ℕ
  n = before from events

  abbrev m : ℕ
  m = before to events

  le : from ≤ to
  le = let past = gathered.past in omega (arith, past)

  past : n < m
  past = before_past from to events le gathered.some

  within : m ≤ length all
  within = before_within to events

  at : (get_or all n no_event).height ≡ height widest p +ℤ pos 2147483647
  at = let past = gathered.past in let within = gathered.within in first_behind from events p no_event (omega (arith, past, within)) here

  at_height : gathered.height_is ≡ height widest p +ℤ pos 2147483647
  at_height = sym (level_there from to events gathered.height_is le gathered.level n no_event (omega arith) past) ∙ at

  -- ---- the slab below

  low : (k : ℕ) → k < n → k < length all → (get_or all k no_event).height ≤ℤ ((height widest p -ℤ pos 1) +ℤ pos 2147483647)
  low k lt inside =
      let a = past in
      let b = within in
      let less = below k no_event lt (omega (arith, a, b)) in
      let is = at in
      omega (arith, ints, less, is)

  above : AreAbove (height widest p -ℤ pos 1) n all
  above k d from_here lt =
      let up = rising n k d from_here lt in
      let is = at in
      let same = ap (λ (e : Event). e.height) (get_or_default all n d no_event (omega (arith, from_here, lt))) in
      omega (arith, ints, is, up, same)

  listed : IsListOf widest (height widest p -ℤ pos 1) chains list
  listed = list_of_slab chains all are n list swept.counted (height widest p -ℤ pos 1) low above swept.tested

  -- ---- those that end and begin there

  part : (f : Event → Bool) → count_by f (take m all) ≡ count_by f (take n all) + count_by f (between from to events)
  part f =
      let a = past in
      let is : n + (m - n) ≡ m = omega (arith, a) in
      let split = ap (λ k. take k all) (sym is) ∙ take-add n (m - n) all in
      ap (count_by f) split ∙ sum_by-append (λ (x : Event). bit (f x)) (take n all) (take (m - n) (drop n all))
      ∙ ap (λ l. count_by f (take n all) + count_by f l) (part_is from to events le)

  -- an event among them, and its segment
  each : All (IsEvent chains) (between from to events)
  each = all_joined (IsEvent chains) (take (to - from) (drop from events))
      (All-take (All (IsEvent chains)) (to - from) (drop from events) (All-drop (All (IsEvent chains)) from events (all_apart (IsEvent chains) events are.each)))

  in_range : (s : ℕ) (u : Segment) → IsNumbered chains s u → IsInRange (low_end widest u) × IsInRange (high_end widest u)
  in_range s u is =
      let both = ranges s u is in
      ⊎_elim (λ k. (subst IsInRange (sym k.0) both.0, subst IsInRange (sym k.1) both.1)) (λ k. (subst IsInRange (sym k.0) both.1, subst IsInRange (sym k.1) both.0))
      (ends_of widest u (near chains p ranges s u is)).are

  ended : (s : ℕ) → 0 < count_by (ends_at s) (between from to events) → EndsAt chains p s
  ended s some =
      let one = found (ends_at s) (between from to events) no_event some in
      let e : Event = get_or (between from to events) one.0 no_event in
      let both = both_true (not e.begins) (e.segment == s) one.2 in
      let tell : IsEvent chains e = each one.0 no_event one.1 in
      let is : IsNumbered chains s tell.segment = subst (λ k. IsNumbered chains k tell.segment) (is_number e.segment s both.1) tell.is in
      let top = tell.height_is ∙ ap (λ q. height widest q +ℤ pos 2147483647) (tell.high (not_true e.begins both.0)) in
      let level = gathered.level one.0 no_event one.1 in
      let same = at_height in (
        tell.segment,
        is,
        one_at_height (high_end widest tell.segment) p (in_range s tell.segment is).1 range (omega (arith, ints, top, level, same)),
      )

  begun : (s : ℕ) → 0 < count_by (begins_at s) (between from to events) → (u : Segment) × IsNumbered chains s u × (low_end widest u ≡ p)
  begun s some =
      let one = found (begins_at s) (between from to events) no_event some in
      let e : Event = get_or (between from to events) one.0 no_event in
      let both = both_true e.begins (e.segment == s) one.2 in
      let tell : IsEvent chains e = each one.0 no_event one.1 in
      let is : IsNumbered chains s tell.segment = subst (λ k. IsNumbered chains k tell.segment) (is_number e.segment s both.1) tell.is in
      let bottom = tell.height_is ∙ ap (λ q. height widest q +ℤ pos 2147483647) (tell.low both.0) in
      let level = gathered.level one.0 no_event one.1 in
      let same = at_height in (
        tell.segment,
        is,
        one_at_height (low_end widest tell.segment) p (in_range s tell.segment is).0 range (omega (arith, ints, bottom, level, same)),
      )

  off : (s : ℕ) (u : Segment) → IsNumbered chains s u → high_end widest u ≡ p → times s outs ≡ 1
  off s u is e =
      let lt : s < segments_before chains (length chains) = known chains all are n list swept.counted s u is in
      let once = are.ended s lt in
      let one = found (ends_at s) all no_event (omega (arith, once)) in
      let last = ended_by chains all are n list swept.counted s one.0 one.1 one.2 in
      let top : height widest (high_end widest last.0) ≡ height widest p = high_height widest last.0 u (one_segment chains s last.0 u last.1 is) ∙ ap (height widest) e in
      let its = last.2 in
      let first = at in
      let a = past in
      let b = within in
      let before_m : one.0 < m = elim (cases_lt one.0 m) [
        | inl lt' ↦ lt'
        | inr behind ↦
            absurd (let up = rising m one.0 no_event behind one.1 in
            let over = strictly (omega (arith, behind, one.1)) in
            omega (arith, ints, up, over, its, top))
      ] in
      let some = stands_before (ends_at s) all m one.0 no_event before_m one.1 one.2 in
      let none : count_by (ends_at s) (take n all) ≡ 0 = elim (cases_lt 0 (count_by (ends_at s) (take n all))) [
        | inl more ↦
            absurd (let other = found_before (ends_at s) all n no_event more in
            let lower = ended_by chains all are n list swept.counted s other.0 other.2 other.3 in
            let top' : height widest (high_end widest lower.0) ≡ height widest p = high_height widest lower.0 u (one_segment chains s lower.0 u lower.1 is) ∙ ap (height widest) e in
            let its' = lower.2 in
            let less = below other.0 no_event other.1 (omega (arith, a, b)) in
            omega (arith, ints, less, first, its', top'))
        | inr most ↦ omega (arith, most)
      ] in
      let sum = part (ends_at s) in
      let whole = all_of (ends_at s) all m in
      let is_off = gathered.off s in
      omega (arith, some, none, sum, whole, once, is_off)
    where
      -- what is behind them is higher
      strictly : m < length all → (height widest p +ℤ pos 2147483647) <ℤ (get_or all m no_event).height
      strictly lt =
          let a = past in
          let own = gathered.beyond no_event (fewer lt) in
          let first = at in
          let is = at_height in
          let up = rising n m no_event (omega (arith, a)) lt in
          by_lt_z (height widest p +ℤ pos 2147483647) (get_or all m no_event).height (λ more. more)
          (λ low. absurd (own (omega (arith, ints, first, is, up, low))))
        where
          fewer : m < length all → to < length events
          fewer lt = ⊎_elim (λ less. less) (λ every. let none = all_before events to every in absurd (omega (arith, none, lt))) (cases_lt to (length events))

  off_alone : (s : ℕ) → 0 < times s outs → EndsAt chains p s
  off_alone s some = let is = gathered.off s in ended s (omega (arith, is, some))

  on_once : (s : ℕ) → 0 < times s ins → times s ins ≡ 1
  on_once s some =
      let is = gathered.on s in
      let its = begun s (omega (arith, is, some)) in
      let once = are.begun s (known chains all are n list swept.counted s its.0 its.1) in
      let sum = part (begins_at s) in
      let whole = all_of (begins_at s) all m in
      omega (arith, is, some, once, sum, whole)

  on : All (BeginsAt chains p) ins
  on k d lt u is =
      let s : ℕ = get_or ins k d in
      let some = in_list ins k d lt in
      let count = gathered.on s in
      let its = begun s (omega (arith, count, some)) in
      same_low widest u its.0 (one_segment chains s u its.0 is its.1) ∙ its.2

  pub arrived : IsBefore chains p list outs ins
  arrived = record {
    proper = proper;
    ranges = ranges;
    here = range;
    listed = listed;
    off = off;
    off_alone = off_alone;
    on = on;
    on_once = on_once;
  }
