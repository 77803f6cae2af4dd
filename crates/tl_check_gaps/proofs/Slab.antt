-- The list after the events up to a height is that of the slab above it.
use Rattle.std.proofs.Common.{◌≡◌, inl, inr, ℕ, zero, suc, ◌+◌, ◌-◌, ◌<◌, ◌≤◌, ◌==◌, Bool, true, false, not, ℤ, pos, ◌+ℤ◌, ◌≤ℤ◌, ◌<ℤ◌, List, [], ◌∷◌, ◌++◌, length, take, drop, get_or, count_by, refl, sym, ap, subst, ◌∙◌, arith}
use Rattle.std.proofs.lemmas.Bool.{cases_lt}
use Rattle.std.proofs.lemmas.Int.{ints, by_lt_z}
use Rattle.std.proofs.lemmas.List.{get_or_default}
use Rattle.std.proofs.Math.Seq.{take-add}
use Rattle.std.proofs.lemmas.List.Sums.{sum_by-cons, sum_by-append}
use Rattle.tl_geom.specs.declared.segment.Segment.{Segment}
use Rattle.tl_map_county.specs.TheMap.{MapChain}
use Rattle.tl_map_county.specs.Segments.{segments_before}
use Rattle.tl_check_planar.proofs.Numbering.{below_total, HaveSameEnds}
use Rattle.tl_tree_index.specs.Hits.{times}
use Rattle.tl_tree_index.proofs.Times.{same_or, times-same, times-other}
use Rattle.tl_check_active.specs.declared.events.Event.{Event}
use Rattle.tl_check_planar.specs.ByHeight.Heights.{height, widest, low_end, high_end}
use Rattle.tl_check_planar.specs.ByHeight.Neighbours.{IsNumbered, AreTested, EachTwo}
use Rattle.tl_check_planar.specs.ByHeight.Slabs.{IsActive, IsListOf, AreSlabsTested}
use Rattle.tl_check_active.specs.Events.{IsEvent, begins_at, ends_at, AreEvents, AreEventsRising}
use Rattle.tl_check_gaps.specs.Keeping.Swept.{AreAbove, IsSwept}
use Rattle.tl_check_active.proofs.Bits.{bit}
use Rattle.tl_check_gaps.proofs.Found.{no_event, found, both_true, is_number, not_true}
use Rattle.tl_check_planar.proofs.ByHeight.Numbered.{one_segment}
use Rattle.tl_check_active.proofs.Tests.{low_height, high_height}

-- ---- what is counted of the first events

-- what stands somewhere is counted
stands : (f : Event → Bool) (events : List Event) (m : ℕ) (d : Event) → m < length events → f (get_or events m d) ≡ true → 0 < count_by f events
stands f [] m d lt is = absurd (omega (arith, lt))
stands f (e ∷ events) zero d lt is =
    let sum = sum_by-cons (λ (x : Event). bit (f x)) e events in
    let one : bit (f e) ≡ 1 = ap bit is in
    omega (arith, sum, one)
stands f (e ∷ events) (suc m) d lt is =
    let sum = sum_by-cons (λ (x : Event). bit (f x)) e events in
    let rest = stands f events m d (omega (arith, lt)) is in
    omega (arith, sum, rest)

pub all_of : (f : Event → Bool) (events : List Event) (n : ℕ) → count_by f (take n events) + count_by f (drop n events) ≡ count_by f events
all_of f events zero = omega arith
all_of f [] (suc n) = omega arith
all_of f (e ∷ events) (suc n) =
    let rest = all_of f events n in
    let sum = sum_by-cons (λ (x : Event). bit (f x)) e events in
    let sum' = sum_by-cons (λ (x : Event). bit (f x)) e (take n events) in
    omega (arith, rest, sum, sum')

-- where one of the first n is counted, and where one of them stands
pub found_before : (f : Event → Bool) (events : List Event) (n : ℕ) (d : Event) → 0 < count_by f (take n events) → (m : ℕ) × (m < n) × (m < length events) × (f (get_or events m d) ≡ true)
found_before f events zero d h = absurd (let none : 0 < 0 = h in omega (arith, none))
found_before f [] (suc n) d h = absurd (let none : 0 < 0 = h in omega (arith, none))
found_before f (e ∷ events) (suc n) d h = go (λ more. found_before f events n d more) (f e) refl
  where
    go : (0 < count_by f (take n events) → (m : ℕ) × (m < n) × (m < length events) × (f (get_or events m d) ≡ true)) → (b : Bool) → f e ≡ b → (m : ℕ) × (m < suc n) × (m < length (e ∷ events)) × (f (get_or (e ∷ events) m d) ≡ true)
    go later true is = (0, omega arith, omega arith, is)
    go later false is =
        let sum = sum_by-cons (λ (x : Event). bit (f x)) e (take n events) in
        let none : bit (f e) ≡ 0 = ap bit is in
        let rest : (m : ℕ) × (m < n) × (m < length events) × (f (get_or events m d) ≡ true) = later (omega (arith, h, sum, none)) in
        (suc rest.0, let lt = rest.1 in omega (arith, lt), let lt = rest.2 in omega (arith, lt), rest.3)

pub stands_before : (f : Event → Bool) (events : List Event) (n m : ℕ) (d : Event) → m < n → m < length events → f (get_or events m d) ≡ true → 0 < count_by f (take n events)
stands_before f events zero m d lt within is = absurd (omega (arith, lt))
stands_before f [] (suc n) m d lt within is = absurd (omega (arith, within))
stands_before f (e ∷ events) (suc n) zero d lt within is =
    let sum = sum_by-cons (λ (x : Event). bit (f x)) e (take n events) in
    let one : bit (f e) ≡ 1 = ap bit is in
    omega (arith, sum, one)
stands_before f (e ∷ events) (suc n) (suc m) d lt within is =
    let sum = sum_by-cons (λ (x : Event). bit (f x)) e (take n events) in
    let rest = stands_before f events n m d (omega (arith, lt)) (omega (arith, within)) is in
    omega (arith, sum, rest)

-- ---- the slab

in_longer : (x y : ℕ) (list : List ℕ) → 0 < times y list → 0 < times y (x ∷ list)
in_longer x y list h = same_or y x (λ e. let one = times-same y x list e in omega (arith, one)) (λ ne. let same = times-other y x list ne in omega (arith, same, h))

pub in_list : (list : List ℕ) (k d : ℕ) → k < length list → 0 < times (get_or list k d) list
in_list [] k d lt = absurd (omega (arith, lt))
in_list (x ∷ list) zero d lt = let one = times-same x x list refl in omega (arith, one)
in_list (x ∷ list) (suc k) d lt = in_longer x (get_or list k d) list (in_list list k d (omega (arith, lt)))

each_in : (P : ℕ → Type 0) (list : List ℕ) → ((s : ℕ) → 0 < times s list → P s) → (k d : ℕ) → k < length list → P (get_or list k d)
each_in P list all k d lt = all (get_or list k d) (in_list list k d lt)

module _ (chains : List MapChain) (events : List Event) (are : AreEvents chains events) (from : ℕ) (list : List ℕ)
    (counted : (s : ℕ) → times s list + count_by (ends_at s) (take from events) ≡ count_by (begins_at s) (take from events)) where
  -- a segment by an event where it begins, and one where it ends
  pub begun_by : (s m : ℕ) → m < length events → begins_at s (get_or events m no_event) ≡ true → (u : Segment) × IsNumbered chains s u × ((get_or events m no_event).height ≡ height widest (low_end widest u) +ℤ pos 2147483647)
  begun_by s m lt is =
      let both = both_true (get_or events m no_event).begins ((get_or events m no_event).segment == s) is in
      let tell : IsEvent chains (get_or events m no_event) = are.each m no_event lt in
      (tell.segment, subst (λ n. IsNumbered chains n tell.segment) (is_number (get_or events m no_event).segment s both.1) tell.is, tell.height_is ∙ ap (λ p. height widest p +ℤ pos 2147483647) (tell.low both.0))

  pub ended_by : (s m : ℕ) → m < length events → ends_at s (get_or events m no_event) ≡ true → (u : Segment) × IsNumbered chains s u × ((get_or events m no_event).height ≡ height widest (high_end widest u) +ℤ pos 2147483647)
  ended_by s m lt is =
      let both = both_true (not (get_or events m no_event).begins) ((get_or events m no_event).segment == s) is in
      let tell : IsEvent chains (get_or events m no_event) = are.each m no_event lt in
      (tell.segment, subst (λ n. IsNumbered chains n tell.segment) (is_number (get_or events m no_event).segment s both.1) tell.is, tell.height_is ∙ ap (λ p. height widest p +ℤ pos 2147483647) (tell.high (not_true (get_or events m no_event).begins both.0)))

  pub known : (s : ℕ) (u : Segment) → IsNumbered chains s u → s < segments_before chains (length chains)
  known s u is = below_total chains s is.c is.k is.number

  module _ (n : ℤ) (low : (k : ℕ) → k < from → k < length events → (get_or events k no_event).height ≤ℤ (n +ℤ pos 2147483647)) (above : AreAbove n from events) where
    active : (s : ℕ) → 0 < times s list → IsActive widest n chains s
    active s h =
        let sum = counted s in
        let one : (m : ℕ) × (m < from) × (m < length events) × (begins_at s (get_or events m no_event) ≡ true) = found_before (begins_at s) events from no_event (omega (arith, sum, h)) in
        let first = begun_by s one.0 one.2 one.3 in
        let lt : s < segments_before chains (length chains) = known s first.0 first.1 in
        let once = are.begun s lt in
        let all = all_of (begins_at s) events from in
        let ends = are.ended s lt in
        let other : (m : ℕ) × (m < length events) × (ends_at s (get_or events m no_event) ≡ true) = found (ends_at s) events no_event (omega (arith, ends)) in
        let last = ended_by s other.0 other.1 other.2 in
        let same : HaveSameEnds last.0 first.0 = one_segment chains s last.0 first.0 last.1 first.1 in
        let top : height widest (high_end widest last.0) ≡ height widest (high_end widest first.0) = high_height widest last.0 first.0 same in
        let begun = low one.0 one.1 one.2 in
        let at = first.2 in
        let at' = last.2 in
        let behind : from ≤ other.0 = elim (cases_lt other.0 from) [
          | inl before ↦ absurd (let some = stands_before (ends_at s) events from other.0 no_event before other.1 other.2 in omega (arith, some, sum, h, once, all))
          | inr le ↦ le
        ] in
        let beyond = above other.0 no_event behind other.1 in
        record { segment = first.0; is = first.1; begun = omega (arith, ints, begun, at); lasting = omega (arith, ints, beyond, at', top) }

    stands_once : (s : ℕ) → IsActive widest n chains s → times s list ≡ 1
    stands_once s a =
        let lt : s < segments_before chains (length chains) = known s a.segment a.is in
        let sum = counted s in
        let once = are.begun s lt in
        let all = all_of (begins_at s) events from in
        let one : (m : ℕ) × (m < length events) × (begins_at s (get_or events m no_event) ≡ true) = found (begins_at s) events no_event (omega (arith, once)) in
        let first = begun_by s one.0 one.1 one.2 in
        let bottom : height widest (low_end widest first.0) ≡ height widest (low_end widest a.segment) = low_height widest first.0 a.segment (one_segment chains s first.0 a.segment first.1 a.is) in
        let at = first.2 in
        let begun = a.begun in
        let lasting = a.lasting in
        let some : 0 < count_by (begins_at s) (take from events) = elim (cases_lt one.0 from) [
          | inl before ↦ stands_before (begins_at s) events from one.0 no_event before one.1 one.2
          | inr le ↦ absurd (let beyond = above one.0 no_event le one.1 in omega (arith, ints, beyond, at, bottom, begun))
        ] in
        let none : count_by (ends_at s) (take from events) ≡ 0 = elim (cases_lt 0 (count_by (ends_at s) (take from events))) [
          | inl more ↦
              absurd (
              let other : (m : ℕ) × (m < from) × (m < length events) × (ends_at s (get_or events m no_event) ≡ true) = found_before (ends_at s) events from no_event more in
              let last = ended_by s other.0 other.2 other.3 in
              let top : height widest (high_end widest last.0) ≡ height widest (high_end widest a.segment) = high_height widest last.0 a.segment (one_segment chains s last.0 a.segment last.1 a.is) in
              let down = low other.0 other.1 other.2 in
              let at' = last.2 in
              omega (arith, ints, down, at', top, lasting))
          | inr le ↦ omega (arith, le)
        ] in
        omega (arith, sum, once, all, some, none)

    pub list_of_slab : EachTwo (AreTested widest chains) list → IsListOf widest n chains list
    list_of_slab tested = record { active = each_in (IsActive widest n chains) list active; once = stands_once; tested = tested }

-- ---- a sweep

pub begins : (chains : List MapChain) (events : List Event) (list : List ℕ) → AreEvents chains events → list ≡ [] → IsSwept chains events 0 list
begins chains events list are e = subst (IsSwept chains events 0) (sym e) (record {
  within = omega arith;
  counted = λ s. refl;
  tested = tt;
  slabs = λ n above. ([], list_of_slab chains events are 0 [] (λ s. refl) n (λ k lt. absurd (omega (arith, lt))) above tt);
})

module _ (chains : List MapChain) (events : List Event) (from to : ℕ) (list next : List ℕ) (are : AreEvents chains events) (rising : AreEventsRising events)
    (swept : IsSwept chains events from list) (past : from < to) (within : to ≤ length events)
    (level : (k : ℕ) (d : Event) → from ≤ k → k < to → (get_or events k d).height ≡ (get_or events from d).height)
    (moved : (s : ℕ) → times s next + count_by (ends_at s) (take (to - from) (drop from events)) ≡ times s list + count_by (begins_at s)
    (take (to - from) (drop from events)))
    (tested : EachTwo (AreTested widest chains) next) where
  part : (f : Event → Bool) → count_by f (take to events) ≡ count_by f (take from events) + count_by f (take (to - from) (drop from events))
  part f =
      let is : from + (to - from) ≡ to = omega (arith, past) in
      let split : take to events ≡ take from events ++ take (to - from) (drop from events) = ap (λ n. take n events) (sym is)
      ∙ take-add from (to - from) events in
      ap (count_by f) split ∙ sum_by-append (λ (x : Event). bit (f x)) (take from events) (take (to - from) (drop from events))

  sums : (s : ℕ) → times s next + count_by (ends_at s) (take to events) ≡ count_by (begins_at s) (take to events)
  sums s =
      let off : count_by (ends_at s) (take to events) ≡ count_by (ends_at s) (take from events) + count_by (ends_at s)
      (take (to - from) (drop from events)) = part (ends_at s) in
      let on : count_by (begins_at s) (take to events) ≡ count_by (begins_at s) (take from events) + count_by (begins_at s)
      (take (to - from) (drop from events)) = part (begins_at s) in
      let before = swept.counted s in
      let now = moved s in
      omega (arith, off, on, before, now)

  pub lower : (k : ℕ) → k < to → k < length events → (n : ℤ) → (get_or events from no_event).height ≤ℤ (n +ℤ pos 2147483647) →
      (get_or events k no_event).height ≤ℤ (n +ℤ pos 2147483647)
  lower k lt here n reached = elim (cases_lt k from) [
    | inl before ↦ let up = rising k from no_event (omega (arith, before)) (omega (arith, past, within)) in omega (arith, ints, up, reached)
    | inr after ↦ let same = level k no_event after lt in omega (arith, ints, same, reached)
  ]

  -- a height is below the events at hand, or the list is that of the slab above it
  pub earlier : (n : ℤ) → (n +ℤ pos 2147483647) <ℤ (get_or events from no_event).height → AreAbove n from events
  earlier n under k d le lt =
      let up = rising from k d le lt in
      let same = ap (λ (e : Event). e.height) (get_or_default events from d no_event (omega (arith, past, within))) in
      omega (arith, ints, under, up, same)

  pub next_list : (n : ℤ) → AreAbove n to events → (get_or events from no_event).height ≤ℤ (n +ℤ pos 2147483647) → IsListOf widest n chains next
  next_list n above reached = list_of_slab chains events are to next sums n (λ k lt here. lower k lt here n reached) above tested

  pub goes_on : IsSwept chains events to next
  goes_on = record {
    within = within;
    counted = sums;
    tested = tested;
    slabs = λ n above.
        by_lt_z (n +ℤ pos 2147483647) (get_or events from no_event).height
        (λ under. swept.slabs n (earlier n under))
        (λ reached. (next, next_list n above reached));
  }

pub ends : (chains : List MapChain) (events : List Event) (from : ℕ) (list : List ℕ) → IsSwept chains events from list → length events ≤ from → AreSlabsTested widest chains
ends chains events from list swept all n = swept.slabs n (λ k d le lt. absurd (omega (arith, all, le, lt)))
