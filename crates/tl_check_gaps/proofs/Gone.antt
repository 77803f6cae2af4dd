-- A sweep from one place of its events to another.
use Rattle.std.proofs.Common.{◌≡◌, ⊎_elim, ℕ, zero, suc, ◌+◌, ◌-◌, ◌≤◌, ◌<◌, ℤ, pos, ◌+ℤ◌, ◌<ℤ◌, ◌≤ℤ◌, List, [], ◌∷◌, length, take, drop, get_or, count_by, refl, sym, ap, ◌∙◌, arith}
use Rattle.std.proofs.lemmas.Bool.{cases_lt}
use Rattle.std.proofs.lemmas.Int.{ints, by_lt_z}
use Rattle.std.proofs.lemmas.List.{get_or_default}
use Rattle.tl_geom.specs.declared.point.Point.{Point}
use Rattle.tl_map_county.specs.TheMap.{MapChain}
use Rattle.tl_tree_index.specs.Hits.{times}
use Rattle.tl_check_active.specs.declared.events.Event.{Event}
use Rattle.tl_check_planar.specs.ByHeight.Heights.{height, widest}
use Rattle.tl_check_planar.specs.ByHeight.Neighbours.{AreTested, EachTwo}
use Rattle.tl_check_planar.specs.ByHeight.Slabs.{IsListOf}
use Rattle.tl_check_active.specs.Gathered.{AreGathered}
use Rattle.tl_check_active.specs.Events.{AreAt, begins_at, ends_at, AreEvents, AreEventsRising, joined, between, before}
use Rattle.tl_check_gaps.specs.Keeping.Swept.{AreAbove, AreBelow, IsSwept}
use Rattle.tl_check_gaps.specs.Keeping.Watched.{AreReached, IsBelowNext}
use Rattle.tl_check_active.proofs.Joining.{before_past, before_within, part_is, level_there, first_behind}
use Rattle.tl_check_gaps.proofs.Slab.{goes_on, lower, earlier, next_list}
use Rattle.tl_check_gaps.proofs.Found.{no_event}

every : (events : List (List Event)) (from : ℕ) → length events ≤ from → take from events ≡ events
every [] zero all = refl
every [] (suc n) all = refl
every (e ∷ events) zero all = absurd (omega (arith, all))
every (e ∷ events) (suc n) all = ap (λ l. e ∷ l) (every events n (omega (arith, all)))

-- no event is left behind the last place
pub all_before : (events : List (List Event)) (from : ℕ) → length events ≤ from → length (joined events) ≤ before from events
all_before events from all = let same : before from events ≡ length (joined events) = ap (λ l. length (joined l)) (every events from all) in omega (arith, same)

module _ (chains : List MapChain) (events : List (List Event)) (from to : ℕ) (list next outs ins : List ℕ) (are : AreEvents chains (joined events))
    (rising : AreEventsRising (joined events)) (swept : IsSwept chains (joined events) (before from events) list)
    (gathered : AreGathered events from to outs ins) (moved : (s : ℕ) → times s next + times s outs ≡ times s list + times s ins)
    (tested : EachTwo (AreTested widest chains) next) where
  le : from ≤ to
  le = let past = gathered.past in omega (arith, past)

  past : before from events < before to events
  past = before_past from to events le gathered.some

  level : (k : ℕ) (d : Event) → before from events ≤ k → k < before to events →
      (get_or (joined events) k d).height ≡ (get_or (joined events) (before from events) d).height
  level k d low high = level_there from to events gathered.height_is le gathered.level k d low high
      ∙ sym (level_there from to events gathered.height_is le gathered.level (before from events) d (omega arith) past)

  -- the events there
  abbrev group : List Event
  group = take (before to events - before from events) (drop (before from events) (joined events))

  sums : (s : ℕ) → times s next + count_by (ends_at s) group ≡ times s list + count_by (begins_at s) group
  sums s =
      let off = gathered.off s in
      let on = gathered.on s in
      let part = part_is from to events le in
      let off' : count_by (ends_at s) group ≡ count_by (ends_at s) (between from to events) = ap (count_by (ends_at s)) part in
      let on' : count_by (begins_at s) group ≡ count_by (begins_at s) (between from to events) = ap (count_by (begins_at s)) part in
      let all = moved s in
      omega (arith, off, on, off', on', all)

  pub gone_on : IsSwept chains (joined events) (before to events) next
  gone_on = goes_on chains (joined events) (before from events) (before to events) list next are rising swept past (before_within to events) level sums tested

  -- the events there have the height of the point
  module _ (p : Point) (here : (e : List Event) → AreAt p (get_or events from e)) where
    at : (get_or (joined events) (before from events) no_event).height ≡ height widest p +ℤ pos 2147483647
    at = let past = gathered.past in let within = gathered.within in first_behind from events p no_event (omega (arith, past, within)) here

    -- no event up to them is higher than what they reach
    pub reached_all : (n : ℤ) → height widest p ≤ℤ n → AreReached n (before to events) (joined events)
    reached_all n le k d lt inside =
        let is = at in
        let same = ap (λ (e : Event). e.height) (get_or_default (joined events) k d no_event inside) in
        let low = lower chains (joined events) (before from events) (before to events) list next are rising swept past (before_within to events) level sums
        tested k lt inside n (omega (arith, ints, is, le)) in
        omega (arith, ints, same, low)

    -- what is reached by them is no lower than the point
    pub reached_by : (n : ℤ) → AreReached n (before to events) (joined events) → height widest p ≤ℤ n
    reached_by n reached =
        let is = at in
        let rest = past in
        let within = before_within to events in
        let low = reached (before from events) no_event past (omega (arith, rest, within)) in
        omega (arith, ints, is, low)

    -- of a height below the other events the slab was told of before, or the list is the slab's
    pub before_or : (n : ℤ) → AreAbove n (before to events) (joined events) → {A : Type 0} → (AreAbove n (before from events) (joined events) → A) →
        (height widest p ≤ℤ n → IsListOf widest n chains next → A) → A
    before_or n above told listed =
        let is = at in
        by_lt_z (n +ℤ pos 2147483647) (get_or (joined events) (before from events) no_event).height
        (λ under. told (earlier chains (joined events) (before from events) (before to events) list next are rising swept past (before_within to events)
        level sums tested n under))
        (λ reached. listed (omega (arith, ints, is, reached)) (next_list chains (joined events) (before from events) (before to events) list next are rising
        swept past (before_within to events) level sums tested n above reached))

    -- what is below the point is below the events there and those behind them
    pub under_here : (n : ℤ) → n <ℤ height widest p → AreAbove n (before from events) (joined events)
    under_here n below k d le lt =
        let is = at in
        let up = rising (before from events) k d le lt in
        let same = ap (λ (e : Event). e.height) (get_or_default (joined events) (before from events) d no_event (omega (arith, le, lt))) in
        omega (arith, ints, is, up, same, below)

    -- the other events are above the point
    below_next : IsBelowNext p (joined events) (before to events)
    below_next d lt =
        let is = at in
        let rest = past in
        let own = gathered.beyond d (fewer lt) in
        let here = level_there from to events gathered.height_is le gathered.level (before from events) no_event (omega arith) past in
        let up = rising (before from events) (before to events) d (omega (arith, rest)) lt in
        let same = ap (λ (e : Event). e.height) (get_or_default (joined events) (before from events) d no_event (omega (arith, rest, lt))) in
        by_lt_z (height widest p +ℤ pos 2147483647) (get_or (joined events) (before to events) d).height (λ above. above)
        (λ low. absurd (own (omega (arith, ints, is, here, up, same, low))))
      where
        fewer : before to events < length (joined events) → to < length events
        fewer lt = ⊎_elim (λ less. less) (λ all. let none = all_before events to all in absurd (omega (arith, none, lt))) (cases_lt to (length events))

    -- so all events up to them are lower than the next one
    pub risen : AreBelow (before to events) (joined events)
    risen k d lt inside =
        let low = reached_all (height widest p) (omega (arith, ints)) k d lt (omega (arith, lt, inside)) in
        let over = below_next d inside in
        omega (arith, ints, low, over)

    -- the list is that of the slab above the point
    pub listed_here : IsListOf widest (height widest p) chains next
    listed_here =
        let is = at in
        let below = below_next in
        next_list chains (joined events) (before from events) (before to events) list next are rising swept past (before_within to events) level sums
        tested (height widest p)
        (λ k d le lt.
        let up = rising (before to events) k d le lt in let over = below d (omega (arith, le, lt)) in omega (arith, ints, up, over))
        (omega (arith, ints, is))
