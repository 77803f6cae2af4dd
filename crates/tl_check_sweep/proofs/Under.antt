-- How a sweep tells the gaps of all slabs.
use Rattle.std.proofs.Common.{◌≡◌, inl, inr, ⊎_elim, ℕ, ◌+◌, ◌<◌, ◌≤◌, ℤ, ◌<ℤ◌, ◌≤ℤ◌, Option, List, [], ◌∷◌, length, get_or, refl, sym, ap, subst, ◌∙◌, arith}
use Rattle.std.specs.Prelude.{All}
use Rattle.std.proofs.lemmas.Int.{ints}
use Rattle.std.proofs.lemmas.List.Elements.{All-nil}
use Rattle.tl_geom.specs.declared.point.Point.{Point}
use Rattle.tl_map_county.specs.TheMap.{MapChain}
use Rattle.tl_tree_index.specs.Hits.{times}
use Rattle.tl_check_active.specs.declared.events.Event.{Event}
use Rattle.tl_check_active.specs.Gathered.{AreGathered}
use Rattle.tl_check_active.specs.Events.{AreAt, AreEvents, AreEventsRising, joined, before}
use Rattle.tl_check_planar.specs.ByHeight.Heights.{height, widest}
use Rattle.tl_check_planar.specs.ByHeight.Neighbours.{AreTested, EachTwo}
use Rattle.tl_check_faces.specs.declared.odd.OddGap.{OddGap}
use Rattle.tl_check_faces.specs.Odd.{IsOddGap}
use Rattle.tl_check_gaps.specs.declared.watch.Gaps.TheVariants.{First, All as every}
use Rattle.tl_check_gaps.specs.declared.watch.Watch.{Watch}
use Rattle.tl_check_gaps.specs.Telling.{IsToldAlong, IsKept, IsAt}
use Rattle.tl_check_gaps.specs.Keeping.Passing.{HasLooked}
use Rattle.tl_check_gaps.specs.Keeping.Swept.{IsSwept}
use Rattle.tl_check_gaps.specs.Keeping.Watched.{IsOpen, IsFirst, IsSlabTold, IsWatched, IsWatchedToEnd}
use Rattle.tl_check_active.proofs.Joining.{before_past}
use Rattle.tl_check_gaps.proofs.Slab.{list_of_slab}
use Rattle.tl_check_gaps.proofs.Gone.{reached_all, reached_by, before_or, under_here, listed_here}
use Rattle.tl_check_gaps.proofs.Whole.{nothing_along, told_up}

-- what is told of a slab stays told
pub slab_kept : (chains : List MapChain) (n : ℤ) (old new : List OddGap) → IsKept old new → IsSlabTold chains n old → IsSlabTold chains n new
slab_kept chains n old new kept slab =
    record { list = slab.list; listed = slab.listed; told = λ front back is odd. kept _ _ _ (slab.told front back is odd) }

-- where nothing is told behind what is kept, nothing was told before
none_before : (old new : List OddGap) → IsKept old new → new ≡ [] → old ≡ []
none_before [] new kept e = refl
none_before (g ∷ old) new kept e =
    let own = kept (height widest g.at) g.west g.east (0, g, omega arith, refl, (refl, refl, omega (arith, ints))) in
    let lt = own.2 in
    absurd (let none : length new ≡ 0 = ap length e in omega (arith, lt, none))

pub begun : (chains : List MapChain) (events : List Event) (list : List ℕ) (watch : Watch) → AreEvents chains events → list ≡ [] →
    watch.told.items ≡ [] → IsWatched chains events 0 list watch
begun chains events list watch are e f = record {
  true_ones = subst (All (IsOddGap widest chains)) (sym f) (All-nil (IsOddGap widest chains));
  along = λ still n reached. subst (λ l. IsToldAlong chains n l watch.told.items) (sym e) (nothing_along chains n watch.told.items);
  below = λ still n above. record {
    list = [];
    listed = list_of_slab chains events are 0 [] (λ s. refl) n (λ k lt. absurd (omega (arith, lt))) above tt;
    told = nothing_along chains n watch.told.items;
  };
  first = λ asked. subst (All (IsFirst chains)) (sym f) (All-nil (IsFirst chains));
}

module _ (chains : List MapChain) (groups : List (List Event)) (from to : ℕ) (list next outs ins : List ℕ) (are : AreEvents chains (joined groups))
    (rising : AreEventsRising (joined groups)) (swept : IsSwept chains (joined groups) (before from groups) list)
    (gathered : AreGathered groups from to outs ins) (moved : (s : ℕ) → times s next + times s outs ≡ times s list + times s ins)
    (tested : EachTwo (AreTested widest chains) next) (p : Point) (here : (e : List Event) → AreAt p (get_or groups from e))
    (gaps : Option ℕ) (old new : Watch) (under : IsWatched chains (joined groups) (before from groups) list old)
    (looked : HasLooked chains p list next gaps old new) where
  was_open : IsOpen new → IsOpen old
  was_open =
      ⊎_elim (λ all. inl (sym looked.asked ∙ all)) (λ none. inr (none_before old.told.items new.told.items looked.kept none))

  along : IsOpen old → (n : ℤ) → height widest p ≤ℤ n → IsToldAlong chains n next new.told.items
  along still n le =
      told_up chains (height widest p) n next new.told.items le (looked.told still (under.along still (height widest p)
      (λ k d lt inside. reached_all chains groups from to list next outs ins are rising swept gathered moved tested p here (height widest p)
      (omega (arith, ints)) k d (let all = earlier in omega (arith, lt, all)) inside)))
    where
      earlier : before from groups < before to groups
      earlier = let past = gathered.past in before_past from to groups (omega (arith, past)) gathered.some

  -- the first that are told are of the slab above the point, and below it nothing was to be told; behind them no more are
  first : old.asked ≡ First → (were : List OddGap) → old.told.items ≡ were → All (IsFirst chains) new.told.items
  first only [] none = λ k d lt n below.
      let is : IsAt p (get_or new.told.items k d) = looked.here (subst (All (IsAt p)) (sym none) (All-nil (IsAt p))) k d lt in
      subst (IsSlabTold chains n) none
      (under.below (inr none) n
      (under_here chains groups from to list next outs ins are rising swept gathered moved tested p here n (subst (λ q. n <ℤ height widest q) is below)))
  first only (gap ∷ more) some =
      subst (All (IsFirst chains)) (sym (looked.closed (⊎_elim
      (λ all. absurd (let e : First ≡ every = sym only ∙ all in cc))
      (λ none. absurd (let e : gap ∷ more ≡ [] = sym some ∙ none in cc)))))
      (under.first only)

  pub goes_on : IsWatched chains (joined groups) (before to groups) next new
  goes_on = record {
    true_ones =
        looked.true_ones (listed_here chains groups from to list next outs ins are rising swept gathered moved tested p here) under.true_ones;
    along = λ still n reached.
        along (was_open still) n
        (reached_by chains groups from to list next outs ins are rising swept gathered moved tested p here n reached);
    below = λ still n above.
        before_or chains groups from to list next outs ins are rising swept gathered moved tested p here n above
        (λ under_it.
        slab_kept chains n old.told.items new.told.items looked.kept (under.below (was_open still) n under_it))
        (λ le listed. record { list = next; listed = listed; told = along (was_open still) n le });
    first = λ only. first (sym looked.asked ∙ only) old.told.items refl;
  }

pub ended : (chains : List MapChain) (events : List Event) (from : ℕ) (list : List ℕ) (watch : Watch) → length events ≤ from →
    IsWatched chains events from list watch → IsWatchedToEnd chains watch
ended chains events from list watch all under = record {
  true_ones = under.true_ones;
  slabs = λ still n. under.below still n (λ k d le lt. absurd (omega (arith, all, le, lt)));
  first = under.first;
}
