-- Ends of segments as they are kept, and the events that they are.
use Rattle.std.proofs.Common.{◌≡◌, ℕ, ◌+◌, ◌<◌, Bool, true, false, List, [], ◌∷◌, ◌++◌, length, All, refl, sym, ap, subst, ◌∙◌, arith}
use Rattle.std.proofs.lemmas.List.{append_assoc, map_push}
use Rattle.std.proofs.lemmas.List.Elements.{All-push, All-same, All-nil}
use Rattle.tl_geom.specs.declared.segment.Segment.{Segment}
use Rattle.tl_map_county.specs.TheMap.{MapChain}
use Rattle.tl_map_county.specs.Segments.{segments_before}
use Rattle.tl_tree_index.proofs.Times.{same_or}
use Rattle.tl_check_planar.proofs.Numbering.{below_total, HaveSameEnds}
use Rattle.tl_check_active.specs.declared.events.End.{End}
use Rattle.tl_check_active.specs.declared.events.Event.{Event}
use Rattle.tl_check_planar.specs.ByHeight.Neighbours.{IsNumbered}
use Rattle.tl_check_active.specs.Keeping.Ended.{event_by, events_at, events_in, AreListed, IsNextAlong}
use Rattle.tl_check_active.specs.Events.{AreMet, AreEventsOf, joined}
use Rattle.tl_check_active.specs.Ranges.{IsInRange}
use Rattle.tl_check_planar.proofs.ByHeight.Numbered.{one_segment}
use Rattle.tl_check_active.proofs.Joining.{joined-push}
use Rattle.tl_check_active.proofs.Listing.{event_one, event_other, events_more}
use Rattle.tl_check_active.proofs.Meeting.{one_after}

-- one event is no two
met_alone : (chains : List MapChain) (x : Event) (events : List Event) → events ≡ x ∷ [] → AreMet chains events
met_alone chains x events one e f two = absurd (let same : x ∷ [] ≡ e ∷ f ∷ [] = sym one ∙ two in cc)

met_two : (chains : List MapChain) (x y : Event) (events : List Event) → events ≡ x ∷ y ∷ [] → AreMet chains (x ∷ y ∷ []) → AreMet chains events
met_two chains x y events are met e f two = met e f (sym are ∙ two)

module _ (chains : List MapChain) (n : ℕ) (u : Segment) (is : IsNumbered chains n u) (ends : List End) (x : End) where
  more : events_in (ends ++ x ∷ []) ≡ events_in ends ++ events_at x ∷ []
  more = map_push events_at ends x

  kept : (events : List Event) → events_at x ≡ events → joined (events_in (ends ++ x ∷ [])) ≡ joined (events_in ends) ++ events
  kept events at = ap joined more ∙ joined-push (events_in ends) (events_at x) ∙ ap (λ l. joined (events_in ends) ++ l) at

  met_more : All (AreMet chains) (events_in ends) → AreMet chains (events_at x) → All (AreMet chains) (events_in (ends ++ x ∷ []))
  met_more met one = All-same (AreMet chains) _ _ more (All-push (AreMet chains) (events_in ends) (events_at x) met one)

  -- the first end of a segment is listed
  pub begun : events_at x ≡ event_by n true u ∷ [] → AreListed chains n false ends → AreListed chains n true (ends ++ x ∷ [])
  begun at before = record {
    events = before.events;
    are = before.are;
    listed = (u, is, kept (event_by n true u ∷ []) at ∙ ap (λ l. l ++ event_by n true u ∷ []) before.listed);
    ranges = before.ranges;
    met = met_more before.met (met_alone chains (event_by n true u) (events_at x) at);
  }

  -- the events of the segment, where its first end is listed
  both : (before : AreListed chains n true ends) → AreEventsOf chains (n + 1) ((before.events ++ event_by n true u ∷ []) ++ event_by n false u ∷ [])
  both before =
      events_more chains n before.events (event_by n true u) (event_by n false u) refl refl refl
      (event_one chains n u is _ _ refl refl) (event_other chains n u is _ _ refl refl) before.are

  first_of : (before : AreListed chains n true ends) → joined (events_in ends) ≡ before.events ++ event_by n true u ∷ []
  first_of before =
      let v : Segment = before.listed.0 in
      let same : HaveSameEnds before.listed.0 u = one_segment chains n before.listed.0 u before.listed.1 is in
      let one : event_by n true before.listed.0 ≡ event_by n true u = event_same before.listed.0 u same in
      before.listed.2 ∙ ap (λ e. before.events ++ e ∷ []) one
    where
      event_same : (v w : Segment) → HaveSameEnds v w → event_by n true v ≡ event_by n true w
      event_same v w same = rw (same.first, same.last) refl

  ranges_more : IsInRange u.a × IsInRange u.b → ((s : ℕ) (v : Segment) → s < n → IsNumbered chains s v → IsInRange v.a × IsInRange v.b) →
      (s : ℕ) (v : Segment) → s < n + 1 → IsNumbered chains s v → IsInRange v.a × IsInRange v.b
  ranges_more own before s v lt number = same_or s n
      (λ e.
      let same : HaveSameEnds u v = one_segment chains n u v is (subst (λ k. IsNumbered chains k v) e number) in
      (subst IsInRange same.first own.0, subst IsInRange same.last own.1))
      (λ ne. before s v (omega (arith, lt, ne)) number)

  -- its last end is listed
  pub ended : events_at x ≡ event_by n false u ∷ [] → IsInRange u.a × IsInRange u.b → AreListed chains n true ends → AreListed chains (n + 1) false (ends ++ x ∷ [])
  ended at own before = record {
    events = (before.events ++ event_by n true u ∷ []) ++ event_by n false u ∷ [];
    are = both before;
    listed = kept (event_by n false u ∷ []) at ∙ ap (λ l. l ++ event_by n false u ∷ []) (first_of before);
    ranges = ranges_more own before.ranges;
    met = met_more before.met (met_alone chains (event_by n false u) (events_at x) at);
  }

  -- and the first end of the next one with it
  pub bent : (next : Segment) → IsNextAlong chains n u next → events_at x ≡ event_by n false u ∷ event_by (n + 1) true next ∷ [] → IsInRange u.a × IsInRange u.b → AreListed chains n true ends → AreListed chains (n + 1) true (ends ++ x ∷ [])
  bent next along at own before = record {
    events = (before.events ++ event_by n true u ∷ []) ++ event_by n false u ∷ [];
    are = both before;
    listed = (
      next,
      along.is,
      kept (event_by n false u ∷ event_by (n + 1) true next ∷ []) at
          ∙ ap (λ l. l ++ event_by n false u ∷ event_by (n + 1) true next ∷ []) (first_of before)
          ∙ sym (append_assoc (before.events ++ event_by n true u ∷ []) (event_by n false u ∷ []) (event_by (n + 1) true next ∷ [])),
    );
    ranges = ranges_more own before.ranges;
    met = met_more before.met (met_two chains (event_by n false u) (event_by (n + 1) true next) (events_at x) at meets);
  }
    where
      meets : AreMet chains (event_by n false u ∷ event_by (n + 1) true next ∷ [])
      meets e f two =
          let one : event_by n false u ≡ e = cc in
          let other : event_by (n + 1) true next ≡ f = cc in
          rw (← one, ← other) (one_after chains (event_by n false u) (event_by (n + 1) true next) along.c refl refl refl along.one along.other)

-- none is listed
pub none_listed : (chains : List MapChain) (ends : List End) → ends ≡ [] → AreEventsOf chains 0 [] → AreListed chains 0 false ends
none_listed chains ends none are = rw none (record {
  events = [];
  are = are;
  listed = refl;
  ranges = λ s u lt. absurd (omega (arith, lt));
  met = All-nil (AreMet chains);
})

-- all are listed: the first end of a segment behind the last one can't be
pub all_listed : (chains : List MapChain) (n : ℕ) (begun : Bool) (ends : List End) → n ≡ segments_before chains (length chains) → AreListed chains n begun ends → AreEventsOf chains n (joined (events_in ends))
all_listed chains n true ends all listed = absurd (let is : IsNumbered chains n listed.listed.0 = listed.listed.1 in let lt = below_total chains n is.c is.k is.number in omega (arith, lt, all))
all_listed chains n false ends all listed = subst (AreEventsOf chains n) (sym listed.listed) listed.are
