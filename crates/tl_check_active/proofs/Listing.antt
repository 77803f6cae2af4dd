-- The events of segments.
use Rattle.std.proofs.Common.{◌≡◌, ℕ, ◌+◌, ◌==◌, Bool, true, false, not, ◌&&◌, if◌then◌else◌, ℤ, pos, ◌+ℤ◌, List, [], ◌∷◌, ◌++◌, count_by, refl, sym, ap, ◌∙◌, arith}
use Rattle.std.specs.Prelude.{int_lt}
use Rattle.std.proofs.lemmas.Bool.Decides.{nat_tests}
use Rattle.std.proofs.lemmas.List.Elements.{All-nil, All-push}
use Rattle.std.proofs.lemmas.List.Sums.{sum_by-cons, sum_by-append}
use Rattle.tl_geom.specs.declared.segment.Segment.{Segment}
use Rattle.tl_map_county.specs.TheMap.{MapChain}
use Rattle.tl_map_county.specs.Segments.{IsSegmentOf, Joins}
use Rattle.tl_tree_index.proofs.Times.{same_or}
use Rattle.tl_check_active.specs.declared.events.Event.{Event}
use Rattle.tl_check_planar.specs.ByHeight.Heights.{height, widest}
use Rattle.tl_check_planar.specs.ByHeight.Neighbours.{IsNumbered}
use Rattle.tl_check_active.proofs.Bits.{bit}
use Rattle.tl_check_active.specs.Events.{IsEvent, begins_at, ends_at, AreEventsOf}

-- ---- a segment of a map

-- what is told of a segment by its number
pub own : (chains : List MapChain) (s : ℕ) (segment : Segment) → (c : ℕ) × (k : ℕ) × IsSegmentOf chains s c k × Joins chains c k segment → IsNumbered chains s segment
own chains s segment told = record { c = told.0; k = told.1; number = told.2; joins = told.3 }

-- ---- an event

module _ (chains : List MapChain) (s : ℕ) (segment : Segment) (is : IsNumbered chains s segment) (h : ℤ) where
  pub event_one : (t : Bool) → h ≡ height widest segment.a +ℤ pos 2147483647 → t ≡ int_lt (height widest segment.a) (height widest segment.b) → IsEvent chains (record { height = h; segment = s; begins = t; first = true })
  event_one t at up = record {
    segment = segment;
    is = is;
    height_is = at;
    low = λ e. ap (λ (x : Bool). if x then segment.a else segment.b) (sym e ∙ up);
    high = λ e. ap (λ (x : Bool). if x then segment.b else segment.a) (sym e ∙ up);
  }

  pub event_other : (t : Bool) → h ≡ height widest segment.b +ℤ pos 2147483647 → t ≡ int_lt (height widest segment.a) (height widest segment.b) → IsEvent chains (record { height = h; segment = s; begins = not t; first = false })
  event_other t at up = record {
    segment = segment;
    is = is;
    height_is = at;
    low = λ e. ap (λ (x : Bool). if x then segment.a else segment.b) (falls t e ∙ up);
    high = λ e. ap (λ (x : Bool). if x then segment.b else segment.a) (rises t e ∙ up);
  }
    where
      falls : (t : Bool) → not t ≡ true → false ≡ t
      falls true e = absurd (cc)
      falls false e = refl

      rises : (t : Bool) → not t ≡ false → true ≡ t
      rises true e = refl
      rises false e = absurd (cc)

-- ---- two more

same_number : (x : Bool) (s t : ℕ) → s ≡ t → bit (x && (s == t)) ≡ bit x
same_number x s t e = grind (arith, nat_tests)

other_number : (x : Bool) (s t : ℕ) → ¬ (s ≡ t) → bit (x && (s == t)) ≡ 0
other_number x s t ne = grind (arith, nat_tests)

both : (f : Event → Bool) (events : List Event) (a b : Event) → count_by f ((events ++ a ∷ []) ++ b ∷ []) ≡ count_by f events + (bit (f a) + bit (f b))
both f events a b =
    let one = sum_by-append (λ (e : Event). bit (f e)) (events ++ a ∷ []) (b ∷ []) in
    let two = sum_by-append (λ (e : Event). bit (f e)) events (a ∷ []) in
    let last = sum_by-cons (λ (e : Event). bit (f e)) b [] in
    let first = sum_by-cons (λ (e : Event). bit (f e)) a [] in
    omega (arith, one, two, last, first)

either : (x y : Bool) → y ≡ not x → bit x + bit y ≡ 1
either true y e = rw e refl
either false y e = rw e refl

opposite : (x y : Bool) → y ≡ not x → not y ≡ x
opposite true y e = rw e refl
opposite false y e = rw e refl

module _ (chains : List MapChain) (n : ℕ) (events : List Event) (a b : Event) (is_a : a.segment ≡ n) (is_b : b.segment ≡ n) (ways : b.begins ≡ not a.begins) where
  begun_more : (s : ℕ) → s ≡ n → count_by (begins_at s) events ≡ 0 → count_by (begins_at s) ((events ++ a ∷ []) ++ b ∷ []) ≡ 1
  begun_more s e none =
      let sum = both (begins_at s) events a b in
      let first = same_number a.begins a.segment s (is_a ∙ sym e) in
      let last = same_number b.begins b.segment s (is_b ∙ sym e) in
      let one = either a.begins b.begins ways in
      omega (arith, sum, first, last, one, none)

  ended_more : (s : ℕ) → s ≡ n → count_by (ends_at s) events ≡ 0 → count_by (ends_at s) ((events ++ a ∷ []) ++ b ∷ []) ≡ 1
  ended_more s e none =
      let sum = both (ends_at s) events a b in
      let first = same_number (not a.begins) a.segment s (is_a ∙ sym e) in
      let last = same_number (not b.begins) b.segment s (is_b ∙ sym e) in
      let one = either (not a.begins) (not b.begins) (ap not ways) in
      omega (arith, sum, first, last, one, none)

  begun_same : (s : ℕ) → ¬ (s ≡ n) → count_by (begins_at s) ((events ++ a ∷ []) ++ b ∷ []) ≡ count_by (begins_at s) events
  begun_same s ne =
      let sum = both (begins_at s) events a b in
      let first = other_number a.begins a.segment s (λ e. ne (sym e ∙ is_a)) in
      let last = other_number b.begins b.segment s (λ e. ne (sym e ∙ is_b)) in
      omega (arith, sum, first, last)

  ended_same : (s : ℕ) → ¬ (s ≡ n) → count_by (ends_at s) ((events ++ a ∷ []) ++ b ∷ []) ≡ count_by (ends_at s) events
  ended_same s ne =
      let sum = both (ends_at s) events a b in
      let first = other_number (not a.begins) a.segment s (λ e. ne (sym e ∙ is_a)) in
      let last = other_number (not b.begins) b.segment s (λ e. ne (sym e ∙ is_b)) in
      omega (arith, sum, first, last)

  pub events_more : IsEvent chains a → IsEvent chains b → AreEventsOf chains n events → AreEventsOf chains (n + 1) ((events ++ a ∷ []) ++ b ∷ [])
  events_more tell_a tell_b are = record {
    each = All-push (IsEvent chains) (events ++ a ∷ []) b (All-push (IsEvent chains) events a are.each tell_a) tell_b;
    begun = λ s lt. same_or s n (λ e. begun_more s e (are.no_more s (omega (arith, e))).0) (λ ne. begun_same s ne ∙ are.begun s (omega (arith, lt, ne)));
    ended = λ s lt. same_or s n (λ e. ended_more s e (are.no_more s (omega (arith, e))).1) (λ ne. ended_same s ne ∙ are.ended s (omega (arith, lt, ne)));
    no_more = λ s le.
        let ne : ¬ (s ≡ n) = λ e. omega (arith, e, le) in
        (begun_same s ne ∙ (are.no_more s (omega (arith, le))).0, ended_same s ne ∙ (are.no_more s (omega (arith, le))).1);
  }

-- of no segment there is none
pub no_events : (chains : List MapChain) → AreEventsOf chains 0 []
no_events chains = record {
  each = All-nil (IsEvent chains);
  begun = λ s lt. absurd (omega (arith, lt));
  ended = λ s lt. absurd (omega (arith, lt));
  no_more = λ s le. (refl, refl);
}
