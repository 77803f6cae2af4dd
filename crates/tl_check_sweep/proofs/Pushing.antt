-- Events in order, with those of one place more.
use Rattle.std.proofs.Common.{◌≡◌, inl, inr, ℕ, ◌+◌, ◌-◌, ◌<◌, ◌≤◌, Option, None, Some, List, [], ◌∷◌, ◌++◌, pos, ◌+ℤ◌, ◌≤ℤ◌, length, take, drop, get_or, length-append, refl, sym, ap, subst, ◌∙◌, arith}
use Rattle.std.proofs.lemmas.Bool.{cases_lt}
use Rattle.std.proofs.lemmas.Int.{ints}
use Rattle.std.proofs.lemmas.List.{append_assoc, get_or_append_left, get_or-append-add, get_or_push, length_push}
use Rattle.tl_map_county.specs.TheMap.{MapChain}
use Rattle.tl_check_active.specs.declared.events.Event.{Event}
use Rattle.tl_geom.specs.declared.point.Point.{Point}
use Rattle.tl_check_planar.specs.ByHeight.Heights.{height, widest}
use Rattle.tl_check_active.specs.Events.{AreAt, AreMet, AreEventsRising, before, joined, one_or_two}
use Rattle.tl_check_active.proofs.Joining.{before_further, before_within, first_there, whole}
use Rattle.tl_check_gaps.specs.Keeping.Vertices.{IsLast, AreInOrder, AreInOrderUpTo}
use Rattle.tl_check_active.specs.Vertices.{MayMeet}

module _ (chains : List MapChain) where
  -- events that are all in order
  abbrev AreOrdered : List Event → Type 0
  AreOrdered events = AreInOrderUpTo chains (length events) events

  pushed : (events : List Event) (e f : Event) → AreOrdered events → IsLast e events → AreInOrder chains e f → AreOrdered (events ++ f ∷ [])
  pushed events e f order last next k d lt =
      let long = length_push events f in
      elim (cases_lt (k + 1) (length events)) [
        | inl earlier ↦
            subst (λ x. AreInOrder chains x (get_or (events ++ f ∷ []) (k + 1) d)) (sym (get_or_append_left events (f ∷ []) d k (omega (arith, earlier))))
            (subst (λ x. AreInOrder chains (get_or events k d) x) (sym (get_or_append_left events (f ∷ []) d (k + 1) earlier)) (order k d earlier))
        | inr late ↦
            let here : length events ≡ k + 1 = omega (arith, late, lt, long) in
            let at : length events - 1 ≡ k = omega (arith, here) in
            subst (λ x. AreInOrder chains x (get_or (events ++ f ∷ []) (k + 1) d)) (last.is d ∙ ap (λ n. get_or events n d) at ∙ sym (get_or_append_left events (f ∷ []) d k (omega (arith, here))))
            (subst (λ x. AreInOrder chains e x) (sym (get_or_push events f d (k + 1) here)) next)
      ]

  last_pushed : (events : List Event) (f : Event) → IsLast f (events ++ f ∷ [])
  last_pushed events f = record {
    some = omega (arith, length_push events f);
    is = λ d. let at : length events ≡ length (events ++ f ∷ []) - 1 = omega (arith, length_push events f) in sym (get_or_push events f d (length (events ++ f ∷ []) - 1) at);
  }

  -- two events of one height that may meet are in order
  level : (e f : Event) → e.height ≡ f.height → MayMeet chains e f → AreInOrder chains e f
  level e f same meets = record { rising = omega (arith, ints, same); meets = λ h. meets }

  -- those of one place more
  pub pushed_all : (events : List Event) (before e : Event) (next : Option Event) → AreOrdered events → IsLast before events → AreInOrder chains before e →
      AreMet chains (one_or_two e next) → ((f : Event) → next ≡ Some f → e.height ≡ f.height) → AreOrdered (events ++ one_or_two e next)
  pushed_all events before e None order last first met same = pushed events before e order last first
  pushed_all events before e (Some f) order last first met same =
      subst AreOrdered (append_assoc events (e ∷ []) (f ∷ []))
      (pushed (events ++ e ∷ []) e f (pushed events before e order last first) (last_pushed events e) (level e f (same f refl) (met e f refl)))

  pub first_all : (e : Event) (next : Option Event) → AreMet chains (one_or_two e next) → ((f : Event) → next ≡ Some f → e.height ≡ f.height) → AreOrdered (one_or_two e next)
  first_all e None met same = λ k d lt. absurd (omega (arith, lt))
  first_all e (Some f) met same = pushed (e ∷ []) e f (λ k d lt. absurd (omega (arith, lt))) (last_pushed [] e) (level e f (same f refl) (met e f refl))

-- the last of those that come behind others is the last of all
pub last_behind : (events more : List Event) (e : Event) → IsLast e more → IsLast e (events ++ more)
last_behind events more e last =
    let long = length-append events more in
    record {
      some = let some = last.some in omega (arith, long, some);
      is = λ d.
          let at : length events + (length more - 1) ≡ length (events ++ more) - 1 = let some = last.some in omega (arith, long, some) in
          last.is d ∙ sym (get_or-append-add events more (length more - 1) d) ∙ ap (λ n. get_or (events ++ more) n d) at;
    }

-- ---- where events stand among all

-- the last of those before a place
pub last_placed : (gs : List (List Event)) (k : ℕ) (last : Event) → IsLast last (joined (take k gs)) → (d : Event) →
    (n : ℕ) × (n < length (joined gs)) × (get_or (joined gs) n d ≡ last) × (n ≤ before k gs)
last_placed gs k last is d =
    let some = is.some in
    let within = before_within k gs in (
      before k gs - 1,
      omega (arith, some, within),
      ap (λ l. get_or l (before k gs - 1) d) (whole k gs) ∙ get_or_append_left (joined (take k gs)) (joined (drop k gs)) d (before k gs - 1) (omega (arith, some)) ∙ sym (is.is d),
      omega arith,
    )

-- the first of those at a place
pub next_placed : (gs : List (List Event)) (k : ℕ) (e : Event) (next : Option Event) → k < length gs → get_or gs k [] ≡ one_or_two e next → (d : Event) →
    (before k gs < length (joined gs)) × (get_or (joined gs) (before k gs) d ≡ e)
next_placed gs k e next lt is d =
    let some : 0 < length (get_or gs k []) = rw is (has_one next) in
    let long = ap length (whole (k + 1) gs) in
    let more = ap length (before_further gs k [] lt) in
    let sum = length-append (joined (take k gs)) (get_or gs k []) in
    let all = length-append (joined (take (k + 1) gs)) (joined (drop (k + 1) gs)) in
    (omega (arith, some, long, more, sum, all), first_there k gs d lt some ∙ ap (λ l. get_or l 0 d) is ∙ first_is next)
  where
    has_one : (next : Option Event) → 0 < length (one_or_two e next)
    has_one None = omega arith
    has_one (Some f) = omega arith

    first_is : (next : Option Event) → get_or (one_or_two e next) 0 d ≡ e
    first_is None = refl
    first_is (Some f) = refl

-- the last of the events at the place before is the last of all before
pub last_before_place : (gs : List (List Event)) (k : ℕ) (last : Event) → 0 < k → k < length gs → IsLast last (get_or gs (k - 1) []) →
    IsLast last (joined (take k gs))
last_before_place gs k last some lt is =
    let next : k - 1 + 1 ≡ k = omega (arith, some) in
    let parts : joined (take k gs) ≡ joined (take (k - 1) gs) ++ get_or gs (k - 1) [] =
    ap (λ n. joined (take n gs)) (sym next) ∙ before_further gs (k - 1) [] (omega (arith, some, lt)) in
    subst (IsLast last) (sym parts) (last_behind (joined (take (k - 1) gs)) (get_or gs (k - 1) []) last is)

-- the heights of the last of the events at a point, and of the first
pub last_level : (p : Point) (events : List Event) (e : Event) → AreAt p events → IsLast e events → e.height ≡ height widest p +ℤ pos 2147483647
last_level p events e at last =
    ap (λ (v : Event). v.height) (last.is e) ∙ at.level (length events - 1) e (let some = last.some in omega (arith, some))

pub first_level : (p : Point) (e : Event) (next : Option Event) → AreAt p (one_or_two e next) → e.height ≡ height widest p +ℤ pos 2147483647
first_level p e None at = at.level 0 e (omega arith)
first_level p e (Some f) at = at.level 0 e (omega arith)

-- events are in order that rise, at heights that differ
pub in_order_apart : (chains : List MapChain) (e f : Event) → e.height ≤ℤ f.height → ¬ (e.height ≡ f.height) → AreInOrder chains e f
in_order_apart chains e f up apart = record { rising = up; meets = λ same. absurd (apart same) }

-- the first event at a place isn't lower than the last one before it
pub rises_before : (gs : List (List Event)) (k : ℕ) (last first : Event) (second : Option Event) → 0 < k → k < length gs → AreEventsRising (joined gs) →
    IsLast last (get_or gs (k - 1) []) → get_or gs k [] ≡ one_or_two first second → (d : Event) → last.height ≤ℤ first.height
rises_before gs k last first second some lt rising is are d =
    let one = last_placed gs k last (last_before_place gs k last some lt is) d in
    let other = next_placed gs k first second lt are d in
    let up = rising one.0 (before k gs) d one.3 other.0 in
    let low = ap (λ (e : Event). e.height) one.2 in
    let high = ap (λ (e : Event). e.height) other.1 in
    omega (arith, ints, up, low, high)
