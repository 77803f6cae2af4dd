-- Events that rise from place to place.
use Rattle.std.proofs.Common.{◌≡◌, inl, inr, ℕ, ◌+◌, ◌-◌, ◌<◌, ◌≤◌, pos, ◌+ℤ◌, ◌≤ℤ◌, List, [], ◌++◌, length, take, get_or, All, sym, ap, subst, ◌∙◌, length-append, arith}
use Rattle.std.proofs.lemmas.Bool.{cases_lt}
use Rattle.std.proofs.lemmas.Int.{ints}
use Rattle.std.proofs.lemmas.List.{get_or_append_left}
use Rattle.std.proofs.Math.Seq.{get_or-append_right}
use Rattle.tl_geom.specs.declared.point.Point.{Point}
use Rattle.tl_check_planar.specs.ByHeight.Heights.{height, widest}
use Rattle.tl_check_active.specs.declared.events.Event.{Event}
use Rattle.tl_check_active.specs.Events.{joined, AreEventsRising, AreAt}
use Rattle.tl_check_active.proofs.Joining.{before_further, none_joined}

-- events rise, and none is higher than the point
pub record AreRisingTo (p : Point) (events : List Event) : Type 0 where
  pub rising : AreEventsRising events
  pub below : All (λ e. e.height ≤ℤ (height widest p +ℤ pos 2147483647)) events

-- ---- some events at the height of a point, behind others that are no higher

module _ (xs ys : List Event) (p q : Point) (before : AreRisingTo p xs) (here : AreAt q ys) (no_lower : height widest p ≤ℤ height widest q) where
  in_front : (k : ℕ) (d : Event) → k < length xs → (get_or (xs ++ ys) k d).height ≤ℤ (height widest q +ℤ pos 2147483647)
  in_front k d lt =
      let at = ap (λ (e : Event). e.height) (get_or_append_left xs ys d k lt) in
      let low = before.below k d lt in
      omega (arith, ints, at, low, no_lower)

  behind : (k : ℕ) (d : Event) → length xs ≤ k → k < length (xs ++ ys) → (get_or (xs ++ ys) k d).height ≡ height widest q +ℤ pos 2147483647
  behind k d le lt =
      let long = length-append xs ys in
      ap (λ (e : Event). e.height) (get_or-append_right xs ys k d le) ∙ here.level (k - length xs) d (omega (arith, le, lt, long))

  pub rising_behind : AreRisingTo q (xs ++ ys)
  rising_behind = record {
    rising = λ k l d le lt. elim (cases_lt l (length xs)) [
      | inl front ↦
          let a = ap (λ (e : Event). e.height) (get_or_append_left xs ys d k (omega (arith, le, front))) in
          let b = ap (λ (e : Event). e.height) (get_or_append_left xs ys d l front) in
          let low = before.rising k l d le front in
          omega (arith, ints, a, b, low)
      | inr back ↦
          let b = behind l d back lt in
          elim (cases_lt k (length xs)) [
            | inl front ↦ let a = in_front k d front in omega (arith, ints, a, b)
            | inr late ↦ let a = behind k d late (omega (arith, le, lt)) in omega (arith, ints, a, b)
          ]
    ];
    below = λ k d lt. elim (cases_lt k (length xs)) [
      | inl front ↦ in_front k d front
      | inr back ↦ let b = behind k d back lt in omega (arith, ints, b)
    ];
  }

-- ---- the events at places

pub none_rising : (events : List (List Event)) → length events ≡ 0 → AreEventsRising (joined events)
none_rising events none k l d le lt = absurd (let e = ap length (none_joined events none) in omega (arith, lt, e))

nothing_rises : (p : Point) → AreRisingTo p []
nothing_rises p = record { rising = λ k l d le lt. absurd (omega (arith, lt)); below = λ k d lt. absurd (omega (arith, lt)) }

pub first_rising : (events : List (List Event)) (p : Point) → 0 < length events → ((d : List Event) → AreAt p (get_or events 0 d)) →
    AreRisingTo p (joined (take 1 events))
first_rising events p some here =
    subst (AreRisingTo p) (sym (before_further events 0 [] some)) (rising_behind [] (get_or events 0 []) p p (nothing_rises p) (here []) (omega (arith, ints)))

pub one_rising : (events : List (List Event)) (k : ℕ) (p q : Point) → k < length events → AreRisingTo p (joined (take k events)) →
    ((d : List Event) → AreAt q (get_or events k d)) → height widest p ≤ℤ height widest q → AreRisingTo q (joined (take (k + 1) events))
one_rising events k p q lt before here no_lower =
    subst (AreRisingTo q) (sym (before_further events k [] lt)) (rising_behind (joined (take k events)) (get_or events k []) p q before (here []) no_lower)
