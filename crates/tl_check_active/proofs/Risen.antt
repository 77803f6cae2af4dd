-- Where ends stand by height, the events there rise.
use Rattle.std.proofs.Common.{◌≡◌, inl, inr, ℕ, suc, ◌+◌, ◌-◌, ◌<◌, ◌≤◌, ◌==◌, ◌/◌, ◌%◌, ℤ, pos, ◌+ℤ◌, ◌≤ℤ◌, ◌<ℤ◌, Bool, true, false, if◌then◌else◌, List, [], ◌∷◌, ◌++◌, length, get_or, All, length-append, refl, sym, ap, subst, ◌∙◌, arith}
use Rattle.std.specs.Ordering.{int_cmp, is_lt, MatchOrdering}
use Rattle.std.specs.declared.cmp.Ordering.{Ordering}
use Rattle.std.specs.declared.cmp.Ordering.TheVariants.{Less, Equal, Greater}
use Rattle.std.proofs.lemmas.Bool.{cases_lt, true≢false}
use Rattle.std.proofs.lemmas.Cmp.{int_ranked}
use Rattle.std.proofs.lemmas.Int.{ints}
use Rattle.std.proofs.lemmas.List.{get_or_append_left, get_or-append-add}
use Rattle.std.proofs.lemmas.List.Elements.{All-nil, All-cons, All-append}
use Rattle.tl_check_planar.specs.ByHeight.Heights.{height, widest}
use Rattle.tl_check_active.specs.declared.events.End.{End}
use Rattle.tl_check_active.specs.declared.events.Event.{Event}
use Rattle.tl_check_active.specs.Events.{AreEventsRising, joined}
use Rattle.tl_check_active.specs.Keeping.Ended.{event_at, next_at, events_at, events_in, AreEndsRising}

-- the height of the events at an end
abbrev level : End → ℤ
level e = height widest e.point +ℤ pos 2147483647

all_level : (e : End) → All (λ (v : Event). v.height ≡ level e) (events_at e)
all_level e = by (e.number / 8 % 2 == 1)
  where
    by : (bend : Bool) → All (λ (v : Event). v.height ≡ level e) (if bend then event_at e ∷ next_at e ∷ [] else event_at e ∷ [])
    by true = All-cons (λ (v : Event). v.height ≡ level e) (event_at e) (next_at e ∷ []) refl
        (All-cons (λ (v : Event). v.height ≡ level e) (next_at e) [] refl (All-nil (λ (v : Event). v.height ≡ level e)))
    by false = All-cons (λ (v : Event). v.height ≡ level e) (event_at e) [] refl (All-nil (λ (v : Event). v.height ≡ level e))

-- ---- behind others

behind : (e f : End) (ends : List End) → AreEndsRising (e ∷ f ∷ ends) → height widest e.point ≤ℤ height widest f.point
behind e f ends rising = rising 0 e (omega arith)

rest : (e : End) (ends : List End) → AreEndsRising (e ∷ ends) → AreEndsRising ends
rest e ends rising k d lt =
    subst (λ n. height widest (get_or ends k d).point ≤ℤ height widest (get_or (e ∷ ends) n d).point) (let is : suc k + 1 ≡ suc (k + 1) = omega arith in is)
    (rising (suc k) d (omega (arith, lt)))

-- all that stands behind an end is as high at least
all_above : (h : ℤ) (ends : List End) → ((e : End) (more : List End) → ends ≡ e ∷ more → h ≤ℤ level e) → AreEndsRising ends →
    All (λ (v : Event). h ≤ℤ v.height) (joined (events_in ends))
all_above h [] first rising = All-nil (λ (v : Event). h ≤ℤ v.height)
all_above h (e ∷ ends) first rising =
    let low = first e ends refl in
    All-append (λ (v : Event). h ≤ℤ v.height) (events_at e) (joined (events_in ends))
    (λ k d lt. let here = all_level e k d lt in omega (arith, ints, low, here))
    (all_above h ends (λ f more is. next f more is) (rest e ends rising))
  where
    next : (f : End) (more : List End) → ends ≡ f ∷ more → h ≤ℤ level f
    next f more is =
        let low = first e ends refl in
        let up = behind e f more (subst (λ l. AreEndsRising (e ∷ l)) is rising) in
        omega (arith, ints, low, up)

-- ---- one list behind another

risen : (h : ℤ) (xs ys : List Event) → All (λ (v : Event). v.height ≡ h) xs → All (λ (v : Event). h ≤ℤ v.height) ys → AreEventsRising ys → AreEventsRising (xs ++ ys)
risen h xs ys level above rising k l d le lt =
    let long = length-append xs ys in
    elim (cases_lt l (length xs)) [
      | inl early ↦
          let one = ap (λ (v : Event). v.height) (get_or_append_left xs ys d k (omega (arith, le, early))) ∙ level k d (omega (arith, le, early)) in
          let other = ap (λ (v : Event). v.height) (get_or_append_left xs ys d l early) ∙ level l d early in
          omega (arith, ints, one, other)
      | inr late ↦
          let at : length xs + (l - length xs) ≡ l = omega (arith, late) in
          let other : (get_or (xs ++ ys) l d).height ≡ (get_or ys (l - length xs) d).height =
          ap (λ n. (get_or (xs ++ ys) n d).height) (sym at) ∙ ap (λ (v : Event). v.height) (get_or-append-add xs ys (l - length xs) d) in
          elim (cases_lt k (length xs)) [
            | inl early ↦
                let one = ap (λ (v : Event). v.height) (get_or_append_left xs ys d k early) ∙ level k d early in
                let up = above (l - length xs) d (omega (arith, late, lt, long)) in
                omega (arith, ints, one, other, up)
            | inr late' ↦
                let at' : length xs + (k - length xs) ≡ k = omega (arith, late') in
                let one : (get_or (xs ++ ys) k d).height ≡ (get_or ys (k - length xs) d).height =
                ap (λ n. (get_or (xs ++ ys) n d).height) (sym at') ∙ ap (λ (v : Event). v.height) (get_or-append-add xs ys (k - length xs) d) in
                let up = rising (k - length xs) (l - length xs) d (omega (arith, le, late, late')) (omega (arith, late, lt, long)) in
                omega (arith, ints, one, other, up)
          ]
    ]

pub events_rise : (ends : List End) → AreEndsRising ends → AreEventsRising (joined (events_in ends))
events_rise [] rising = λ k l d le lt. absurd (omega (arith, lt))
events_rise (e ∷ ends) rising =
    risen (level e) (events_at e) (joined (events_in ends)) (all_level e)
    (all_above (level e) ends (λ f more is. let up = behind e f more (subst (λ l. AreEndsRising (e ∷ l)) is rising) in omega (arith, ints, up)) (rest e ends rising))
    (events_rise ends (rest e ends rising))

-- ---- sorted

not_below : (o : Ordering) (a b : ℤ) → MatchOrdering o (b <ℤ a) (b ≡ a) (a <ℤ b) → is_lt o ≡ false → a ≤ℤ b
not_below Less a b m e = absurd (true≢false e)
not_below Equal a b m e = omega (arith, ints, m)
not_below Greater a b m e = omega (arith, ints, m)

pub ends_rise : (ends : List End) → ((k : ℕ) (d : End) → 0 ≤ k → k + 1 < length ends →
    is_lt (int_cmp (level (get_or ends (k + 1) d)) (level (get_or ends k d))) ≡ false) → AreEndsRising ends
ends_rise ends sorted k d lt =
    let up = not_below (int_cmp (level (get_or ends (k + 1) d)) (level (get_or ends k d))) (level (get_or ends k d)) (level (get_or ends (k + 1) d))
    (int_ranked (level (get_or ends (k + 1) d)) (level (get_or ends k d)) (int_cmp (level (get_or ends (k + 1) d)) (level (get_or ends k d))) refl)
    (sorted k d (omega arith) lt) in
    omega (arith, ints, up)
