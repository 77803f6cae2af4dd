use Rattle.std.proofs.Common.{◌≡◌, ◌≢◌, ℕ, ◌+◌, ◌-◌, ◌<◌, ◌≤◌, ◌⊎◌, inl, inr, List, [], ◌∷◌, ◌++◌, length, take, get_or, Contains, refl, sym, ap, ◌∙◌, subst, arith}
use Rattle.std.specs.List.Sorted.{IsNonDecreasing}
use Rattle.std.proofs.lemmas.Bool.{cases_lt}
use Rattle.std.proofs.lemmas.List.{get_or_default, take_all, take_more}
use Rattle.std.proofs.lemmas.List.Elements.{Contains-append_left, Contains-push, Contains-push_cases}
use Rattle.tl_map_rules.specs.declared.fault.RecordFault.{RecordFault}
use Rattle.tl_map_rules.specs.Listing.Keeping.Told.{Tells}
use Rattle.tl_map_rules.specs.Listing.Keeping.Numbers.{StandsNext, IsMissing}
use Rattle.tl_map_rules.proofs.ListingLemmas.ToldLemmas.{tells_none, tells_same, tells_more}

-- no two neighbours end below the second place
pub next_none : {X : Type 0} (g : X → RecordFault) (items : List X) (n : ℕ) (faults : List RecordFault) → n ≤ 1 → Tells (StandsNext g items n) faults faults
next_none g items n faults few = tells_none (StandsNext g items n) faults (λ f s. omega (arith, s.below))

-- two neighbours up to one place more
longer : {X : Type 0} (g : X → RecordFault) (items : List X) (i j : ℕ) (f : RecordFault) → (s : StandsNext g items i f) → s.place + 1 < j → StandsNext g items j f
longer g items i j f s lt = record { item = s.item; is = s.is; place = s.place; below = lt; within = s.within; first = s.first; second = s.second }

split : {X : Type 0} (g : X → RecordFault) (items : List X) (i : ℕ) (f : RecordFault) → StandsNext g items (i + 1) f → StandsNext g items i f ⊎ ((s : StandsNext g items (i + 1) f) × (s.place + 1 ≡ i))
split g items i f s = elim (cases_lt (s.place + 1) i) [
  | inl earlier ↦ inl (longer g items (i + 1) i f s earlier)
  | inr at ↦ inr (s, omega (arith, s.below))
]

-- the i-th item is the one before
pub next_more : {X : Type 0} (g : X → RecordFault) (items : List X) (i : ℕ) (d e : X) (old new : List RecordFault) → 1 ≤ i → i < length items → get_or items (i - 1) e ≡ get_or items i d → Tells (StandsNext g items i) old new → Tells (StandsNext g items (i + 1)) old (new ++ g (get_or items i d) ∷ [])
next_more {X} g items i d e old new low lt same h =
    let back : i - 1 + 1 ≡ i = omega arith in
    tells_more (StandsNext g items i) (StandsNext g items (i + 1)) old new (g (get_or items i d)) (λ f s. longer g items i (i + 1) f s (omega (arith, s.below)))
    (record {
      item = get_or items i d;
      is = refl;
      place = i - 1;
      below = omega arith;
      within = omega arith;
      first = λ x. get_or_default items (i - 1) x e (omega arith) ∙ same;
      second = λ x. rw back (get_or_default items i x d lt);
    })
    (λ f s. elim (split g items i f s) [
      | inl earlier ↦ inl earlier
      | inr w ↦ inr (w.0.is ∙ ap g (sym (rw w.1 at (w.0.second d))))
    ]) h

-- the i-th item is another one than the one before
pub next_other : {X : Type 0} (g : X → RecordFault) (items : List X) (i : ℕ) (d e : X) (old new : List RecordFault) → 1 ≤ i → i < length items → get_or items (i - 1) e ≢ get_or items i d → Tells (StandsNext g items i) old new → Tells (StandsNext g items (i + 1)) old new
next_other g items i d e old new low lt other h =
    tells_same (StandsNext g items i) (StandsNext g items (i + 1)) old new (λ f s. longer g items i (i + 1) f s (omega (arith, s.below)))
    (λ f s. elim (split g items i f s) [
      | inl earlier ↦ earlier
      | inr w ↦
          let at : w.0.place ≡ i - 1 = omega (arith, w.1) in
          absurd (other ((rw at at (w.0.first e)) ∙ sym (rw w.1 at (w.0.second d))))
    ]) h

-- the items up to the end are all
pub next_all : {X : Type 0} (g : X → RecordFault) (items : List X) (i : ℕ) (old new : List RecordFault) → length items ≤ i → Tells (StandsNext g items i) old new → Tells (StandsNext g items (length items)) old new
next_all g items i old new past h =
    tells_same (StandsNext g items i) (StandsNext g items (length items)) old new
    (λ f s. longer g items i (length items) f s s.within)
    (λ f s. longer g items (length items) i f s (omega (arith, s.within))) h

more_items : {X K : Type 0} (g : X → RecordFault) (name : X → K) (items : List X) (x : X) (known : List K) (f : RecordFault) → IsMissing g name items known f → IsMissing g name (items ++ x ∷ []) known f
more_items g name items x known f m = record { item = m.item; is = m.is; among = Contains-append_left items (x ∷ []) m.item m.among; unknown = m.unknown }

-- one more item, of which nothing is told
pub missing_known : {X K : Type 0} (g : X → RecordFault) (name : X → K) (items : List X) (known : List K) (i : ℕ) (d : X) (old new : List RecordFault) → i < length items → Contains known (name (get_or items i d)) → Tells (IsMissing g name (take i items) known) old new → Tells (IsMissing g name (take (i + 1) items) known) old new
missing_known g name items known i d old new lt has h = rw (take_more items i d lt)
    (tells_same (IsMissing g name (take i items) known) (IsMissing g name (take i items ++ get_or items i d ∷ []) known) old new
    (λ f m. more_items g name (take i items) (get_or items i d) known f m)
    (λ f m. elim (Contains-push_cases (take i items) (get_or items i d) m.item m.among) [
      | inl before ↦ record { item = m.item; is = m.is; among = before; unknown = m.unknown }
      | inr here ↦ absurd (m.unknown (subst (λ x. Contains known (name x)) here has))
    ]) h)

-- one more item, which is told
pub missing_more : {X K : Type 0} (g : X → RecordFault) (name : X → K) (items : List X) (known : List K) (i : ℕ) (d : X) (old new : List RecordFault) → i < length items → ¬ Contains known (name (get_or items i d)) → Tells (IsMissing g name (take i items) known) old new → Tells (IsMissing g name (take (i + 1) items) known) old (new ++ g (get_or items i d) ∷ [])
missing_more g name items known i d old new lt none h = rw (take_more items i d lt)
    (tells_more (IsMissing g name (take i items) known) (IsMissing g name (take i items ++ get_or items i d ∷ []) known) old new (g (get_or items i d))
    (λ f m. more_items g name (take i items) (get_or items i d) known f m)
    (record { item = get_or items i d; is = refl; among = Contains-push (take i items) (get_or items i d); unknown = none })
    (λ f m. elim (Contains-push_cases (take i items) (get_or items i d) m.item m.among) [
      | inl before ↦ inl (record { item = m.item; is = m.is; among = before; unknown = m.unknown })
      | inr here ↦ inr (m.is ∙ ap g (sym here))
    ]) h)

-- of no items nothing is told
pub missing_none : {X K : Type 0} (g : X → RecordFault) (name : X → K) (known : List K) (faults : List RecordFault) → Tells (IsMissing g name [] known) faults faults
missing_none g name known faults = tells_none (IsMissing g name [] known) faults (λ f m. omega (arith, m.among.1))

-- the items up to the end are all
pub missing_all : {X K : Type 0} (g : X → RecordFault) (name : X → K) (items : List X) (known : List K) (i : ℕ) (old new : List RecordFault) → length items ≤ i → Tells (IsMissing g name (take i items) known) old new → Tells (IsMissing g name items known) old new
missing_all g name items known i old new past h = rw (take_all i items past) at h

-- the number at a place is known
pub found_at : (known : List ℕ) (place v : ℕ) → place < length known → get_or known place 0 ≡ v → Contains known v
found_at known place v lt at = (place, lt, get_or_default known place v 0 lt ∙ at)

-- all numbers before a place are below a number, and the one there is above it
pub not_found : (known : List ℕ) (place v : ℕ) → IsNonDecreasing known → ((k : ℕ) → k < place → get_or known k 0 < v) → (place < length known → v < get_or known place 0) → ¬ Contains known v
not_found known place v order below above has =
    let here : get_or known has.0 0 ≡ v = get_or_default known has.0 0 v has.1 ∙ has.2 in
    elim (cases_lt has.0 place) [
      | inl earlier ↦ omega (arith, below has.0 earlier)
      | inr later ↦ omega (arith, above (omega (arith, has.1)), order place has.0 0 (omega arith) has.1)
    ]

-- what was passed before and what is passed now is below the number
pub passed_all : (numbers known : List ℕ) (i start place d : ℕ) → i < length numbers → ((k : ℕ) → k < start → i < length numbers → get_or known k 0 < get_or numbers i 0) → ((k e : ℕ) → start ≤ k → k < place → get_or known k e < get_or numbers i d) → (k : ℕ) → k < place → get_or known k 0 < get_or numbers i d
passed_all numbers known i start place d lt before now k less = elim (cases_lt k start) [
  | inl earlier ↦ omega (arith, before k earlier lt, get_or_default numbers i d 0 lt)
  | inr later ↦ now k 0 later less
]

-- where the numbers rise, what is below one is below the next
pub below_next : (numbers known : List ℕ) (i place d : ℕ) → IsNonDecreasing numbers → i < length numbers → ((k : ℕ) → k < place → get_or known k 0 < get_or numbers i d) → (k : ℕ) → k < place → i + 1 < length numbers → get_or known k 0 < get_or numbers (i + 1) 0
below_next numbers known i place d order lt below k less next =
    omega (arith, below k less, order i (i + 1) 0 (omega arith) next, get_or_default numbers i d 0 lt)
