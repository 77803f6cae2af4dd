-- Darts that are linked along a round, and along the rounds one after the other.
use Rattle.std.proofs.Common.{◌≡◌, ◌≢◌, inl, inr, ℕ, suc, ◌+◌, ◌<◌, ◌≤◌, arith, List, [], ◌∷◌, ◌++◌, length, length-append, take, drop, append-nil, append_assoc, set, get_or, refl, ap, sym, subst, ◌∙◌, length-set, get_or-set_same, get_or-set_other}
use Rattle.std.proofs.Math.Seq.{get_or-append_seam}
use Rattle.std.specs.Prelude.{slice_index}
use Rattle.std.specs.List.{All, concat}
use Rattle.std.proofs.lemmas.List.{drop_all, take_all, map-append, get_or_append_left}
use Rattle.std.proofs.lemmas.List.Elements.{All-from_get_or}
use Rattle.std.proofs.lemmas.Bool.{cases_lt}
use Rattle.tl_map_county.specs.Darts.{reverse_dart}
use Rattle.tl_tree_index.specs.Hits.{times}
use Rattle.tl_tree_index.proofs.Times.{times-append}
use Rattle.tl_check_sides.specs.Lists.{before, list_at, times_in, EachList}
use Rattle.tl_check_sides.proofs.Boundaries.{back_again}
use Rattle.tl_check_sides.proofs.ListLemmas.{one_place, stands, stands_in, concat-more}
use Rattle.tl_check_faces.proofs.CrossingsLemmas.Rounds.{two_lists}
use Rattle.tl_tree_index.specs.Lists.{HoldsAll}
use Rattle.tl_tree_index.proofs.Holding.{once_in, no_other_in}
use Rattle.tl_check_sides.specs.declared.headed.HeadedDart.{HeadedDart}
use Rattle.tl_build_propose.specs.Keeping.Following.{IsLinkedIn}
use Rattle.tl_build_propose.specs.Keeping.Lists.{darts_in}
use Rattle.tl_build_propose.specs.Keeping.Sorting.{AreSorted, AreCut}
use Rattle.tl_build_propose.proofs.CutLemmas.{none_cut}

-- the darts of the round before a place are linked, and the others are as they were
pub record LinkedUpTo (old new round : List ℕ) (place : ℕ) : Type 0 where
  pub long : length new ≡ length old
  pub linked : (k : ℕ) → k < place → slice_index new (reverse_dart (slice_index round k)) ≡ before round k
  pub others : (d : ℕ) → times (reverse_dart d) round ≡ 0 → slice_index new d ≡ slice_index old d

pub none_linked : (old round : List ℕ) → LinkedUpTo old old round 0
none_linked old round = record { long = refl; linked = λ k h. absurd (omega (arith, h)); others = λ d h. refl }

pub one_linked : (old new round : List ℕ) (place : ℕ) → LinkedUpTo old new round place → place < length round → ((d : ℕ) → times d round ≤ 1)
    → reverse_dart (slice_index round place) < length new
    → LinkedUpTo old (set new (reverse_dart (slice_index round place)) (before round place)) round (place + 1)
one_linked old new round place so h once within = record {
  long = length-set new (reverse_dart (slice_index round place)) (before round place) ∙ so.long;
  linked = λ k hk. elim (cases_lt k place) [
    | inl earlier ↦
        let apart : reverse_dart (slice_index round k) ≢ reverse_dart (slice_index round place) = λ e.
        let one : slice_index round k ≡ slice_index round place = sym (back_again (slice_index round k)) ∙ (ap reverse_dart e ∙ back_again (slice_index round place)) in
        let places : k ≡ place = one_place (slice_index round place) round k place (once (slice_index round place)) (omega (arith, earlier, h)) h one refl in
        omega (arith, places, earlier) in
        get_or-set_other new (reverse_dart (slice_index round place)) (reverse_dart (slice_index round k)) (before round place) 0 apart ∙ so.linked k earlier
    | inr not ↦
        let here : k ≡ place = omega (arith, not, hk) in
        rw here (get_or-set_same new (reverse_dart (slice_index round place)) (before round place) 0 within)
  ];
  others = λ d none.
      let apart : d ≢ reverse_dart (slice_index round place) = λ e.
      let at : slice_index round place ≡ reverse_dart d = sym (back_again (slice_index round place)) ∙ sym (ap reverse_dart e) in
      omega (arith, none, stands round place (reverse_dart d) h at) in
      get_or-set_other new (reverse_dart (slice_index round place)) d (before round place) 0 apart ∙ so.others d none;
}

-- the dart before the place behind a place
pub before_behind : (round : List ℕ) (place : ℕ) → before round (place + 1) ≡ slice_index round place
before_behind round place = let e : place + 1 ≡ suc place = omega arith in ap (before round) e

-- a round that was linked stays so where another is that shares no dart with it
pub stays_linked : (old new round other : List ℕ) → IsLinkedIn old round → ((d : ℕ) → times (reverse_dart d) other ≡ 0 → slice_index new d ≡ slice_index old d)
    → ((k : ℕ) → k < length round → times (slice_index round k) other ≡ 0) → IsLinkedIn new round
stays_linked old new round other linked others apart k h =
    others (reverse_dart (slice_index round k)) (ap (λ d. times d other) (back_again (slice_index round k)) ∙ apart k h) ∙ linked k h

-- the following darts are linked by the rounds that were cut off so far
pub record AreLinkedSoFar (n : ℕ) (starts rest : List HeadedDart) (following : List ℕ) : Type 0 where
  pub rounds : List (List ℕ)
  pub whole : concat rounds ++ darts_in rest ≡ darts_in starts
  pub long : length following ≡ n
  pub kept : All (λ d. d < n) following
  pub linked : EachList (IsLinkedIn following) rounds
  pub cut : AreSorted starts → AreCut starts rest rounds

pub none_linked_yet : (n : ℕ) (starts : List HeadedDart) (following : List ℕ) → length following ≡ n → All (λ d. d < n) following → AreLinkedSoFar n starts starts following
none_linked_yet n starts following long kept = record {
  rounds = [];
  whole = refl;
  long = long;
  kept = kept;
  linked = λ k h. absurd (omega (arith, h));
  cut = none_cut starts;
}

-- one round more, which is the front of the rest
module _ (n : ℕ) (starts rest front back : List HeadedDart) (old : List ℕ) (all : HoldsAll n (darts_in starts)) (same : rest ≡ front ++ back) (so : AreLinkedSoFar n starts rest old) where
  abbrev pub grown : List (List ℕ)
  grown = so.rounds ++ darts_in front ∷ []

  grown_whole : concat grown ++ darts_in back ≡ darts_in starts
  grown_whole =
      let parts : darts_in rest ≡ darts_in front ++ darts_in back = ap darts_in same ∙ map-append (λ (s : HeadedDart). s.dart) front back in
      ap (λ l. l ++ darts_in back) (concat-more so.rounds (darts_in front ∷ []) ∙ ap (λ l. concat so.rounds ++ l) (append-nil (darts_in front)))
      ∙ append_assoc (concat so.rounds) (darts_in front) (darts_in back)
      ∙ ap (λ l. concat so.rounds ++ l) (sym parts) ∙ so.whole

  -- each dart stands once in all, and is below n
  seldom : (d : ℕ) → times_in d grown ≤ 1
  seldom d =
      let sum = times-append d (concat grown) (darts_in back) in
      let whole = ap (times d) grown_whole in
      elim (cases_lt d n) [
        | inl dart ↦ let one = once_in n (darts_in starts) all d dart in omega (arith, sum, whole, one)
        | inr other ↦ let none = no_other_in n (darts_in starts) all d other in omega (arith, sum, whole, none)
      ]

  last : list_at grown (length so.rounds) ≡ darts_in front
  last = get_or-append_seam so.rounds (darts_in front) [] []

  inside : length so.rounds < length grown
  inside = let long = length-append so.rounds (darts_in front ∷ []) in omega (arith, long)

  pub once : (d : ℕ) → times d (darts_in front) ≤ 1
  once d = let few = seldom d in let here = stands_in d grown (length so.rounds) inside in let same = ap (times d) last in omega (arith, few, here, same)

  pub known : All (λ d. d < n) (darts_in front)
  known = All-from_get_or (λ d. d < n) (darts_in front) 0 (λ k h.
      let d = get_or (darts_in front) k 0 in
      elim (cases_lt d n) [
        | inl dart ↦ dart
        | inr other ↦
            let none = no_other_in n (darts_in starts) all d other in
            let whole = ap (times d) grown_whole in
            let sum = times-append d (concat grown) (darts_in back) in
            let here = stands_in d grown (length so.rounds) inside in
            let same = ap (times d) last in
            let there = stands (darts_in front) k d h refl in
            absurd (omega (arith, none, whole, sum, here, same, there))
      ])

  earlier : (r : ℕ) → r < length so.rounds → list_at grown r ≡ list_at so.rounds r
  earlier r h = get_or_append_left so.rounds (darts_in front ∷ []) [] r h

  grown_long : length grown ≡ length so.rounds + 1
  grown_long = length-append so.rounds (darts_in front ∷ [])

  pub one_linked_more : (new : List ℕ) → length new ≡ length old → All (λ d. d < length old) new → IsLinkedIn new (darts_in front)
      → ((d : ℕ) → times (reverse_dart d) (darts_in front) ≡ 0 → slice_index new d ≡ slice_index old d)
      → (AreSorted starts → AreCut starts back grown) → AreLinkedSoFar n starts back new
  one_linked_more new long kept linked others cut = record {
    rounds = grown;
    whole = grown_whole;
    long = long ∙ so.long;
    kept = subst (λ m. All (λ d. d < m) new) so.long kept;
    linked = λ r h. elim (cases_lt r (length so.rounds)) [
      | inl less ↦
          subst (IsLinkedIn new) (sym (earlier r less))
          (stays_linked old new (list_at so.rounds r) (darts_in front) (so.linked r less) others (λ k hk.
          let d = get_or (list_at so.rounds r) k 0 in
          let at_r = stands (list_at so.rounds r) k d hk refl in
          let there = ap (times d) (earlier r less) in
          let both = two_lists d grown r (length so.rounds) less inside in
          let few = seldom d in
          let same = ap (times d) last in
          omega (arith, at_r, there, both, few, same)))
      | inr not ↦
          let many = grown_long in
          let here : length so.rounds ≡ r = omega (arith, not, h, many) in
          subst (λ q. IsLinkedIn new (list_at grown q)) here (subst (IsLinkedIn new) (sym last) linked)
    ];
    cut = cut;
  }

-- what stands in a list that was written over whole
pub written : (n : ℕ) (new old : List ℕ) → length new ≡ n → length old ≡ n → take n (new ++ drop (length new) old) ≡ new
written n new old e f =
    ap (λ more. take n (new ++ more)) (drop_all (length new) old (omega (arith, e, f))) ∙ ap (take n) (append-nil new) ∙ take_all n new (omega (arith, e))
