-- Pairs of items that conflict, each found from one that is marked.
use Rattle.std.proofs.Common.{◌≡◌, ◌⊎◌, inl, inr, ⊎_elim, ℕ, ◌+◌, ◌<◌, ◌≤◌, Bool, true, false, Option, None, List, [], ◌∷◌, ◌++◌, length, get_or, map, All}
use Rattle.std.proofs.Common.{refl, sym, ap, subst, ◌∙◌, arith, take}
use Rattle.std.specs.List.{Contains}
use Rattle.std.proofs.lemmas.Bool.{cases_lt, cases_order, true≢false}
use Rattle.std.proofs.lemmas.Bool.Decides.{nat_tests}
use Rattle.std.proofs.lemmas.List.{append_assoc, get_or-map, length-map, map_push, take_more}
use Rattle.std.proofs.lemmas.List.Elements.{All-nil, All-append, All-contains, All-contains_itself, All-weaker, Contains-append_left, Contains-append_right}
use Rattle.tl_geom.specs.declared.rect.Rect.{Rect}
use Rattle.tl_geom.specs.Rectangle.{AreMeeting}
use Rattle.tl_tree_index.specs.Hits.{times, AreHits}
use Rattle.tl_tree_index.proofs.Marks.{times-at}
use Rattle.tl_check_planar.specs.Listing.Conflicts.{IsOneMarked}
use Rattle.tl_check_planar.specs.declared.listing.pairs.Pair.{Pair}
use Rattle.tl_check_planar.specs.Listing.Keeping.Listing.{IsListed}
use Rattle.tl_check_planar.specs.Listing.Keeping.Pairing.{pair_of, IsFoundFrom, IsHitFrom, IsFoundBefore, ArePairsBefore, AreAllPairs}
use Rattle.tl_check_planar.proofs.ListingLemmas.Listing.{stands, meeting_or_not}

pub pair_up : (i j : ℕ) → i < j → pair_of i j ≡ record { i = i; j = j }
pair_up i j lt = grind (arith, nat_tests)

pub pair_down : (i j : ℕ) → j < i → pair_of i j ≡ record { i = j; j = i }
pair_down i j lt = grind (arith, nat_tests)

-- one number more is paired
pub paired_more : (i : ℕ) (old new start : List Pair) (hits : List ℕ) (k d : ℕ) (pair : Pair) → k < length hits → pair ≡ pair_of i (get_or hits k d)
    → new ≡ old ++ pair ∷ [] → old ≡ start ++ map (pair_of i) (take k hits) → new ≡ start ++ map (pair_of i) (take (k + 1) hits)
paired_more i old new start hits k d pair lt is grown before =
    grown ∙ ap (λ ps. ps ++ pair ∷ []) before ∙ append_assoc start (map (pair_of i) (take k hits)) (pair ∷ [])
    ∙ ap (λ ps. start ++ ps) (ap (λ p. map (pair_of i) (take k hits) ++ p ∷ []) is
    ∙ sym (map_push (pair_of i) (take k hits) (get_or hits k d)) ∙ ap (map (pair_of i)) (sym (take_more hits k d lt)))

mapped : {X Y : Type 0} (f : X → Y) (xs : List X) (x : X) → Contains xs x → Contains (map f xs) (f x)
mapped f xs x c = (c.0, omega (arith, length-map xs f, c.1), get_or-map f xs c.0 x (f x) c.1 ∙ ap f c.2)

module _ {C : Type 0} (n : ℕ) (tells : ℕ → ℕ → Option C → Type 0) (marks : List Bool) where
  pub none_before : ArePairsBefore n tells marks 0 []
  none_before = record {
    each = All-nil _;
    complete = λ i j listed found. ⊎_elim (λ h. absurd (let lt = h.0 in omega (arith, lt))) (λ h. absurd (let lt = h.0 in omega (arith, lt))) found;
  }

  -- what is found from the items up to one is found from those before it, or from this one
  from_last : (i a b : ℕ) → IsFoundBefore n tells marks (i + 1) a b
      → IsFoundBefore n tells marks i a b ⊎ (((a ≡ i) × (get_or marks a false ≡ true)) ⊎ ((b ≡ i) × (get_or marks b false ≡ true) × (get_or marks a false ≡ false)))
  from_last i a b (inl h) = elim (cases_lt a i) [
    | inl less ↦ inl (inl (less, h.1))
    | inr past ↦ inr (inl (let lt = h.0 in omega (arith, lt, past), h.1))
  ]
  from_last i a b (inr h) = elim (cases_lt b i) [
    | inl less ↦ inl (inr (less, h.1, h.2))
    | inr past ↦ inr (inr (let lt = h.0 in omega (arith, lt, past), h.1, h.2))
  ]

  -- from an item that isn't marked nothing is found
  pub passed_over : (i : ℕ) (pairs : List Pair) → get_or marks i false ≡ false → ArePairsBefore n tells marks i pairs → ArePairsBefore n tells marks (i + 1) pairs
  passed_over i pairs unmarked before = record {
    each = before.each;
    complete = λ a b listed found. elim (from_last i a b found) [
      | inl earlier ↦ before.complete a b listed earlier
      | inr here ↦ absurd (⊎_elim
          (λ h. true≢false (sym h.1 ∙ ap (λ k. get_or marks k false) h.0 ∙ unmarked))
          (λ h. true≢false (sym h.1 ∙ ap (λ k. get_or marks k false) h.0 ∙ unmarked)) here)
    ];
  }

  -- where of each two that conflict one is marked, all are found
  pub all_found : (m : ℕ) (pairs : List Pair) → n ≤ m → IsOneMarked n tells marks → ArePairsBefore n tells marks m pairs → AreAllPairs n tells pairs
  all_found m pairs past one before = record {
    each = before.each;
    complete = λ i j listed. before.complete i j listed (from i j listed (get_or marks i false) refl);
  }
    where
      from : (i j : ℕ) → IsListed n tells i j → (b : Bool) → get_or marks i false ≡ b → IsFoundBefore n tells marks m i j
      from i j listed true e = inl (let lt = listed.behind in let known = listed.known in omega (arith, lt, known, past), e)
      from i j listed false e =
          let known = listed.known in
          ⊎_elim (λ marked. absurd (true≢false (sym marked ∙ e))) (λ marked. inr (omega (arith, known, past), marked, e))
          (one i j listed.behind listed.known listed.conflict)

  module _ (bounds_of : ℕ → Rect) (apart : (i j : ℕ) → i < j → j < n → ¬ AreMeeting (bounds_of i) (bounds_of j) → tells i j None)
      (i : ℕ) (known : i < n) (hits : List ℕ) (are : AreHits n (IsHitFrom n bounds_of tells marks i (bounds_of i)) hits) where
    -- what is hit conflicts with the item
    listed_with : (j : ℕ) → 1 ≤ times j hits → IsListed n tells (pair_of i j).i (pair_of i j).j
    listed_with j some = ⊎_elim
        (λ (same : i ≡ j). absurd (let none = are.others j (λ hit. ⊎_elim
        (λ l. let lt = l.behind in omega (arith, lt, same)) (λ l. let lt = l.1.behind in omega (arith, lt, same)) hit.found) in omega (arith, none, some)))
        (λ w. ⊎_elim
        (λ (lt : i < j). subst (λ (p : Pair). IsListed n tells p.i p.j) (sym (pair_up i j lt)) (record {
          behind = lt;
          known = elim (cases_lt j n) [ inl less ↦ less | inr past ↦ absurd (let none = are.known j past in omega (arith, none, some)) ];
          conflict = λ told. let none = are.others j (λ hit. ⊎_elim
              (λ l. l.conflict told) (λ l. let gt = l.1.behind in omega (arith, lt, gt)) hit.found) in omega (arith, none, some);
        }))
        (λ (gt : j < i). subst (λ (p : Pair). IsListed n tells p.i p.j) (sym (pair_down i j gt)) (record {
          behind = gt;
          known = known;
          conflict = λ told. let none = are.others j (λ hit. ⊎_elim
              (λ l. let lt = l.behind in omega (arith, lt, gt)) (λ l. l.1.conflict told) hit.found) in omega (arith, none, some);
        })) w)
        (cases_order i j)

    each_listed : All (λ (p : Pair). IsListed n tells p.i p.j) (map (pair_of i) hits)
    each_listed k d lt =
        let within : k < length hits = omega (arith, lt, length-map hits (pair_of i)) in
        subst (λ (p : Pair). IsListed n tells p.i p.j) (sym (get_or-map (pair_of i) hits k 0 d within))
        (listed_with (get_or hits k 0) (times-at hits k within))

    meeting : (a b : ℕ) → IsListed n tells a b → AreMeeting (bounds_of a) (bounds_of b)
    meeting a b l = elim (meeting_or_not (bounds_of a) (bounds_of b)) [
      | inl meet ↦ meet
      | inr away ↦ absurd (l.conflict (apart a b l.behind l.known away))
    ]

    hit_stands : (j : ℕ) → j < n → AreMeeting (bounds_of i) (bounds_of j) → IsFoundFrom n tells marks i j → Contains (map (pair_of i) hits) (pair_of i j)
    hit_stands j below meet found =
        let once = are.once j below (record { meet = meet; found = found }) in
        mapped (pair_of i) hits j (stands j hits (omega (arith, once)))

    own_found : (a b : ℕ) → IsListed n tells a b
        → ((a ≡ i) × (get_or marks a false ≡ true)) ⊎ ((b ≡ i) × (get_or marks b false ≡ true) × (get_or marks a false ≡ false))
        → Contains (map (pair_of i) hits) (record { i = a; j = b })
    own_found a b l (inl h) =
        let own : IsListed n tells i b = subst (λ k. IsListed n tells k b) h.0 l in
        subst (λ k. Contains (map (pair_of i) hits) (record { i = k; j = b })) (sym h.0)
        (subst (Contains (map (pair_of i) hits)) (pair_up i b own.behind) (hit_stands b own.known (meeting i b own) (inl own)))
    own_found a b l (inr h) =
        let own : IsListed n tells a i = subst (λ k. IsListed n tells a k) h.0 l in
        let meet = meeting a i own in
        let lt = own.behind in
        subst (λ k. Contains (map (pair_of i) hits) (record { i = a; j = k })) (sym h.0)
        (subst (Contains (map (pair_of i) hits)) (pair_down i a lt)
        (hit_stands a (omega (arith, lt, known)) (record { point = meet.point; in_first = meet.in_second; in_second = meet.in_first }) (inr (h.2, own))))

    pub found_more : (pairs : List Pair) → ArePairsBefore n tells marks i pairs → ArePairsBefore n tells marks (i + 1) (pairs ++ map (pair_of i) hits)
    found_more pairs before = record {
      each = All-append (λ (p : Pair). IsListed n tells p.i p.j) pairs (map (pair_of i) hits) before.each each_listed;
      complete = λ a b listed found. elim (from_last i a b found) [
        | inl earlier ↦ Contains-append_left pairs (map (pair_of i) hits) _ (before.complete a b listed earlier)
        | inr here ↦ Contains-append_right pairs (map (pair_of i) hits) _ (own_found a b listed here)
      ];
    }

-- pairs that are the same ones are all
pub all_again : {C : Type 0} (n : ℕ) (tells : ℕ → ℕ → Option C → Type 0) (old new : List Pair) → ((p : Pair) → Contains old p → Contains new p)
    → ((p : Pair) → Contains new p → Contains old p) → AreAllPairs n tells old → AreAllPairs n tells new
all_again n tells old new kept none all = record {
  each = All-weaker (Contains new) (λ (p : Pair). IsListed n tells p.i p.j) (λ p there. All-contains (λ (q : Pair). IsListed n tells q.i q.j) old p all.each (none p there))
      new (All-contains_itself new);
  complete = λ i j listed. kept _ (all.complete i j listed);
}
