-- Records that are joined in groups, and then all groups, tell what they tell where all are joined at once.
use Rattle.std.proofs.Common.{◌≡◌, ℕ, ◌≤◌, ◌⊎◌, eqb, true, false, List, [], ◌∷◌, ◌++◌, length, map, filter, get_or, Option, Some, refl, sym, ap, subst, ◌∙◌, inl, inr, arith, append-nil}
use Rattle.std.specs.List.{list_any, AllByRecursion}
use Rattle.std.proofs.lemmas.Bool.{true≢false, cases_Bool, cases_lt, eqb-true, false_from_ne_true}
use Rattle.std.proofs.lemmas.List.Elements.{filter_agree, Contains-get_or}
use Rattle.std.proofs.lemmas.List.Folds.{list_any_none}
use Rattle.tl_record.specs.declared.record.Record.{Record}
use Rattle.tl_record.specs.declared.record.Record.TheVariants.{Chain, Shape, Sides, PolyPoint, Landmark, AreaLink}
use Rattle.tl_record.specs.Joining.{tells_chain, tells_sides, tells_shape_at, are_two_that_fit, is_shape_apart, is_told_twice}
use Rattle.tl_map.specs.declared.joined.place.Place.{Place}
use Rattle.tl_map.specs.Joined.Keeping.Places.{is_at}
use Rattle.tl_map.specs.Joined.Told.{joined_records}
use Rattle.tl_map.proofs.JoinedLemmas.PlaceLemmas.{key_of, at_own}
use Rattle.tl_map.proofs.JoinedLemmas.ApartLemmas.{key, chain_at, shape_at, sides_at}
use Rattle.tl_map_rules.specs.MapOf.{polygons_in}
use Rattle.tigertopo_border.specs.Parts.{all_records, HaveNoFaultButMany}
use Rattle.tigertopo_border.proofs.Joining.KeyedLemmas.{told, joined_apart, joined_twice, joined_none, polygons_stay, AreJoinedOf}
use Rattle.tigertopo_border.proofs.Joining.InLemmas.{In, from_contained, in_passing, from_passing}
use Rattle.tigertopo_border.proofs.Joining.TellLemmas.{chain_once, silent, first_told}
use Rattle.tigertopo_border.proofs.Joining.SeveralLemmas.{chains, told_both, many_both}
use Rattle.tigertopo_border.proofs.Joining.WithoutLemmas.{polygons_both}
use Rattle.tigertopo_border.proofs.Joining.FitLemmas.{AreTwo, IsToldTwice, told_twice}
use Rattle.tl_tree_index.proofs.ListLemmas.{no_items as empty}

-- ---- a chain is told twice by what is told at its keys

two_fit : (xs : List Record) → AreTwo xs → are_two_that_fit xs ≡ true
two_fit xs two = ap are_two_that_fit two.are ∙ two.fit

not_apart : (rs : List Record) (t : ℕ) → IsToldTwice rs t → (r : Record) → In r rs → is_shape_apart rs t r ≡ false
not_apart rs t two (Chain u from to) has = refl
not_apart rs t two (Shape u n pairs) has = elim (cases_Bool (eqb t u)) [
  | inl same ↦
      let one : t ≡ u = eqb-true t u same in
      let here : In (Shape t n pairs) rs = rw one has in
      let fit : are_two_that_fit (filter (tells_shape_at t n) rs) ≡ true = ap are_two_that_fit (sym (filter_agree _ _ (shape_at t n) rs)) ∙ two_fit (told (key t 50 n) rs) (two.shapes n pairs here) in
      let fit_too : are_two_that_fit (filter (tells_shape_at u n) rs) ≡ true = rw one at fit in
      rw (same, fit_too) refl
  | inr other ↦ rw other refl
]
not_apart rs t two (Sides u start end left right) has = refl
not_apart rs t two (PolyPoint k q) has = refl
not_apart rs t two (Landmark n q) has = refl
not_apart rs t two (AreaLink k n) has = refl

is_twice : (rs : List Record) (t : ℕ) → IsToldTwice rs t → is_told_twice rs t ≡ true
unfolding is_told_twice
is_twice rs t two =
    let ends : are_two_that_fit (filter (tells_chain t) rs) ≡ true = ap are_two_that_fit (sym (filter_agree _ _ (chain_at t) rs)) ∙ two_fit (told (key t 49 0) rs) two.chain in
    let sides : are_two_that_fit (filter (tells_sides t) rs) ≡ true = ap are_two_that_fit (sym (filter_agree _ _ (sides_at t) rs)) ∙ two_fit (told (key t 73 0) rs) two.sides in
    let none : list_any (is_shape_apart rs t) rs ≡ false =
    list_any_none (is_shape_apart rs t) rs (λ k d lt. not_apart rs t two (get_or rs k d) (from_contained rs (get_or rs k d) (Contains-get_or rs k d lt))) in
    rw (ends, sides, none) refl

-- so lists that tell the same of a chain tell it twice alike
twice_too : (rs js : List Record) (t : ℕ) → ((q : Place) → q.tlid ≡ t → told q js ≡ told q rs) → is_told_twice rs t ≡ true → is_told_twice js t ≡ true
twice_too rs js t same twice =
    let two = told_twice rs t twice in
    is_twice js t (record {
      chain = subst AreTwo (sym (same (key t 49 0) refl)) two.chain;
      sides = subst AreTwo (sym (same (key t 73 0) refl)) two.sides;
      shapes = λ n pairs has.
          let there : In (Shape t n pairs) (told (key t 50 n) js) = in_passing (is_at (key t 50 n)) js (Shape t n pairs) (own t n pairs) has in
          let here : In (Shape t n pairs) (told (key t 50 n) rs) = rw (same (key t 50 n) refl) at there in
          subst AreTwo (sym (same (key t 50 n) refl)) (two.shapes n pairs (from_passing (is_at (key t 50 n)) rs (Shape t n pairs) here).0);
    })
  where
    own : (t n : ℕ) (pairs : List (Option _)) → is_at (key t 50 n) (Shape t n pairs) ≡ true
    own t n pairs = at_own (Shape t n pairs) (key t 50 n) refl

-- at each key of such a chain nothing is told, or two that fit
two_at : (rs : List Record) (q : Place) → IsToldTwice rs q.tlid → (told q rs ≡ []) ⊎ AreTwo (told q rs)
two_at rs q two = go (told q rs) refl
  where
    of_record : (x : Record) → In x rs → is_at q x ≡ true → AreTwo (told q rs)
    of_record (Chain u from to) has at =
        let own : Some (key u 49 0) ≡ Some q = key_of q (Chain u from to) at in
        let one : key u 49 0 ≡ q = cc in
        subst (λ p. AreTwo (told p rs)) (ap (λ (p : Place). key p.tlid 49 0) (sym one) ∙ one) two.chain
    of_record (Shape u n pairs) has at =
        let own : Some (key u 50 n) ≡ Some q = key_of q (Shape u n pairs) at in
        let one : key u 50 n ≡ q = cc in
        let tlid : u ≡ q.tlid = ap (λ (p : Place). p.tlid) one in
        let here : In (Shape q.tlid n pairs) rs = rw tlid at has in
        subst (λ p. AreTwo (told p rs)) (ap (λ (p : Place). key p.tlid 50 n) (sym one) ∙ one) (two.shapes n pairs here)
    of_record (Sides u start end left right) has at =
        let own : Some (key u 73 0) ≡ Some q = key_of q (Sides u start end left right) at in
        let one : key u 73 0 ≡ q = cc in
        subst (λ p. AreTwo (told p rs)) (ap (λ (p : Place). key p.tlid 73 0) (sym one) ∙ one) two.sides
    of_record (PolyPoint k p) has at = absurd (true≢false (sym at))
    of_record (Landmark n p) has at = absurd (true≢false (sym at))
    of_record (AreaLink k n) has at = absurd (true≢false (sym at))

    go : (xs : List Record) → told q rs ≡ xs → (told q rs ≡ []) ⊎ AreTwo (told q rs)
    go [] is = inl is
    go (x ∷ xs) is = let first = first_told q rs x xs is in inr (of_record x first.0 first.1)

-- where one record or none has the TLID it isn't told twice
not_twice : (rs : List Record) (t : ℕ) → chains t rs ≤ 1 → is_told_twice rs t ≡ false
not_twice rs t few = elim (cases_Bool (is_told_twice rs t)) [
  | inl twice ↦ absurd (let two : chains t rs ≡ 2 = ap length (told_twice rs t twice).chain.are in omega (arith, two, few))
  | inr once ↦ once
]

stay_told : (rs : List Record) (t : ℕ) → chains t rs ≤ 1 → (q : Place) → q.tlid ≡ t → told q (joined_records rs) ≡ told q rs
stay_told rs t few q same = joined_apart rs q (ap (is_told_twice rs) same ∙ not_twice rs t few) rs

-- where two have it and the joined records have no fault it is
is_joined_twice : (rs : List Record) (t : ℕ) → HaveNoFaultButMany (joined_records rs) → 2 ≤ chains t rs → is_told_twice rs t ≡ true
is_joined_twice rs t fine many = elim (cases_Bool (is_told_twice rs t)) [
  | inl twice ↦ twice
  | inr once ↦
      let stays : chains t (joined_records rs) ≡ chains t rs = ap length (joined_apart rs (key t 49 0) once rs) in
      absurd (omega (arith, many, stays, chain_once (joined_records rs) fine t))
]

-- ---- who tells a chain

abbrev Fine : List Record → Type 0
Fine rs = HaveNoFaultButMany (joined_records rs)

module _ (t : ℕ) where
  silent_here : (rs : List Record) → Fine rs → chains t rs ≡ 0 → (q : Place) → q.tlid ≡ t → (told q rs ≡ []) × (told q (joined_records rs) ≡ [])
  silent_here rs fine none q same =
      let few : chains t rs ≤ 1 = omega (arith, none) in
      let nothing : told (key t 49 0) (joined_records rs) ≡ [] = stay_told rs t few (key t 49 0) refl ∙ empty (told (key t 49 0) rs) none in
      let gone = silent (joined_records rs) fine t nothing q same in
      (sym (stay_told rs t few q same) ∙ gone, gone)

  silent_all : (groups : List (List Record)) → AllByRecursion Fine groups → chains t (all_records groups) ≡ 0 → (q : Place) → q.tlid ≡ t
      → (told q (all_records groups) ≡ []) × (told q (all_records (map joined_records groups)) ≡ [])
  silent_all [] fine none q same = (refl, refl)
  silent_all (rs ∷ groups) fine none q same =
      let both = many_both (key t 49 0) rs groups in
      let here = silent_here rs fine.0 (omega (arith, both, none)) q same in
      let rest = silent_all groups fine.1 (omega (arith, both, none)) q same in (
        told_both q rs groups ∙ ap (λ (xs : List Record). xs ++ told q (all_records groups)) here.0 ∙ rest.0,
        told_both q (joined_records rs) (map joined_records groups) ∙ ap (λ (xs : List Record). xs ++ told q (all_records (map joined_records groups))) here.1 ∙ rest.1,
      )

  -- one group alone, which joins it, or no group joins it
  data AreTellers (groups : List (List Record)) : Type 0 where
    together : (rs : List Record) → Fine rs → 2 ≤ chains t rs → ((q : Place) → q.tlid ≡ t → told q (all_records groups) ≡ told q rs)
        → ((q : Place) → q.tlid ≡ t → told q (all_records (map joined_records groups)) ≡ told q (joined_records rs)) → AreTellers groups
    spread : ((q : Place) → q.tlid ≡ t → told q (all_records (map joined_records groups)) ≡ told q (all_records groups)) → AreTellers groups

  one_more : (rs : List Record) (groups : List (List Record)) → Fine rs → chains t rs ≤ 1 → chains t (all_records (rs ∷ groups)) ≤ 2 → AreTellers groups → AreTellers (rs ∷ groups)
  one_more rs groups fine few most (together one one_fine many raw joined_is) =
      let both = many_both (key t 49 0) rs groups in
      let there : chains t (all_records groups) ≡ chains t one = ap length (raw (key t 49 0) refl) in
      let none : chains t rs ≡ 0 = omega (arith, both, there, many, most) in
      together one one_fine many
      (λ q same. told_both q rs groups ∙ ap (λ (xs : List Record). xs ++ told q (all_records groups)) (silent_here rs fine none q same).0 ∙ raw q same)
      (λ q same. told_both q (joined_records rs) (map joined_records groups)
      ∙ ap (λ (xs : List Record). xs ++ told q (all_records (map joined_records groups))) (silent_here rs fine none q same).1 ∙ joined_is q same)
  one_more rs groups fine few most (spread is) =
      spread (λ q same.
      let here = stay_told rs t few q same in
      let rest = is q same in
      told_both q (joined_records rs) (map joined_records groups) ∙ (λ i. here i ++ rest i) ∙ sym (told_both q rs groups))

  tellers : (groups : List (List Record)) → AllByRecursion Fine groups → chains t (all_records groups) ≤ 2 → AreTellers groups
  tellers [] fine most = spread (λ q same. refl)
  tellers (rs ∷ groups) fine most =
      let both = many_both (key t 49 0) rs groups in
      elim (cases_lt 1 (chains t rs)) [
        | inl many ↦
            let silent_rest = silent_all groups fine.1 (omega (arith, both, many, most)) in
            together rs fine.0 (omega (arith, many))
            (λ q same. told_both q rs groups ∙ ap (λ (xs : List Record). told q rs ++ xs) (silent_rest q same).0 ∙ append-nil (told q rs))
            (λ q same. told_both q (joined_records rs) (map joined_records groups) ∙ ap (λ (xs : List Record). told q (joined_records rs) ++ xs) (silent_rest q same).1 ∙ append-nil (told q (joined_records rs)))
        | inr few ↦ one_more rs groups fine.0 few most (tellers groups fine.1 (omega (arith, both, most)))
      ]

-- ---- what is told at each key

module _ (groups : List (List Record)) (all_fine : AllByRecursion Fine groups) (fine : Fine (all_records groups)) (q : Place) where
  abbrev raw : List Record
  raw = all_records groups

  abbrev stepwise : List Record
  stepwise = all_records (map joined_records groups)

  at_most_two : chains q.tlid (all_records groups) ≤ 2
  at_most_two = elim (cases_Bool (is_told_twice (all_records groups) q.tlid)) [
    | inl twice ↦ let two : chains q.tlid (all_records groups) ≡ 2 = ap length (told_twice (all_records groups) q.tlid twice).chain.are in omega (arith, two)
    | inr once ↦
        let stays : chains q.tlid (joined_records (all_records groups)) ≡ chains q.tlid (all_records groups) = ap length (joined_apart (all_records groups) (key q.tlid 49 0) once (all_records groups)) in
        omega (arith, stays, chain_once (joined_records (all_records groups)) fine q.tlid)
  ]

  same_told : AreTellers q.tlid groups → told q (joined_records (all_records groups)) ≡ told q (joined_records (all_records (map joined_records groups)))
  same_told (together rs rs_fine many raw_is joined_is) =
      let raw_many : chains q.tlid (all_records groups) ≡ chains q.tlid rs = ap length (raw_is (key q.tlid 49 0) refl) in
      let twice = is_joined_twice (all_records groups) q.tlid fine (omega (arith, many, raw_many)) in
      let twice_there = is_joined_twice rs q.tlid rs_fine many in
      let steps : chains q.tlid (all_records (map joined_records groups)) ≡ chains q.tlid (joined_records rs) = ap length (joined_is (key q.tlid 49 0) refl) in
      let stays = stay_told (all_records (map joined_records groups)) q.tlid (omega (arith, steps, chain_once (joined_records rs) rs_fine q.tlid)) q refl in
      elim (two_at (all_records groups) q (told_twice (all_records groups) q.tlid twice)) [
        | inl none ↦
            joined_none (all_records groups) q none ∙ sym (joined_none rs q (sym (raw_is q refl) ∙ none)) ∙ sym (joined_is q refl) ∙ sym stays
        | inr two ↦
            joined_twice (all_records groups) q two.first two.second twice two.are
            ∙ sym (joined_twice rs q two.first two.second twice_there (sym (raw_is q refl) ∙ two.are)) ∙ sym (joined_is q refl) ∙ sym stays
      ]
  same_told (spread is) = elim (cases_Bool (is_told_twice (all_records groups) q.tlid)) [
    | inl twice ↦
        let twice_there = twice_too (all_records groups) (all_records (map joined_records groups)) q.tlid is twice in
        elim (two_at (all_records groups) q (told_twice (all_records groups) q.tlid twice)) [
          | inl none ↦ joined_none (all_records groups) q none ∙ sym (joined_none (all_records (map joined_records groups)) q (is q refl ∙ none))
          | inr two ↦
              joined_twice (all_records groups) q two.first two.second twice two.are
              ∙ sym (joined_twice (all_records (map joined_records groups)) q two.first two.second twice_there (is q refl ∙ two.are))
        ]
    | inr once ↦
        let once_there : is_told_twice (all_records (map joined_records groups)) q.tlid ≡ false =
        false_from_ne_true (is_told_twice (all_records (map joined_records groups)) q.tlid) (λ twice.
        true≢false (sym (twice_too (all_records (map joined_records groups)) (all_records groups) q.tlid (λ p same. sym (is p same)) twice) ∙ once)) in
        joined_apart (all_records groups) q once (all_records groups) ∙ sym (is q refl) ∙ sym (joined_apart (all_records (map joined_records groups)) q once_there (all_records (map joined_records groups)))
  ]

same_polygons : (groups : List (List Record)) → polygons_in (all_records groups) ≡ polygons_in (all_records (map joined_records groups))
same_polygons [] = refl
same_polygons (rs ∷ groups) =
    let first = polygons_stay rs rs in
    let rest = same_polygons groups in
    polygons_both rs groups ∙ (λ i. sym first i ++ rest i) ∙ sym (polygons_both (joined_records rs) (map joined_records groups))

pub joined_in_steps : (groups : List (List Record)) → AllByRecursion (λ rs. HaveNoFaultButMany (joined_records rs)) groups → HaveNoFaultButMany (joined_records (all_records groups))
    → AreJoinedOf (joined_records (all_records groups)) (all_records (map joined_records groups))
joined_in_steps groups all_fine fine = record {
  told_is = λ q. same_told groups all_fine fine q (tellers q.tlid groups all_fine (at_most_two groups all_fine fine q));
  polygons = polygons_stay (all_records groups) (all_records groups) ∙ same_polygons groups;
}
