-- What several lists of records without a fault tell at a key, one after the other.
use Rattle.std.proofs.Common.{◌≡◌, ℕ, zero, suc, ◌+◌, ◌<◌, ◌≤◌, List, [], ◌∷◌, ◌++◌, length, Some, None, refl, ap, ◌∙◌, inl, inr, arith, append-nil, length-append}
use Rattle.std.specs.Prelude.{slice_get}
use Rattle.std.specs.List.{AllByRecursion}
use Rattle.std.proofs.lemmas.Bool.{cases_lt}
use Rattle.std.proofs.lemmas.List.Elements.{filter-append}
use Rattle.tl_record.specs.declared.record.Record.{Record}
use Rattle.tl_map.specs.declared.joined.place.Place.{Place}
use Rattle.tl_map.specs.Joined.Keeping.Places.{is_at}
use Rattle.tl_map.proofs.JoinedLemmas.ApartLemmas.{key}
use Rattle.tigertopo_border.specs.Parts.{is_of_no_landmark, without_landmarks, all_records, HaveNoFaultButMany}
use Rattle.tigertopo_border.proofs.Joining.KeyedLemmas.{told}
use Rattle.tigertopo_border.proofs.Joining.InLemmas.{In, in_both, from_passing}
use Rattle.tigertopo_border.proofs.Joining.TellLemmas.{chain_once, silent}
use Rattle.tigertopo_border.proofs.Joining.WithoutLemmas.{told_without}
use Rattle.tl_tree_index.proofs.ListLemmas.{no_items as empty}

-- a record of all is one of a list
pub record IsOfOne (lists : List (List Record)) (x : Record) : Type 0 where
  pub place : ℕ
  pub one : List Record
  pub is : slice_get lists place ≡ Some one
  pub has : In x one

pub of_one : (lists : List (List Record)) (x : Record) → In x (all_records lists) → IsOfOne lists x
of_one [] x has = absurd has
of_one (rs ∷ lists) x has = elim (in_both (without_landmarks rs) (all_records lists) x has) [
  | inl here ↦ record { place = 0; one = rs; is = refl; has = (from_passing is_of_no_landmark rs x here).0 }
  | inr more ↦ let rest = of_one lists x more in record { place = suc rest.place; one = rest.one; is = rest.is; has = rest.has }
]

pub all_at : {X : Type 0} (P : X → Type 0) (lists : List X) (k : ℕ) (rs : X) → AllByRecursion P lists → slice_get lists k ≡ Some rs → P rs
all_at P [] k rs all is = absurd (let wrong : None ≡ Some rs = is in cc)
all_at P (one ∷ lists) zero rs all is = let same : one ≡ rs = cc in rw (← same) all.0
all_at P (one ∷ lists) (suc k) rs all is = all_at P lists k rs all.1 is

pub told_both : (q : Place) (rs : List Record) (lists : List (List Record)) → told q (all_records (rs ∷ lists)) ≡ told q rs ++ told q (all_records lists)
told_both q rs lists = filter-append (is_at q) (without_landmarks rs) (all_records lists) ∙ ap (λ (xs : List Record). xs ++ told q (all_records lists)) (told_without q rs)

pub many_both : (q : Place) (rs : List Record) (lists : List (List Record)) → length (told q (all_records (rs ∷ lists))) ≡ length (told q rs) + length (told q (all_records lists))
many_both q rs lists = ap length (told_both q rs lists) ∙ length-append (told q rs) (told q (all_records lists))

module _ (t : ℕ) where
  abbrev pub chains : List Record → ℕ
  chains rs = length (told (key t 49 0) rs)

  silent_at : (rs : List Record) → HaveNoFaultButMany rs → chains rs ≡ 0 → (q : Place) → q.tlid ≡ t → told q rs ≡ []
  silent_at rs none nothing q same = silent rs none t (empty (told (key t 49 0) rs) nothing) q same

  -- none tells the chain
  pub nobody : (lists : List (List Record)) → AllByRecursion HaveNoFaultButMany lists → chains (all_records lists) ≡ 0 → (q : Place) → q.tlid ≡ t → told q (all_records lists) ≡ []
  nobody [] all none q same = refl
  nobody (rs ∷ lists) all none q same =
      let both = many_both (key t 49 0) rs lists in
      told_both q rs lists ∙ ap (λ (xs : List Record). xs ++ told q (all_records lists)) (silent_at rs all.0 (omega (arith, both, none)) q same)
      ∙ nobody lists all.1 (omega (arith, both, none)) q same

  first_alone : (rs : List Record) (lists : List (List Record)) → AllByRecursion HaveNoFaultButMany lists → chains (all_records lists) ≡ 0 → (q : Place) → q.tlid ≡ t → told q (all_records (rs ∷ lists)) ≡ told q rs
  first_alone rs lists all none q same = told_both q rs lists ∙ ap (λ (xs : List Record). told q rs ++ xs) (nobody lists all none q same) ∙ append-nil (told q rs)

  others_alone : (rs : List Record) (lists : List (List Record)) → HaveNoFaultButMany rs → chains rs ≡ 0 → (q : Place) → q.tlid ≡ t → told q (all_records (rs ∷ lists)) ≡ told q (all_records lists)
  others_alone rs lists fine none q same = told_both q rs lists ∙ ap (λ (xs : List Record). xs ++ told q (all_records lists)) (silent_at rs fine none q same)

  pub some_here : (lists : List (List Record)) (k : ℕ) (rs : List Record) → slice_get lists k ≡ Some rs → chains rs ≤ chains (all_records lists)
  some_here [] k rs is = absurd (let wrong : None ≡ Some rs = is in cc)
  some_here (one ∷ lists) zero rs is = let same : one ≡ rs = cc in rw (← same) (omega (arith, many_both (key t 49 0) one lists))
  some_here (one ∷ lists) (suc k) rs is = omega (arith, some_here lists k rs is, many_both (key t 49 0) one lists)

  pub two_here : (lists : List (List Record)) (j k : ℕ) (rs others : List Record) → j < k → slice_get lists j ≡ Some rs → slice_get lists k ≡ Some others → chains rs + chains others ≤ chains (all_records lists)
  two_here [] j k rs others before_it one other = absurd (let wrong : None ≡ Some rs = one in cc)
  two_here (first ∷ lists) j zero rs others before_it one other = absurd (omega (arith, before_it))
  two_here (first ∷ lists) zero (suc k) rs others before_it one other =
      let same : first ≡ rs = cc in
      let rest = some_here lists k others other in
      let both = many_both (key t 49 0) first lists in
      rw (← same) (omega (arith, rest, both))
  two_here (first ∷ lists) (suc j) (suc k) rs others before_it one other =
      omega (arith, two_here lists j k rs others (omega (arith, before_it)) one other, many_both (key t 49 0) first lists)

  -- one alone tells the chain: what is told of it is told by that one
  pub alone : (lists : List (List Record)) → AllByRecursion HaveNoFaultButMany lists → (k : ℕ) (rs : List Record) → slice_get lists k ≡ Some rs → 1 ≤ chains rs → chains (all_records lists) ≤ 1
      → (q : Place) → q.tlid ≡ t → told q (all_records lists) ≡ told q rs
  alone [] all k rs is some few q same = absurd (let wrong : None ≡ Some rs = is in cc)
  alone (one ∷ lists) all zero rs is some few q same =
      let here : one ≡ rs = cc in
      let here_some : 1 ≤ chains one = rw here some in
      first_alone one lists all.1 (omega (arith, here_some, few, many_both (key t 49 0) one lists)) q same ∙ ap (told q) here
  alone (one ∷ lists) all (suc k) rs is some few q same =
      let there = some_here lists k rs is in
      let both = many_both (key t 49 0) one lists in
      others_alone one lists all.0 (omega (arith, there, some, few, both)) q same ∙ alone lists all.1 k rs is some (omega (arith, few, both)) q same

  -- two tell the chain: what is told of it is told by this one and another
  pub data AreBeside (all rs other : List Record) : Type 0 where
    before : ((q : Place) → q.tlid ≡ t → told q all ≡ told q rs ++ told q other) → AreBeside all rs other
    behind : ((q : Place) → q.tlid ≡ t → told q all ≡ told q other ++ told q rs) → AreBeside all rs other

  pub record IsBeside (lists : List (List Record)) (k : ℕ) (rs : List Record) : Type 0 where
    pub place : ℕ
    pub other : List Record
    pub is : slice_get lists place ≡ Some other
    pub apart : place ≡ k → ⊥
    pub both : AreBeside (all_records lists) rs other

  record IsAlone (lists : List (List Record)) : Type 0 where
    place : ℕ
    other : List Record
    is : slice_get lists place ≡ Some other
    all : (q : Place) → q.tlid ≡ t → told q (all_records lists) ≡ told q other

  find_alone : (lists : List (List Record)) → AllByRecursion HaveNoFaultButMany lists → chains (all_records lists) ≡ 1 → IsAlone lists
  find_alone [] all one = absurd (omega (arith, one))
  find_alone (rs ∷ lists) all one =
      let both = many_both (key t 49 0) rs lists in
      elim (cases_lt 0 (chains rs)) [
        | inl some ↦ record { place = 0; other = rs; is = refl; all = first_alone rs lists all.1 (omega (arith, some, one, both)) }
        | inr not_here ↦
            let rest = find_alone lists all.1 (omega (arith, not_here, one, both)) in
            record {
              place = suc rest.place;
              other = rest.other;
              is = rest.is;
              all = λ q same. others_alone rs lists all.0 (omega (arith, not_here)) q same ∙ rest.all q same;
            }
      ]

  pub beside : (lists : List (List Record)) → AllByRecursion HaveNoFaultButMany lists → (k : ℕ) (rs : List Record) → slice_get lists k ≡ Some rs → 1 ≤ chains rs → chains (all_records lists) ≡ 2
      → IsBeside lists k rs
  beside [] all k rs is some two = absurd (let wrong : None ≡ Some rs = is in cc)
  beside (one ∷ lists) all zero rs is some two =
      let here : one ≡ rs = cc in
      let once = chain_once one all.0 t in
      let here_some : 1 ≤ chains one = rw here some in
      let both = many_both (key t 49 0) one lists in
      let rest = find_alone lists all.1 (omega (arith, once, here_some, two, both)) in
      record {
        place = suc rest.place;
        other = rest.other;
        is = rest.is;
        apart = λ same. omega (arith, same);
        both = before (λ q same. told_both q one lists ∙ ap (λ (xs : List Record). told q one ++ xs) (rest.all q same) ∙ ap (λ (l : List Record). told q l ++ told q rest.other) here);
      }
  beside (one ∷ lists) all (suc k) rs is some two =
      let both = many_both (key t 49 0) one lists in
      elim (cases_lt 0 (chains one)) [
        | inl here ↦
            let there = some_here lists k rs is in
            record {
              place = 0;
              other = one;
              is = refl;
              apart = λ same. omega (arith, same);
              both = behind (λ q same. told_both q one lists ∙ ap (λ (xs : List Record). told q one ++ xs) (alone lists all.1 k rs is some (omega (arith, here, two, both)) q same));
            }
        | inr not_here ↦
            let rest = beside lists all.1 k rs is some (omega (arith, not_here, two, both)) in
            record {
              place = suc rest.place;
              other = rest.other;
              is = rest.is;
              apart = λ same. rest.apart (omega (arith, same));
              both = moved one lists rs rest.other (others_alone one lists all.0 (omega (arith, not_here))) rest.both;
            }
      ]
    where
      moved : (one : List Record) (lists : List (List Record)) (rs other : List Record) → ((q : Place) → q.tlid ≡ t → told q (all_records (one ∷ lists)) ≡ told q (all_records lists))
          → AreBeside (all_records lists) rs other → AreBeside (all_records (one ∷ lists)) rs other
      moved one lists rs other same (before is) = before (λ q at. same q at ∙ is q at)
      moved one lists rs other same (behind is) = behind (λ q at. same q at ∙ is q at)
