-- The heads and what was seen of the darts that have ids, dart by dart.
use Rattle.std.proofs.Common.{◌≡◌, ◌≢◌, inl, inr, ℕ, ◌+◌, ◌-◌, ◌<◌, ◌≤◌, true, false, eqb, Option, Some, None, List, length, get_or, set, sym, ap, subst, ◌∙◌, get_or-set_same, get_or-set_other, arith}
use Rattle.std.specs.Option.{option_eq}
use Rattle.std.proofs.lemmas.Bool.{cases_lt, cases_eq, eqb-true, eqb-false, true≢false}
use Rattle.std.proofs.lemmas.List.{get_or_default}
use Rattle.tl_map_county.specs.TheMap.{MapChain}
use Rattle.tl_check_sides.specs.Cells.Cells.{HasCell, HaveOneStart}
use Rattle.tl_check_sides.proofs.CellsLemmas.Cells.{one_id}
use Rattle.tl_check_planar.specs.Listing.Orders.{IsPairBefore}
use Rattle.tl_check_sides.specs.declared.listing.starts.CellStart.{CellStart}
use Rattle.tl_check_sides.specs.Listing.CellOdds.{IsFirstWithId, IsFirstOfBoth, AreToldAtOdds}
use Rattle.tl_check_sides.specs.Listing.Keeping.Starts.{no_start, start_at, IsCellStart, AreSorted, IsHeadOf, HaveSeen}
use Rattle.tl_check_sides.proofs.ListingLemmas.StartLemmas.{one_node, one_point}

module _ (chains : List MapChain) (starts : List CellStart) (sorted : AreSorted chains starts) where
  abbrev id : ℕ → ℕ
  id k = (start_at starts k).id

  abbrev node : ℕ → ℕ
  node k = (start_at starts k).node

  abbrev dart : ℕ → ℕ
  dart k = (start_at starts k).dart

  ids_rise : (i j : ℕ) → i ≤ j → j < length starts → id i ≤ id j
  ids_rise i j le within = elim (cases_eq i j) [
    | inl same ↦ rw same (omega arith)
    | inr other ↦ up (sorted.rising i j no_start (omega (arith, le, other)) within)
  ]
    where
      up : IsPairBefore (id i) (dart i) (id j) (dart j) → id i ≤ id j
      up (inl less) = omega (arith, less)
      up (inr same) = let is = same.0 in omega (arith, is)

  -- of one id the darts rise
  darts_rise : (i j : ℕ) → i < j → j < length starts → id i ≡ id j → dart i < dart j
  darts_rise i j lt within same = up (sorted.rising i j no_start lt within)
    where
      up : IsPairBefore (id i) (dart i) (id j) (dart j) → dart i < dart j
      up (inl less) = absurd (omega (arith, less, same))
      up (inr before) = before.1

  true_at : (k : ℕ) → k < length starts → IsCellStart chains (start_at starts k)
  true_at k within = sorted.each k no_start within

  -- a dart with an id has a place with that id
  record IsAt (d i : ℕ) : Type 0 where
    place : ℕ
    within : place < length starts
    is : dart place ≡ d
    same : id place ≡ i

  at_of : (d i : ℕ) → HasCell chains d i → IsAt d i
  at_of d i has =
      let p = sorted.all d i has in
      record { place = p.place; within = p.within; is = p.is; same = one_id chains d (id p.place) i (subst (λ e. HasCell chains e (id p.place)) p.is (true_at p.place p.within).has) has }

  pub head_first : (p head : ℕ) → p < length starts → IsHeadOf starts p head → IsFirstWithId chains (id p) head
  head_first p head within h =
      let b = h.before in
      let here : h.at < length starts = omega (arith, b, within) in
      record {
        has = subst (λ e. HasCell chains e (id p)) (sym h.is) (subst (λ i. HasCell chains (dart h.at) i) h.id (true_at h.at here).has);
        first = λ e lt has.
            let t = at_of e (id p) has in
            let e_is = t.is in
            let head_is = h.is in
            elim (cases_lt t.place h.at) [
              | inl before ↦ elim h.first [
                | inl zero ↦ omega (arith, before, zero)
                | inr first ↦
                    let up = ids_rise t.place (h.at - 1) (omega (arith, before)) (omega (arith, here)) in
                    let on = ids_rise (h.at - 1) h.at (omega arith) here in
                    let same = t.same in
                    let whole = h.id in
                    first (h.at - 1) (omega (arith, before)) (omega (arith, up, on, same, whole))
              ]
              | inr past ↦ elim (cases_eq t.place h.at) [
                | inl same ↦ let d = ap dart same in omega (arith, d, lt, e_is, head_is)
                | inr other ↦ let up = darts_rise h.at t.place (omega (arith, past, other)) t.within (h.id ∙ sym t.same) in omega (arith, up, lt, e_is, head_is)
              ]
            ];
      }

  module _ (p : ℕ) (within : p < length starts) (seen : List (Option ℕ)) (h : HaveSeen starts p seen) where
    -- a dart whose id was seen at its node isn't the first
    pub not_first : get_or seen (node p) None ≡ Some (id p) → (a id_a id_b : ℕ) → ¬ AreToldAtOdds chains a (dart p) id_a id_b
    not_first at a id_a id_b told = elim told [ inl k ↦ never id_b k.other | inr k ↦ never id_b k.other ]
      where
        never : (i : ℕ) → IsFirstOfBoth chains i (dart p) → ⊥
        never i both =
            let k = h.each (node p) (id p) at in
            let before = k.1 in
            let inside : k.0 < length starts = omega (arith, before, within) in
            let lt = darts_rise k.0 p before within k.3 in
            let own : id p ≡ i = one_id chains (dart p) (id p) i (true_at p within).has both.has in
            both.first (dart k.0) lt (one_point chains sorted.nodes (start_at starts k.0) (start_at starts p) sorted.are (true_at k.0 inside) (true_at p within) k.2)
            (subst (λ j. HasCell chains (dart k.0) j) (k.3 ∙ own) (true_at k.0 inside).has)

    -- one whose id wasn't is
    pub is_first : get_or seen (node p) None ≢ Some (id p) → IsFirstOfBoth chains (id p) (dart p)
    is_first unseen = record {
      has = (true_at p within).has;
      first = λ e lt same has.
          let t = at_of e (id p) has in
          let is = t.is in
          let at : node t.place ≡ node p = one_node chains sorted.nodes (start_at starts t.place) (start_at starts p) sorted.are (true_at t.place t.within) (true_at p within) (subst (λ d. HaveOneStart chains d (dart p)) (sym t.is) same) in
          elim (cases_lt t.place p) [
            | inr past ↦ elim (cases_eq t.place p) [
              | inl here ↦ let d = ap dart here in omega (arith, d, is, lt)
              | inr other ↦ let up = darts_rise p t.place (omega (arith, past, other)) t.within (sym t.same) in omega (arith, up, is, lt)
            ]
            | inl before ↦
                let last = h.all t.place before in
                let some = h.each (node t.place) last.0 last.1 in
                let up = ids_rise some.0 p (let b = some.1 in omega (arith, b)) within in
                let low = last.2 in
                let own = some.3 in
                let i_is = t.same in
                let level : last.0 ≡ id p = omega (arith, up, low, own, i_is) in
                unseen (ap (λ m. get_or seen m None) (sym at) ∙ last.1 ∙ ap Some level)
          ];
    }

    pub seen_kept : get_or seen (node p) None ≡ Some (id p) → HaveSeen starts (p + 1) seen
    seen_kept at = record {
      each = λ m i is. let k = h.each m i is in let lt = k.1 in (k.0, omega (arith, lt), k.2, k.3);
      all = λ k lt. elim (cases_lt k p) [
        | inl before ↦ h.all k before
        | inr last ↦ let here : k ≡ p = omega (arith, lt, last) in rw here (id p, at, omega arith)
      ];
    }

    pub seen_more : node p < length seen → HaveSeen starts (p + 1) (set seen (node p) (Some (id p)))
    seen_more room = record {
      each = λ m i is. elim (cases_eq m (node p)) [
        | inl here ↦
            let e : Some (id p) ≡ Some i = sym (get_or-set_same seen (node p) (Some (id p)) None room) ∙ ap (λ n. get_or (set seen (node p) (Some (id p))) n None) (sym here) ∙ is in
            let same : id p ≡ i = cc in
            (p, omega arith, sym here, same)
        | inr other ↦
            let k = h.each m i (sym (get_or-set_other seen (node p) m (Some (id p)) None other) ∙ is) in
            let lt = k.1 in
            (k.0, omega (arith, lt), k.2, k.3)
      ];
      all = λ k lt. elim (cases_eq (node k) (node p)) [
        | inl here ↦ (id p, ap (λ n. get_or (set seen (node p) (Some (id p))) n None) here ∙ get_or-set_same seen (node p) (Some (id p)) None room, ids_rise k p (omega (arith, lt)) within)
        | inr other ↦ elim (cases_lt k p) [
          | inl before ↦ let o = h.all k before in (o.0, get_or-set_other seen (node p) (node k) (Some (id p)) None other ∙ o.1, o.2)
          | inr last ↦ absurd (other (let here : k ≡ p = omega (arith, lt, last) in ap node here))
        ]
      ];
    }

pub seen_none : (starts : List CellStart) (seen : List (Option ℕ)) → ((m : ℕ) → get_or seen m None ≡ None) → HaveSeen starts 0 seen
seen_none starts seen none = record {
  each = λ m i is. let e : None ≡ Some i = sym (none m) ∙ is in absurd cc;
  all = λ k lt. absurd (omega (arith, lt));
}

-- the head of the place before is that of this one, where both have one id
pub head_kept : (starts : List CellStart) (k p head : ℕ) → k + 1 ≡ p → (start_at starts k).id ≡ (start_at starts p).id → IsHeadOf starts k head → IsHeadOf starts p head
head_kept starts k p head e same h = record {
  at = h.at;
  before = let b = h.before in omega (arith, b, e);
  is = h.is;
  id = h.id ∙ same;
  first = elim h.first [ inl zero ↦ inl zero | inr first ↦ inr (λ j before other. first j before (other ∙ sym same)) ];
}

-- what a test of what was seen says
pub seen_same : (seen : List (Option ℕ)) (n i : ℕ) (read : Option ℕ) → n < length seen → read ≡ get_or seen n read → option_eq eqb read (Some i) ≡ true → get_or seen n None ≡ Some i
seen_same seen n i read lt at test = sym (get_or_default seen n read None lt) ∙ sym at ∙ go read test
  where
    go : (o : Option ℕ) → option_eq eqb o (Some i) ≡ true → o ≡ Some i
    go None e = absurd (true≢false (sym e))
    go (Some j) e = ap Some (eqb-true j i e)

pub seen_other : (seen : List (Option ℕ)) (n i : ℕ) (read : Option ℕ) → n < length seen → read ≡ get_or seen n read → option_eq eqb read (Some i) ≡ false → get_or seen n None ≢ Some i
seen_other seen n i read lt at test same = go read (at ∙ get_or_default seen n read None lt ∙ same) test
  where
    go : (o : Option ℕ) → o ≡ Some i → option_eq eqb o (Some i) ≡ false → ⊥
    go None e t = absurd cc
    go (Some j) e t = eqb-false j i t (let f : Some j ≡ Some i = e in cc)
