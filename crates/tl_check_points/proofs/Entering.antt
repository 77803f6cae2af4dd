-- Segments that enter the list one after the other, from the last to the first.
use Rattle.std.proofs.Common.{◌≡◌, ◌≢◌, ℕ, ◌+◌, ◌<◌, ◌≤◌, List, [], ◌∷◌, ◌++◌, length, take, drop, get_or, refl, sym, ap, subst, ◌∙◌, arith}
use Rattle.std.specs.Prelude.{slice_index}
use Rattle.std.proofs.lemmas.List.{take-append-drop, drop_all, drop_more}
use Rattle.tl_map_county.specs.TheMap.{MapChain}
use Rattle.tl_tree_index.specs.Hits.{times}
use Rattle.tl_tree_index.proofs.Times.{times-same, times-other, times-append}
use Rattle.tl_check_inside.specs.declared.flanks.Flanks.{Flanks}
use Rattle.tl_check_inside.specs.Inside.{flanks_at}
use Rattle.tl_check_inside.specs.Keeping.Tallies.{flanks_in}
use Rattle.tl_check_points.specs.declared.labels.Labels.{Labels}
use Rattle.tl_check_points.specs.Keeping.Balances.{HaveOneBalance}
use Rattle.tl_check_points.specs.Keeping.Ways.{TellGap, AreKept}
use Rattle.tl_check_points.specs.Keeping.Labels.{AreLabelled, IsOnce, HasEntered}
use Rattle.tl_check_points.proofs.Treed.{kept_none, kept_on, still_told}
use Rattle.tl_check_points.proofs.Balances.{same_balance}
use Rattle.tl_check_points.proofs.Labelled.{still_labelled, labelled_behind, labelled_within}

-- those from a place on have entered
pub record IsEntering (n : ℕ) (chains : List MapChain) (old new : Labels) (list : List ℕ) (place east gap : ℕ) : Type 0 where
  pub within : place ≤ length list
  pub kept : AreKept n old.gaps.items new.gaps.items
  pub others : (t : ℕ) → times t (drop place list) ≡ 0 → slice_index new.labels.items t ≡ slice_index old.labels.items t
  pub labelled : (back : List ℕ) → IsOnce (list ++ back) → AreLabelled n chains old.gaps.items old.labels.items back →
      TellGap n old.gaps.items east (flanks_in chains back) →
      AreLabelled n chains new.gaps.items new.labels.items (drop place list ++ back)
      × TellGap n new.gaps.items gap (flanks_in chains (drop place list ++ back))

module _ (n : ℕ) (chains : List MapChain) where
  pub none_entered : (old : Labels) (list : List ℕ) (place east : ℕ) → place ≡ length list → IsEntering n chains old old list place east east
  none_entered old list place east all =
      let none : drop place list ≡ [] = drop_all place list (omega (arith, all)) in
      record {
        within = omega (arith, all);
        kept = kept_none n old.gaps.items;
        others = λ t e. refl;
        labelled = λ back once labelled told. (
          subst (λ l. AreLabelled n chains old.gaps.items old.labels.items (l ++ back)) (sym none) labelled,
          subst (λ l. TellGap n old.gaps.items east (flanks_in chains (l ++ back))) (sym none) told,
        );
      }

  -- one more
  module _ (old mid new : Labels) (list : List ℕ) (place after s east gap g : ℕ) (before : IsEntering n chains old mid list after east gap)
      (next : after ≡ place + 1) (lt : place < length list) (is : s ≡ get_or list place s)
      (kept : AreKept n mid.gaps.items new.gaps.items)
      (told : (flanks : List Flanks) → TellGap n mid.gaps.items gap flanks → TellGap n new.gaps.items g (flanks_at chains s ∷ flanks))
      (label : slice_index new.labels.items s ≡ g)
      (others : (t : ℕ) → t ≢ s → slice_index new.labels.items t ≡ slice_index mid.labels.items t) where
    cut : drop place list ≡ s ∷ drop after list
    cut = drop_more list place s lt ∙ ap (λ x. x ∷ drop (place + 1) list) (sym is) ∙ ap (λ k. s ∷ drop k list) (sym next)

    rest : (t : ℕ) → times t (drop place list) ≡ times t (s ∷ drop after list)
    rest t = ap (times t) cut

    other_labels : (t : ℕ) → times t (drop place list) ≡ 0 → slice_index new.labels.items t ≡ slice_index old.labels.items t
    other_labels t none =
        let ne : t ≢ s = λ e. (let one = times-same t s (drop after list) e in let all = rest t in omega (arith, one, all, none)) in
        others t ne ∙ before.others t (let one = times-other t s (drop after list) ne in let all = rest t in omega (arith, one, all, none))

    apart : (back : List ℕ) → IsOnce (list ++ back) → (t : ℕ) → 1 ≤ times t (drop after list ++ back) → t ≢ s
    apart back once t some e =
        let whole : times t (list ++ back) ≡ times t list + times t back = times-append t list back in
        let parts : times t (take place list ++ drop place list) ≡ times t (take place list) + times t (drop place list) =
        times-append t (take place list) (drop place list) in
        let same : times t (take place list ++ drop place list) ≡ times t list = ap (times t) (take-append-drop place list) in
        let all = rest t in
        let one = times-same t s (drop after list) e in
        let more = times-append t (drop after list) back in
        let few = once t in
        omega (arith, whole, parts, same, all, one, more, few, some)

    pub one_entered : IsEntering n chains old new list place east g
    one_entered = record {
      within = omega (arith, lt);
      kept = kept_on n old.gaps.items mid.gaps.items new.gaps.items before.kept kept;
      others = other_labels;
      labelled = λ back once labelled tell.
          let was = before.labelled back once labelled tell in
          let here : TellGap n new.gaps.items g (flanks_in chains (s ∷ (drop after list ++ back))) = told (flanks_in chains (drop after list ++ back)) was.1 in
          let behind : AreLabelled n chains new.gaps.items new.labels.items (drop after list ++ back) =
          still_labelled n chains mid.gaps.items new.gaps.items mid.labels.items new.labels.items (drop after list ++ back) kept
          (λ t some. others t (apart back once t some)) was.0 in
          let both : AreLabelled n chains new.gaps.items new.labels.items (s ∷ (drop after list ++ back)) =
          (subst (λ k. TellGap n new.gaps.items k (flanks_in chains (s ∷ (drop after list ++ back)))) (sym label) here, behind) in (
            subst (λ l. AreLabelled n chains new.gaps.items new.labels.items (l ++ back)) (sym cut) both,
            subst (λ l. TellGap n new.gaps.items g (flanks_in chains (l ++ back))) (sym cut) here,
          );
    }

  -- all
  pub all_entered : (old new : Labels) (list : List ℕ) (place east gap : ℕ) → place ≡ 0 → IsEntering n chains old new list place east gap →
      HasEntered n chains old new list east gap
  all_entered old new list place east gap first e = record {
    others = λ t none. e.others t (ap (λ k. times t (drop k list)) first ∙ none);
    labelled = λ back once labelled tell.
        let all = e.labelled back once labelled tell in (
          subst (λ k. AreLabelled n chains new.gaps.items new.labels.items (drop k list ++ back)) first all.0,
          subst (λ k. TellGap n new.gaps.items gap (flanks_in chains (drop k list ++ back))) first all.1,
        );
  }

  -- where as much begins at a vertex as ends there, labels west of it stay
  pub vertex_labelled : (old new : Labels) (west outs ins back : List ℕ) (east gap : ℕ) → IsOnce ((west ++ ins) ++ back) →
      HaveOneBalance (flanks_in chains outs) (flanks_in chains ins) → AreKept n old.gaps.items new.gaps.items →
      HasEntered n chains old new ins east gap →
      TellGap n old.gaps.items east (flanks_in chains back) →
      AreLabelled n chains old.gaps.items old.labels.items (west ++ (outs ++ back)) →
      AreLabelled n chains new.gaps.items new.labels.items (west ++ (ins ++ back))
  vertex_labelled old new west outs ins back east gap once one kept entered told all =
      labelled_within n chains old.gaps.items new.gaps.items old.labels.items new.labels.items west outs ins back one kept all
      (λ t some. entered.others t (none_of t some))
      (entered.labelled back once_behind
      (labelled_behind n chains old.gaps.items old.labels.items outs back
      (labelled_behind n chains old.gaps.items old.labels.items west (outs ++ back) all)) told).0
    where
      counts : (t : ℕ) → times t ((west ++ ins) ++ back) ≡ times t west + times t ins + times t back
      counts t = let a = times-append t (west ++ ins) back in let b = times-append t west ins in omega (arith, a, b)

      none_of : (t : ℕ) → 1 ≤ times t west → times t ins ≡ 0
      none_of t some = let a = counts t in let few = once t in omega (arith, a, few, some)

      once_behind : IsOnce (ins ++ back)
      once_behind t = let a = counts t in let few = once t in let b = times-append t ins back in omega (arith, a, few, b)

  -- where a segment stands in the stead of another of the same sides, and has its label
  pub handed_on : (old new : Labels) (west : List ℕ) (out s : ℕ) (back : List ℕ) → IsOnce ((west ++ s ∷ []) ++ back) →
      new.gaps.items ≡ old.gaps.items → flanks_at chains out ≡ flanks_at chains s →
      slice_index new.labels.items s ≡ slice_index old.labels.items out →
      ((t : ℕ) → t ≢ s → slice_index new.labels.items t ≡ slice_index old.labels.items t) →
      AreLabelled n chains old.gaps.items old.labels.items (west ++ ((out ∷ []) ++ back)) →
      AreLabelled n chains new.gaps.items new.labels.items (west ++ ((s ∷ []) ++ back))
  handed_on old new west out s back once gaps alike label others all =
      labelled_within n chains old.gaps.items new.gaps.items old.labels.items new.labels.items west (out ∷ []) (s ∷ []) back
      (subst (λ f. HaveOneBalance (flanks_at chains out ∷ []) (f ∷ [])) alike (same_balance (flanks_at chains out ∷ []))) kept all
      (λ t some. others t (λ e. let a = counts t in let b = times-same t s [] e in let few = once t in omega (arith, a, b, few, some))) (
        subst (λ g. TellGap n new.gaps.items g (flanks_in chains (s ∷ back))) (sym label)
            (still_told n old.gaps.items new.gaps.items (slice_index old.labels.items out) (flanks_in chains (s ∷ back)) kept
            (subst (λ f. TellGap n old.gaps.items (slice_index old.labels.items out) (f ∷ flanks_in chains back)) alike here.0)),
        still_labelled n chains old.gaps.items new.gaps.items old.labels.items new.labels.items back kept
            (λ t some. others t (λ e. let a = counts t in let b = times-same t s [] e in let few = once t in omega (arith, a, b, few, some))) here.1,
      )
    where
      kept : AreKept n old.gaps.items new.gaps.items
      kept = subst (AreKept n old.gaps.items) (sym gaps) (kept_none n old.gaps.items)

      here : AreLabelled n chains old.gaps.items old.labels.items (out ∷ back)
      here = labelled_behind n chains old.gaps.items old.labels.items west (out ∷ back) all

      counts : (t : ℕ) → times t ((west ++ s ∷ []) ++ back) ≡ times t west + times t (s ∷ []) + times t back
      counts t = let a = times-append t (west ++ s ∷ []) back in let b = times-append t west (s ∷ []) in omega (arith, a, b)
