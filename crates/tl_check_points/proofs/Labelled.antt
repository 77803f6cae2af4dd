-- The labels of lists.
use Rattle.std.proofs.Common.{◌≡◌, ℕ, ◌≤◌, List, [], ◌∷◌, ◌++◌, refl, sym, ap, subst, ◌∙◌, arith}
use Rattle.std.specs.Prelude.{slice_index}
use Rattle.tl_map_county.specs.TheMap.{MapChain}
use Rattle.tl_tree_index.specs.Hits.{times}
use Rattle.tl_tree_index.proofs.Times.{same_or, times-same, times-other}
use Rattle.tl_check_inside.specs.Keeping.Tallies.{flanks_in}
use Rattle.tl_check_points.specs.declared.labels.Gap.{Gap}
use Rattle.tl_check_points.specs.Keeping.Balances.{HaveOneBalance}
use Rattle.tl_check_points.specs.Keeping.Ways.{TellGap, AreKept}
use Rattle.tl_check_points.specs.Keeping.Labels.{AreLabelled}
use Rattle.tl_check_points.proofs.Balances.{balance_within, flanks_joined}
use Rattle.tl_check_points.proofs.Treed.{still_told, told_by}

module _ (n : ℕ) (chains : List MapChain) where
  -- where gaps are kept, and the labels of its segments
  pub still_labelled : (old new : List Gap) (labels labels' list : List ℕ) → AreKept n old new →
      ((t : ℕ) → 1 ≤ times t list → slice_index labels' t ≡ slice_index labels t) → AreLabelled n chains old labels list →
      AreLabelled n chains new labels' list
  still_labelled old new labels labels' [] kept same all = tt
  still_labelled old new labels labels' (s ∷ rest) kept same all = (
    subst (λ g. TellGap n new g (flanks_in chains (s ∷ rest))) (sym (same s (let one = times-same s s rest refl in omega (arith, one))))
        (still_told n old new (slice_index labels s) (flanks_in chains (s ∷ rest)) kept all.0),
    still_labelled old new labels labels' rest kept (λ t some. same t (one_more t some)) all.1,
  )
    where
      one_more : (t : ℕ) → 1 ≤ times t rest → 1 ≤ times t (s ∷ rest)
      one_more t some =
          same_or t s (λ e. let one = times-same t s rest e in omega (arith, one)) (λ ne. let other = times-other t s rest ne in omega (arith, other, some))

  -- what stands behind
  pub labelled_behind : (gaps : List Gap) (labels xs ys : List ℕ) → AreLabelled n chains gaps labels (xs ++ ys) → AreLabelled n chains gaps labels ys
  labelled_behind gaps labels [] ys all = all
  labelled_behind gaps labels (x ∷ xs) ys all = labelled_behind gaps labels xs ys all.1

  -- in the stead of one part stands another
  pub labelled_within : (old new : List Gap) (labels labels' front outs ins back : List ℕ) →
      HaveOneBalance (flanks_in chains outs) (flanks_in chains ins) → AreKept n old new →
      AreLabelled n chains old labels (front ++ (outs ++ back)) → ((t : ℕ) → 1 ≤ times t front → slice_index labels' t ≡ slice_index labels t) →
      AreLabelled n chains new labels' (ins ++ back) → AreLabelled n chains new labels' (front ++ (ins ++ back))
  labelled_within old new labels labels' [] outs ins back one kept all same behind = behind
  labelled_within old new labels labels' (s ∷ front) outs ins back one kept all same behind = (
    subst (λ g. TellGap n new g (flanks_in chains ((s ∷ front) ++ (ins ++ back))))
        (sym (same s (let one = times-same s s front refl in omega (arith, one))))
        (told_by n new (slice_index labels s) (flanks_in chains ((s ∷ front) ++ (outs ++ back))) (flanks_in chains ((s ∷ front) ++ (ins ++ back)))
        (balance_lists (s ∷ front)) (still_told n old new (slice_index labels s) (flanks_in chains ((s ∷ front) ++ (outs ++ back))) kept all.0)),
    labelled_within old new labels labels' front outs ins back one kept all.1 (λ t some. same t (one_more t some)) behind,
  )
    where
      one_more : (t : ℕ) → 1 ≤ times t front → 1 ≤ times t (s ∷ front)
      one_more t some =
          same_or t s (λ e. let one = times-same t s front e in omega (arith, one)) (λ ne. let other = times-other t s front ne in omega (arith, other, some))

      parts : (xs ys zs : List ℕ) → flanks_in chains (xs ++ (ys ++ zs)) ≡ flanks_in chains xs ++ (flanks_in chains ys ++ flanks_in chains zs)
      parts xs ys zs = flanks_joined chains xs (ys ++ zs) ∙ ap (λ l. flanks_in chains xs ++ l) (flanks_joined chains ys zs)

      balance_lists : (xs : List ℕ) → HaveOneBalance (flanks_in chains (xs ++ (outs ++ back))) (flanks_in chains (xs ++ (ins ++ back)))
      balance_lists xs =
          subst (λ l. HaveOneBalance l (flanks_in chains (xs ++ (ins ++ back)))) (sym (parts xs outs back))
          (subst (λ l. HaveOneBalance (flanks_in chains xs ++ (flanks_in chains outs ++ flanks_in chains back)) l) (sym (parts xs ins back))
          (balance_within (flanks_in chains xs) (flanks_in chains outs) (flanks_in chains ins) (flanks_in chains back) one))
