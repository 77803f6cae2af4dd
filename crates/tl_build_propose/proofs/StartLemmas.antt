-- Darts that were sorted about their nodes are the chains' starts.
use Rattle.std.proofs.Common.{◌≡◌, ℕ, zero, suc, ◌+◌, ◌*◌, ◌<◌, ◌≤◌, inl, inr, List, [], ◌∷◌, ◌++◌, length, take, get_or, sym, subst, ap₂, ◌∙◌, arith}
use Rattle.std.specs.Prelude.{slice_get}
use Rattle.std.specs.List.Sorted.{IsPermutation}
use Rattle.std.proofs.lemmas.List.{map_more, take_all}
use Rattle.std.proofs.lemmas.List.Elements.{All-weaker}
use Rattle.std.proofs.lemmas.List.Sorted.{IsPermutation-map, All-permutation, length_permutation}
use Rattle.tl_geom.specs.Turning.{east}
use Rattle.tl_geom.specs.declared.point.Point.{Point}
use Rattle.tl_map_county.specs.TheMap.{MapChain}
use Rattle.tl_map_county.specs.Darts.{dart_start}
use Rattle.tl_map_county.proofs.NodeLemmas.{one_list}
use Rattle.tl_tree_index.specs.Lists.{up}
use Rattle.tl_tree_index.proofs.ListLemmas.{up_none, up_more}
use Rattle.tl_check_sides.specs.declared.headed.HeadedDart.{HeadedDart}
use Rattle.tl_check_sides.specs.Headed.{IsHeaded, AreDartsSorted}
use Rattle.tl_build_propose.specs.Keeping.Lists.{darts_in}
use Rattle.tl_build_propose.specs.Keeping.Sorting.{IsStartOf, AreStarts}

-- darts that stand at the places of their numbers, up to one of them
numbers_to : (xs : List HeadedDart) (d : HeadedDart) → ((k : ℕ) → k < length xs → (get_or xs k d).dart ≡ k) → (i : ℕ) → i ≤ length xs
    → darts_in (take i xs) ≡ up i
numbers_to xs d are zero le = sym up_none
numbers_to xs d are (suc i) le =
    let within : i < length xs = omega (arith, le) in
    let next : i + 1 ≡ suc i = omega arith in
    subst (λ k. darts_in (take k xs) ≡ up k) next
    (map_more (λ (s : HeadedDart). s.dart) xs i d within
    ∙ ap₂ (λ (ns : List ℕ) (n : ℕ). ns ++ n ∷ []) (numbers_to xs d are i (omega (arith, le))) (are i within) ∙ sym (up_more i))

-- those of all chains, sorted
pub are_starts : (chains : List MapChain) (darts : List HeadedDart) → AreDartsSorted chains darts → AreStarts chains darts
are_starts chains darts are = record {
  all = subst (λ xs. IsPermutation xs (darts_in darts)) numbers (IsPermutation-map (λ (s : HeadedDart). s.dart) are.numbered darts are.moved);
  long = long ∙ are.headed.long;
  few = let few = are.headed.few in let whole = are.headed.long in omega (arith, few, whole, long);
  each = All-permutation (IsStartOf chains) are.numbered darts are.moved
      (All-weaker (IsHeaded chains are.headed.nodes) (IsStartOf chains) start_of are.numbered are.headed.each);
  sorted = λ k d h before. are.sorted k (k + 1) d (omega arith) h (elim before [ inl less ↦ inl less | inr it ↦ inr (it.0, inl it.1) ]);
}
  where
    long : length darts ≡ length are.numbered
    long = length_permutation are.numbered darts are.moved

    nowhere : HeadedDart
    nowhere = record { node = 0; dart = 0; heading = east }

    numbers : darts_in are.numbered ≡ up (2 * length chains)
    numbers =
        let whole = are.headed.long in
        let each = numbers_to are.numbered nowhere (λ k h. are.headed.numbered k nowhere (omega (arith, h, whole))) (length are.numbered) (omega arith) in
        subst (λ xs. darts_in xs ≡ up (2 * length chains)) (take_all (length are.numbered) are.numbered (omega arith))
        (subst (λ n. darts_in (take (length are.numbered) are.numbered) ≡ up n) whole each)

    start_of : (s : HeadedDart) → IsHeaded chains are.headed.nodes s → IsStartOf chains s
    start_of s is = record {
      starts = λ nodes of. subst (λ (ns : List Point). slice_get ns s.node ≡ dart_start chains s.dart) (one_list (dart_start chains) are.headed.nodes nodes are.headed.are of) is.starts;
      within = λ nodes of. subst (λ (ns : List Point). s.node < length ns) (one_list (dart_start chains) are.headed.nodes nodes are.headed.are of) is.within;
      heads = is.heads;
    }
