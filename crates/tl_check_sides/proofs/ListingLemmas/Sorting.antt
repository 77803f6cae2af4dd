-- Darts that were sorted are all about their nodes.
use Rattle.std.proofs.Common.{◌≡◌, ◌≢◌, ℕ, ◌<◌, List, length, get_or, sym, ap, ◌∙◌, arith}
use Rattle.std.specs.List.Sorted.{IsPermutation}
use Rattle.std.proofs.lemmas.List.{get_or_default}
use Rattle.std.proofs.lemmas.List.Elements.{Contains-get_or}
use Rattle.std.proofs.lemmas.List.Sorted.{All-permutation, Contains-permutation, length_permutation}
use Rattle.tl_map_county.specs.TheMap.{MapChain}
use Rattle.tl_check_sides.specs.Sides.{dart_count}
use Rattle.tl_check_sides.specs.declared.headed.HeadedDart.{HeadedDart}
use Rattle.tl_check_sides.specs.Headed.{AreSorted, IsHeaded, AreHeaded, AreDartsSorted}
use Rattle.tl_check_sides.proofs.CellsLemmas.Places.{AnyTwo, moved}
use Rattle.tl_check_sides.specs.Listing.Keeping.Around.{nowhere, AreAround, IsPlaced}

-- sorted, they are all darts about their nodes
pub around_of : (chains : List MapChain) (old new : List HeadedDart) → AreHeaded chains (dart_count chains) old → IsPermutation old new → AreSorted new → AreAround chains new
around_of chains old new h moves sorted = record {
  nodes = h.nodes;
  are = h.are;
  few = let few = h.few in let l = h.long in omega (arith, few, l, long);
  long = long ∙ h.long;
  each = All-permutation (IsHeaded chains h.nodes) old new moves h.each;
  all = λ d lt. placed d lt;
  once = λ j k lt within. moved_once j k nowhere (λ e. absurd (omega (arith, e, lt))) (omega (arith, lt, within)) within;
  sorted = sorted;
}
  where
    long : length new ≡ length old
    long = length_permutation old new moves

    placed : (d : ℕ) → d < dart_count chains → IsPlaced new d
    placed d lt =
        let l = h.long in
        let within : d < length old = omega (arith, lt, l) in
        let s = get_or old d nowhere in
        let c = Contains-permutation old new s moves (Contains-get_or old d nowhere within) in
        record { place = c.0; within = c.1; is = ap (λ (t : HeadedDart). t.dart) (get_or_default new c.0 nowhere s c.1 ∙ c.2) ∙ h.numbered d nowhere lt }

    moved_once : AnyTwo (λ (s t : HeadedDart). s.dart ≢ t.dart) new
    moved_once = moved (λ (s t : HeadedDart). s.dart ≢ t.dart) old new moves
        (λ i j d ne hi hj same. let l = h.long in ne (sym (h.numbered i d (omega (arith, hi, l))) ∙ same ∙ h.numbered j d (omega (arith, hj, l))))

-- and so are those that the sort gives
pub around_sorted : (chains : List MapChain) (darts : List HeadedDart) → AreDartsSorted chains darts → AreAround chains darts
around_sorted chains darts are = around_of chains are.numbered darts are.headed are.moved are.sorted
