-- In the rounds of proper chains each dart is next after the one before it.
use Rattle.std.proofs.Common.{◌≡◌, inl, inr, ℕ, zero, suc, ◌+◌, ◌<◌, ◌≤◌, arith, List, [], ◌∷◌, length, refl}
use Rattle.std.specs.Prelude.{slice_index}
use Rattle.std.specs.List.{concat}
use Rattle.std.proofs.lemmas.Bool.{cases_lt}
use Rattle.tl_map_county.specs.TheMap.{MapChain}
use Rattle.tl_tree_index.specs.Hits.{times}
use Rattle.tl_tree_index.proofs.Times.{times-append}
use Rattle.tl_check_sides.specs.Lists.{before, HoldOnce, list_at, times_in}
use Rattle.tl_check_sides.specs.Sides.{dart_count, IsNext}
use Rattle.tl_check_sides.specs.Rounds.{AreRounds}
use Rattle.tl_check_sides.proofs.ListLemmas.{stands, stands_in}
use Rattle.tl_check_sides.proofs.WholeRounds.{HoldAll, next_is_behind}
use Rattle.tl_check_faces.specs.Crossings.Headings.{AreProper}
use Rattle.tl_check_faces.proofs.CrossingsLemmas.Darts.{dart_of}

-- ---- lists that hold each dart once

-- a dart stands in two lists as often as in both together, at the least
pub two_lists : (d : ℕ) (lists : List (List ℕ)) (q r : ℕ) → q < r → r < length lists → times d (list_at lists q) + times d (list_at lists r) ≤ times_in d lists
two_lists d [] q r less h = absurd (omega (arith, h))
two_lists d (xs ∷ lists) q zero less h = absurd (omega (arith, less))
two_lists d (xs ∷ lists) zero (suc r) less h = omega (arith, times-append d xs (concat lists), stands_in d lists r (omega (arith, h)))
two_lists d (xs ∷ lists) (suc q) (suc r) less h = omega (arith, times-append d xs (concat lists), two_lists d lists q r (omega (arith, less)) (omega (arith, h)))

module _ (n : ℕ) (lists : List (List ℕ)) (hold : HoldOnce n lists) where
  pub few : (d : ℕ) → times_in d lists ≤ 1
  few d = elim (cases_lt d n) [ inl dart ↦ omega (arith, hold.once d dart) | inr other ↦ omega (arith, hold.no_other d other) ]

  pub once_at : (d r : ℕ) → r < length lists → times d (list_at lists r) ≤ 1
  once_at d r h = omega (arith, stands_in d lists r h, few d)

  -- what stands in a list is below n
  pub below : (d r : ℕ) → r < length lists → 1 ≤ times d (list_at lists r) → d < n
  below d r h one = elim (cases_lt d n) [ inl dart ↦ dart | inr other ↦ absurd (omega (arith, hold.no_other d other, stands_in d lists r h, one)) ]

  -- a dart stands in one list
  pub one_list : (d q r : ℕ) → q < length lists → r < length lists → 1 ≤ times d (list_at lists q) → 1 ≤ times d (list_at lists r) → q ≡ r
  one_list d q r hq hr at_q at_r = elim (cases_lt q r) [
    | inl less ↦ absurd (omega (arith, two_lists d lists q r less hr, few d, at_q, at_r))
    | inr not ↦ elim (cases_lt r q) [
      | inl more ↦ absurd (omega (arith, two_lists d lists r q more hq, few d, at_q, at_r))
      | inr same ↦ omega (arith, not, same)
    ]
  ]

-- ---- the rounds of chains

module _ (chains : List MapChain) (proper : AreProper chains) (rounds : List (List ℕ)) (are : AreRounds chains rounds) where
  all_held : HoldAll chains rounds
  all_held = record {
    hold = are.hold;
    one_node = are.one_node;
    rising = are.rising;
    headed = λ r hr k h.
        let d = slice_index (list_at rounds r) k in
        let is = dart_of chains proper d (below (dart_count chains) rounds are.hold d r hr (stands (list_at rounds r) k d h refl)) in
        (is.heading, is.heads);
    apart = are.apart;
  }

  pub next_in_round : (r k : ℕ) → r < length rounds → k < length (list_at rounds r) → IsNext chains (before (list_at rounds r) k) (slice_index (list_at rounds r) k)
  next_in_round = next_is_behind chains rounds all_held
