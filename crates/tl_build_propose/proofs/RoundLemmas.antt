-- Rounds that are cut of the sorted darts of chains that head apart are the rounds of the chains.
use Rattle.std.proofs.Common.{◌≡◌, inl, inr, ℕ, suc, ◌+◌, ◌<◌, ◌≤◌, arith, List, [], length, Some, slice_index_or, ap, sym, subst, ◌∙◌}
use Rattle.std.specs.Prelude.{slice_get, slice_index}
use Rattle.std.specs.List.{All, Contains}
use Rattle.std.proofs.lemmas.List.{length-map, get_or-map}
use Rattle.std.proofs.lemmas.List.Elements.{All-get_or, All-contains}
use Rattle.tl_geom.specs.declared.point.Point.{Point}
use Rattle.tl_map_county.specs.TheMap.{MapChain}
use Rattle.tl_map_county.specs.Darts.{dart_start, Heads}
use Rattle.tl_map_county.specs.Nodes.{AreNodes}
use Rattle.tl_map_county.proofs.NodeLemmas.{one_number}
use Rattle.tl_tree_index.specs.Hits.{times}
use Rattle.tl_check_sides.specs.Lists.{HoldOnce, list_at}
use Rattle.tl_check_sides.specs.Sides.{dart_count}
use Rattle.tl_check_sides.specs.Rounds.{AreRounds, HasOneNode, AreHeadingsRising, round_start}
use Rattle.tl_check_sides.proofs.ListLemmas.{one_place}
use Rattle.tl_check_sides.proofs.NodeFacts.{starts_first}
use Rattle.tl_check_faces.specs.Crossings.Headings.{HeadApart}
use Rattle.tl_check_faces.proofs.CrossingsLemmas.Rounds.{once_at}
use Rattle.tl_check_sides.specs.declared.headed.HeadedDart.{HeadedDart}
use Rattle.tl_build_propose.specs.Keeping.Lists.{darts_in}
use Rattle.tl_build_propose.specs.Keeping.Sorting.{AreCut, IsGroup, IsStartOf, node_of}
use Rattle.tl_build_propose.proofs.SortLemmas.{compare}
use Rattle.tl_build_propose.proofs.CutLemmas.{some_of}

module _ (chains : List MapChain) (nodes : List Point) (are : AreNodes chains nodes) (starts : List HeadedDart) (each : All (IsStartOf chains) starts) where
  -- ---- one group of darts

  module _ (group : List HeadedDart) (is : IsGroup group) (held : All (Contains starts) group) (d : HeadedDart) where
    start_of : (k : ℕ) → k < length group → IsStartOf chains (slice_index_or group k d)
    start_of k h = All-contains (IsStartOf chains) starts (slice_index_or group k d) each (All-get_or (Contains starts) group k d h held)

    dart_is : (k : ℕ) → k < length group → slice_index (darts_in group) k ≡ (slice_index_or group k d).dart
    dart_is k h = get_or-map (λ (s : HeadedDart). s.dart) group k d 0 h

    node_is : (k : ℕ) → k < length group → (slice_index_or group k d).node ≡ node_of group
    node_is k h = All-get_or (λ (s : HeadedDart). s.node ≡ node_of group) group k d h is.one_node

    starts_there : (k : ℕ) → k < length group → dart_start chains (slice_index_or group k d).dart ≡ slice_get nodes (node_of group)
    starts_there k h = sym ((start_of k h).starts nodes are) ∙ ap (slice_get nodes) (node_is k h)

    round_starts : round_start chains (darts_in group) ≡ slice_get nodes (node_of group)
    round_starts =
        let some : 0 < length (darts_in group) = omega (arith, length-map group (λ (s : HeadedDart). s.dart), is.some) in
        starts_first chains (darts_in group) some ∙ (ap (dart_start chains) (dart_is 0 is.some) ∙ starts_there 0 is.some)

    node_within : node_of group < length nodes
    node_within = subst (λ n. n < length nodes) (node_is 0 is.some) ((start_of 0 is.some).within nodes are)

    one_node : HasOneNode chains (darts_in group)
    one_node k h =
        let within : k < length group = omega (arith, length-map group (λ (s : HeadedDart). s.dart), h) in
        ap (dart_start chains) (dart_is k within) ∙ (starts_there k within ∙ sym round_starts)

    rising : HeadApart chains → ((e : ℕ) → times e (darts_in group) ≤ 1) → AreHeadingsRising chains (darts_in group)
    rising apart once k h =
        let long = length-map group (λ (s : HeadedDart). s.dart) in
        let here : k < length group = omega (arith, long, h) in
        let there : suc k < length group = omega (arith, long, h) in
        let up : k + 1 ≡ suc k = omega arith in
        let s = slice_index_or group k d in
        let t = slice_index_or group (suc k) d in
        let same : s.node ≡ t.node = node_is k here ∙ sym (node_is (suc k) there) in
        elim (compare s t) [
          | inl (inl less) ↦ absurd (omega (arith, same, less))
          | inl (inr below) ↦ record {
            first = s.heading;
            second = t.heading;
            d_heads = subst (λ e. Heads chains e s.heading) (sym (dart_is k here)) (start_of k here).heads;
            e_heads = subst (λ e. Heads chains e t.heading) (sym (dart_is (suc k) there)) (start_of (suc k) there).heads;
            rises = below.1;
          }
          | inr (inl ties) ↦
              let from = (start_of k here).heads in
              let to = (start_of (suc k) there).heads in
              let starts_alike : dart_start chains t.dart ≡ Some from.first = starts_there (suc k) there ∙ (sym (starts_there k here) ∙ from.starts) in
              let one : s.dart ≡ t.dart = apart s.dart t.dart from.first s.heading t.heading from.starts starts_alike from to ties.one in
              let places : k ≡ suc k = one_place s.dart (darts_in group) k (suc k) (once s.dart) (omega (arith, h)) h (dart_is k here) (dart_is (suc k) there ∙ sym one) in
              absurd (omega (arith, places))
          | inr (inr after) ↦ absurd (is.sorted k d (omega (arith, there)) (rw up after))
        ]

  -- ---- all rounds

  module _ (rounds : List (List ℕ)) (cut : AreCut starts [] rounds) where
    group_at : ℕ → List HeadedDart
    group_at r = slice_index_or cut.groups r []

    list_is : (r : ℕ) → r < length cut.groups → list_at rounds r ≡ darts_in (group_at r)
    unfolding group_at
    list_is r h = ap (λ rs. list_at rs r) cut.are ∙ get_or-map darts_in cut.groups r [] [] h

    is_group : (r : ℕ) → r < length cut.groups → IsGroup (group_at r)
    unfolding group_at
    is_group r h = All-get_or IsGroup cut.groups r [] h cut.each

    is_held : (r : ℕ) → r < length cut.groups → All (Contains starts) (group_at r)
    unfolding group_at
    is_held r h = All-get_or (All (Contains starts)) cut.groups r [] h cut.held

    as_many : length rounds ≡ length cut.groups
    as_many = ap length cut.are ∙ length-map cut.groups darts_in

    starts_at : (r : ℕ) → r < length cut.groups → round_start chains (list_at rounds r) ≡ slice_get nodes (node_of (group_at r))
    starts_at r h =
        let g = group_at r in
        let is = is_group r h in
        ap (round_start chains) (list_is r h) ∙ round_starts g is (is_held r h) (some_of g is.some)

    within_at : (r : ℕ) → r < length cut.groups → node_of (group_at r) < length nodes
    within_at r h =
        let g = group_at r in
        let is = is_group r h in
        node_within g is (is_held r h) (some_of g is.some)

    some_at : (r : ℕ) → r < length cut.groups → 0 < length (list_at rounds r)
    some_at r h = omega (arith, ap length (list_is r h), length-map (group_at r) (λ (s : HeadedDart). s.dart), (is_group r h).some)

    rising_nodes : (r s : ℕ) → r < s → s < length cut.groups → node_of (group_at r) < node_of (group_at s)
    unfolding group_at
    rising_nodes r s less h = cut.rising r s [] less h

    pub are_rounds : HoldOnce (dart_count chains) rounds → HeadApart chains → AreRounds chains rounds
    are_rounds hold apart = record {
      hold = hold;
      one_node = λ r h.
          let many : r < length cut.groups = omega (arith, as_many, h) in
          let g = group_at r in
          let is = is_group r many in
          subst (HasOneNode chains) (sym (list_is r many)) (one_node g is (is_held r many) (some_of g is.some));
      rising = λ r h.
          let many : r < length cut.groups = omega (arith, as_many, h) in
          let g = group_at r in
          let is = is_group r many in
          let once : (e : ℕ) → times e (darts_in g) ≤ 1 = λ e. subst (λ xs. times e xs ≤ 1) (list_is r many) (once_at (dart_count chains) rounds hold e r h) in
          subst (AreHeadingsRising chains) (sym (list_is r many)) (rising g is (is_held r many) (some_of g is.some) apart once);
      apart = λ r s node less h at_r at_s.
          let many : s < length cut.groups = omega (arith, as_many, h) in
          let also : r < length cut.groups = omega (arith, less, many) in
          let first = starts_first chains (list_at rounds r) (some_at r also) in
          let second = starts_first chains (list_at rounds s) (some_at s many) in
          let one = (one_number (dart_start chains) nodes (slice_index (list_at rounds r) 0) (slice_index (list_at rounds s) 0) (node_of (group_at r)) (node_of (group_at s)) are
          (within_at r also) (sym (starts_at r also) ∙ first) (sym (starts_at s many) ∙ second)).1 (sym first ∙ (at_r ∙ (sym at_s ∙ second))) in
          omega (arith, rising_nodes r s less many, one);
    }
