-- The count of any sides at a point is what the rings add whose rectangles hold it.
use Rattle.std.proofs.Common.{◌≡◌, ◌⊎◌, ◌↔◌, inl, inr, ⊎_elim, ℕ, ◌+◌, ◌*◌, ◌/◌, ◌<◌, ℤ, pos, neg_ℤ, ◌+ℤ◌, Bool, true, false, cond, Option, Some, None, List, [], ◌∷◌, length, map, get_or, refl, sym, ap, ◌∙◌, arith}
use Rattle.std.specs.Prelude.{slice_get, slice_index}
use Rattle.std.specs.List.{concat}
use Rattle.std.specs.Option.{option_map_or}
use Rattle.std.proofs.lemmas.Int.{ints, by_lt_z}
use Rattle.std.proofs.lemmas.Option.{slice_get-get_or}
use Rattle.tl_geom.specs.declared.point.Point.{Point}
use Rattle.tl_geom.specs.declared.rect.Rect.{Rect}
use Rattle.tl_geom.specs.Rectangle.{Holds}
use Rattle.tl_map_county.specs.declared.sides.Side.{Side}
use Rattle.tl_map_county.specs.TheMap.{MapChain}
use Rattle.tl_map_county.specs.Darts.{is_along}
use Rattle.tl_tree_index.specs.Hits.{times, AreHits}
use Rattle.tl_check_sides.specs.Lists.{list_at}
use Rattle.tl_check_sides.specs.Sides.{dart_count, SidesAgree, IsRing}
use Rattle.tl_check_sides.specs.Walks.{AreWalks}
use Rattle.tl_check_inside.specs.Inside.{flanks_at, balance, AreCrossed, IsCount}
use Rattle.tl_check_faces.specs.Crossings.Headings.{AreProper}
use Rattle.tl_check_faces.specs.Crossings.Rings.{crossings, dart_crossings, winding, has_left, ring_count, rings_count, HoldsRing}
use Rattle.tl_check_faces.proofs.CrossingsLemmas.Darts.{no_chain}
use Rattle.tl_check_faces.proofs.CrossingsLemmas.Ends.{even_along, odd_against, half, first_left, last_left}
use Rattle.tl_check_faces.proofs.CrossingsLemmas.Rays.{east_list}
use Rattle.tl_check_faces.proofs.CrossingsLemmas.Signed.{weigh}
use Rattle.tl_check_faces.proofs.CrossingsLemmas.Weighed.{chain_weight, chains_weight, balance_is}
use Rattle.tl_check_faces.proofs.CrossingsLemmas.Adding.{add_below, add_below-none, add_same, add_first, add_pairs, total_below, total_concat}
use Rattle.tl_check_faces.proofs.CrossingsLemmas.Winding.{winds_about_none}
use Rattle.tl_check_faces.proofs.CrossingsLemmas.OneLeft.{dart_adds, counts_whole}

-- ---- the chains count what their darts do

module _ (chains : List MapChain) (q : Point) (c : ℕ) (chain : MapChain) (is : slice_get chains c ≡ Some chain) where
  crossings_by : (d : ℕ) (along : Bool) → d / 2 ≡ c → is_along d ≡ along → dart_crossings chains q d ≡ cond along (crossings q chain.points) (neg_ℤ (crossings q chain.points))
  crossings_by d along e f =
      ap (λ o. option_map_or (λ (z : MapChain). cond (is_along d) (crossings q z.points) (neg_ℤ (crossings q z.points))) o (pos 0)) (half chains c chain is d e)
      ∙ ap (λ b. cond b (crossings q chain.points) (neg_ℤ (crossings q chain.points))) f

  module _ (S : Side → Bool) where
    first_adds : dart_adds chains q S (2 * c) ≡ cond (S chain.left) (crossings q chain.points) (pos 0)
    first_adds =
        ap (λ o. cond (option_map_or S o false) (dart_crossings chains q (2 * c)) (pos 0)) (first_left chains c chain is)
        ∙ ap (λ n. cond (S chain.left) n (pos 0)) (crossings_by (2 * c) true (omega arith) (even_along c))

    last_adds : dart_adds chains q S (2 * c + 1) ≡ cond (S chain.right) (neg_ℤ (crossings q chain.points)) (pos 0)
    last_adds =
        ap (λ o. cond (option_map_or S o false) (dart_crossings chains q (2 * c + 1)) (pos 0)) (last_left chains c chain is)
        ∙ ap (λ n. cond (S chain.right) n (pos 0)) (crossings_by (2 * c + 1) false (omega arith) (odd_against c))

    less : (left right : Bool) (n : ℤ) → cond left n (pos 0) +ℤ cond right (neg_ℤ n) (pos 0) ≡ weigh left right n
    less left true n = omega (arith, ints)
    less left false n = omega (arith, ints)

    pair_adds : dart_adds chains q S (2 * c) +ℤ dart_adds chains q S (2 * c + 1) ≡ chain_weight q S chain
    pair_adds = (λ i. first_adds i +ℤ last_adds i) ∙ less (S chain.left) (S chain.right) (crossings q chain.points)

module _ (q : Point) (S : Side → Bool) where
  weight_of : Option MapChain → ℤ
  weight_of None = pos 0
  weight_of (Some c) = chain_weight q S c

  weight_list : (chains : List MapChain) → add_below (λ c. weight_of (slice_get chains c)) (length chains) ≡ chains_weight q S chains
  unfolding weight_of
  weight_list [] = add_below-none (λ c. weight_of (slice_get [] c))
  weight_list (c ∷ chains) = add_first (λ k. weight_of (slice_get (c ∷ chains) k)) (length chains) ∙ ap (λ n. chain_weight q S c +ℤ n) (weight_list chains)

  darts_weight : (chains : List MapChain) → add_below (dart_adds chains q S) (dart_count chains) ≡ chains_weight q S chains
  unfolding weight_of
  darts_weight chains =
      add_pairs (dart_adds chains q S) (length chains)
      ∙ add_same (λ c. dart_adds chains q S (2 * c) +ℤ dart_adds chains q S (2 * c + 1)) (λ c. weight_of (slice_get chains c)) (length chains) each
      ∙ weight_list chains
    where
      each : (c : ℕ) → c < length chains → dart_adds chains q S (2 * c) +ℤ dart_adds chains q S (2 * c + 1) ≡ weight_of (slice_get chains c)
      each c lt =
          let is : slice_get chains c ≡ Some (get_or chains c no_chain) = slice_get-get_or chains c no_chain lt in
          pair_adds chains q c (get_or chains c no_chain) is S ∙ ap weight_of (sym is)

-- ---- the darts count what the walks do

module _ (chains : List MapChain) (walks : List (List ℕ)) (are : AreWalks chains walks) (q : Point) (S : Side → Bool) where
  walks_weight : add_below (λ k. ring_count chains q S (list_at walks k)) (length walks) ≡ chains_weight q S chains
  walks_weight =
      sym (total_concat (dart_adds chains q S) walks)
      ∙ total_below (dart_adds chains q S) (dart_count chains) (concat walks) (λ d lt. inl (are.hold.once d lt)) are.hold.no_other
      ∙ darts_weight q S chains

-- ---- and the walks what those do whose rectangles hold the point

holds_or : (r : Rect) (q : Point) → Holds r q ⊎ (¬ Holds r q)
holds_or r q =
    by_lt_z q.x r.xmin (λ west. inr (λ h. let k = h.west in omega (arith, ints, west, k)))
    (λ from_west. by_lt_z r.xmax q.x (λ east. inr (λ h. let k = h.east in omega (arith, ints, east, k)))
    (λ from_east. by_lt_z q.y r.ymin (λ south. inr (λ h. let k = h.south in omega (arith, ints, south, k)))
    (λ from_south. by_lt_z r.ymax q.y (λ north. inr (λ h. let k = h.north in omega (arith, ints, north, k)))
    (λ from_north. inl (record { west = from_west; east = from_east; south = from_south; north = from_north })))))

no_winding : (b : Bool) (n : ℤ) → n ≡ pos 0 → cond b n (pos 0) ≡ pos 0
no_winding true n e = e
no_winding false n e = refl

module _ (chains : List MapChain) (walks : List (List ℕ)) (rects : ℕ → Rect) (q : Point) (S : Side → Bool) (hits : List ℕ) where
  module _ (agree : SidesAgree chains) (are : AreWalks chains walks) (hold : (k : ℕ) → k < length walks → HoldsRing chains (rects k) (list_at walks k)) (hit : AreHits (length walks) (λ k. Holds (rects k) q) hits) where
    each : (k : ℕ) → k < length walks → (times k hits ≡ 1) ⊎ (ring_count chains q S (list_at walks k) ≡ pos 0)
    each k lt =
        ⊎_elim
        (λ holds. inl (hit.once k lt holds))
        (λ out.
        let ring : IsRing chains (list_at walks k) = are.rings k lt in
        inr (counts_whole chains agree (list_at walks k) ring q S
        ∙ no_winding (has_left chains S (slice_index (list_at walks k) 0)) (winding chains q (list_at walks k)) (winds_about_none chains q (list_at walks k) ring (rects k) (hold k lt) out)))
        (holds_or (rects k) q)

    hits_weight : rings_count chains q S walks hits ≡ chains_weight q S chains
    hits_weight =
        total_below (λ k. ring_count chains q S (list_at walks k)) (length walks) hits each hit.known
        ∙ walks_weight chains walks are q S

    module _ (proper : AreProper chains) where
      counted : (crossed : List ℕ) → AreCrossed chains q crossed → balance S (map (flanks_at chains) crossed) ≡ rings_count chains q S walks hits
      counted crossed own = balance_is chains proper q crossed own S ∙ sym hits_weight

      pub hits_count : (n : ℤ) → IsCount chains q S n ↔ (n ≡ rings_count chains q S walks hits)
      hits_count n = (
        λ c. c.counted ∙ counted c.crossed c.are,
        λ e.
            let own = east_list chains proper q in
            record { crossed = own.0; are = own.1; counted = e ∙ sym (counted own.0 own.1) },
      )
