-- The records of a border have no fault.
use Rattle.std.proofs.Common.{◌≡◌, ℕ, zero, suc, ◌+◌, ◌-◌, ◌*◌, ◌<◌, ◌≤◌, ◌==◌, true, false, inl, inr, List, [], ◌∷◌, ◌++◌, length, map, get_or, slice_get, Option, Some, None, Contains, Any, count_by, sum_by, refl, sym, ap, subst, ◌∙◌, arith, append_assoc}
use Rattle.std.specs.List.{flat_map, AllByRecursion}
use Rattle.std.proofs.lemmas.Bool.{eq-eqb}
use Rattle.std.proofs.lemmas.List.{length-map}
use Rattle.std.proofs.lemmas.List.Sums.{sum_by-append, sum_by-cons}
use Rattle.std.proofs.lemmas.Option.{slice_get_within}
use Rattle.tl_geom.specs.declared.point.Point.{Point}
use Rattle.tl_record_key.specs.declared.key.PolyKey.{PolyKey}
use Rattle.tl_record.specs.declared.record.Record.{Record}
use Rattle.tl_record.specs.declared.record.Record.TheVariants.{Chain, Shape, Sides}
use Rattle.tl_map_county.specs.declared.polygons.Polygon.{Polygon}
use Rattle.tl_map_county.specs.Limits.{most_chains, most_segments}
use Rattle.tl_map_county.specs.TheMap.{MapChain}
use Rattle.tl_map_rules.specs.declared.entry.SidesEntry.{SidesEntry}
use Rattle.tl_map_rules.specs.declared.entry.LandmarkEntry.{LandmarkEntry}
use Rattle.tl_map_rules.specs.declared.fault.Limited.TheVariants.{Chains, Segments, Polygons, Landmarks}
use Rattle.tl_map_rules.specs.declared.fault.RecordFault.TheVariants.{DuplicateChain, ShapeWithoutChain, ShapeSequence, ShapeGap, ChainWithoutSides, SidesWithoutChain, DuplicateSides, DuplicatePolygon, SideWithoutPolygon, LinkWithoutLandmark, LinkWithoutPolygon, DegenerateChain, TooMany}
use Rattle.tl_map_rules.specs.ChainsOf.{is_chain, is_any_chain, pairs_up_to, pairs_of, has_gap, points_between, segments_by, segments_of, chain_count}
use Rattle.tl_map_rules.specs.ChainsOf.{shape_count as count_of_shapes}
use Rattle.tl_map_rules.specs.MapOf.{sides_in, polygons_in, landmarks_in, keys, firsts}
use Rattle.tl_map_rules.specs.Faults.{HaveNoFault, HasChain, HasSides, HasPolygon, Names, AreShapesNumbered, StandsTwice}
use Rattle.tigertopo_border.specs.Border.{border_key, side_key, start_of, end_of, inner, pairs_from, shapes_below, shape_count, chain_records, polygon_records}
use Rattle.tigertopo_border.specs.Readable.{IsTellable}
use Rattle.tigertopo_border.proofs.PairLemmas.{no_gap, drawn_again}
use Rattle.tigertopo_border.proofs.BlockLemmas.{block, count_both, own_any}
use Rattle.tigertopo_border.proofs.TlidLemmas.{Rise, IsFound, find, all_of, without, absent_chain, absent_shapes, absent_sides, present_chain, present_sides, present_shapes, present_numbered, chain_contained, sides_contained, pairs_are, counted, one_alone, sides_entry, sides_counted}
use Rattle.tigertopo_border.proofs.FaultLemmas.{found_here, each_at, entry_of, sides_are, first_polygon, polygons_are, landmarks_are, links_are, one_polygon, number_counted, number_there, named_alone, polygon_there}

-- the segments of a list of records
sum_one : (f : Record → ℕ) (tlid : ℕ) (points : List Point) (n : ℕ) → ((k : ℕ) (pairs : List (Option Point)) → f (Shape tlid k pairs) ≡ 0) → sum_by f (shapes_below tlid points n) ≡ 0
sum_one f tlid points zero none = refl
sum_one f tlid points (suc n) none =
    let shape = Shape tlid (n + 1) (pairs_from points (10 * n) 10) in
    let nil : sum_by f [] ≡ 0 = refl in
    omega (arith, sum_by-append f (shapes_below tlid points n) (shape ∷ []), sum_by-cons f shape [], none (n + 1) (pairs_from points (10 * n) 10), sum_one f tlid points n none, nil)

sum_block : (f : Record → ℕ) (name : List ℕ) (c : MapChain) → ((k : ℕ) (pairs : List (Option Point)) → f (Shape c.tlid k pairs) ≡ 0) → f (Sides c.tlid None None (side_key name c.left) (side_key name c.right)) ≡ 0
    → sum_by f (block name c) ≡ f (Chain c.tlid (start_of c.points) (end_of c.points))
unfolding chain_records
sum_block f name c shapes last =
    let first = Chain c.tlid (start_of c.points) (end_of c.points) in
    let side = Sides c.tlid None None (side_key name c.left) (side_key name c.right) in
    let nil : sum_by f [] ≡ 0 = refl in
    omega (
      arith,
      sum_by-append f (first ∷ shapes_below c.tlid (inner c.points) (shape_count c.points)) (side ∷ []),
      sum_by-cons f first (shapes_below c.tlid (inner c.points) (shape_count c.points)),
      sum_by-cons f side [],
      sum_one f c.tlid (inner c.points) (shape_count c.points) shapes,
      last,
      nil,
    )

module _ (name : List ℕ) (cs : List MapChain) (polygons : List Polygon) (rise : Rise cs) (tellable : AllByRecursion (IsTellable (length polygons)) cs) where
  -- a TLID of a type 1 record is one of the chains
  pub found_of : (t : ℕ) (from to : Point) → Contains (all_of name cs polygons) (Chain t from to) → IsFound t cs
  found_of t from to has = elim (find t cs rise) [
    | inl none ↦ absurd (let one = counted (is_chain t) (all_of name cs polygons) (Chain t from to) has (eq-eqb t t refl) in omega (arith, one, absent_chain name cs polygons t none))
    | inr found ↦ found
  ]

  pub is_tellable : (t : ℕ) (found : IsFound t cs) → IsTellable (length polygons) found.chain
  is_tellable t found = each_at (IsTellable (length polygons)) cs found.before found.chain found.behind found.is tellable

  -- the points that a type 1 record draws are the chain's
  pub points_drawn : (t : ℕ) (found : IsFound t cs) → points_between (start_of found.chain.points) (pairs_of (all_of name cs polygons) t) (end_of found.chain.points) ≡ found.chain.points
  points_drawn t found =
      let fine = is_tellable t found in
      let several = fine.proper.several in
      ap (λ pairs. points_between (start_of found.chain.points) pairs (end_of found.chain.points)) (pairs_are name cs polygons t found)
      ∙ drawn_again found.chain.points (10 * shape_count found.chain.points) fine.proper (omega (arith, several))

  pub ends_are : (t : ℕ) (from to : Point) (found : IsFound t cs) → Contains (all_of name cs polygons) (Chain t from to) → (from ≡ start_of found.chain.points) × (to ≡ end_of found.chain.points)
  ends_are t from to found has =
      let same : Chain t from to ≡ Chain t (start_of found.chain.points) (end_of found.chain.points) =
      one_alone (is_chain t) (all_of name cs polygons) (Chain t from to) (Chain t (start_of found.chain.points) (end_of found.chain.points)) (present_chain name cs polygons t found) (eq-eqb t t refl) (eq-eqb t t refl) has
      (chain_contained name cs polygons t found) in
      (cc same, cc same)

  -- ---- faults of chains

  not_repeated : (t : ℕ) → 2 ≤ count_by (is_chain t) (all_of name cs polygons) → ⊥
  not_repeated t two = elim (find t cs rise) [
    | inl none ↦ omega (arith, two, absent_chain name cs polygons t none)
    | inr found ↦ omega (arith, two, present_chain name cs polygons t found)
  ]

  not_stray : (t : ℕ) → 1 ≤ count_of_shapes (all_of name cs polygons) t → count_by (is_chain t) (all_of name cs polygons) ≡ 0 → ⊥
  not_stray t some none_of = elim (find t cs rise) [
    | inl none ↦ omega (arith, some, absent_shapes name cs polygons t none)
    | inr found ↦ omega (arith, none_of, present_chain name cs polygons t found)
  ]

  numbered : (t : ℕ) → AreShapesNumbered (all_of name cs polygons) t
  numbered t n low high = elim (find t cs rise) [
    | inl none ↦ absurd (omega (arith, low, high, absent_shapes name cs polygons t none))
    | inr found ↦ present_numbered name cs polygons t found n low (omega (arith, high, present_shapes name cs polygons t found))
  ]

  not_broken : (t : ℕ) → has_gap (pairs_of (all_of name cs polygons) t) ≡ true → ⊥
  not_broken t gap = elim (find t cs rise) [
    | inl none ↦
        let nothing : pairs_of (all_of name cs polygons) t ≡ [] = ap (pairs_up_to (all_of name cs polygons) t) (absent_shapes name cs polygons t none) in
        let not : has_gap (pairs_of (all_of name cs polygons) t) ≡ false = ap has_gap nothing in
        cc (sym not, gap)
    | inr found ↦
        let not : has_gap (pairs_of (all_of name cs polygons) t) ≡ false = ap has_gap (pairs_are name cs polygons t found) ∙ no_gap (inner found.chain.points) (10 * shape_count found.chain.points) in
        cc (sym not, gap)
  ]

  has_its_sides : (t : ℕ) → HasChain (all_of name cs polygons) t → HasSides (all_of name cs polygons) t
  has_its_sides t has =
      let found = found_of t has.0 has.1 has.2 in
      number_there (sides_in (all_of name cs polygons)) (record { tlid = t; start_cell = None; end_cell = None; left = side_key name found.chain.left; right = side_key name found.chain.right })
      (sides_entry (all_of name cs polygons) t None None (side_key name found.chain.left) (side_key name found.chain.right) (sides_contained name cs polygons t found))

  has_its_chain : (t : ℕ) → HasSides (all_of name cs polygons) t → HasChain (all_of name cs polygons) t
  has_its_chain t has = elim (find t cs rise) [
    | inl none ↦ absurd (let one = number_counted (sides_in (all_of name cs polygons)) t has in omega (arith, one, sides_counted (all_of name cs polygons) t, absent_sides name cs polygons t none))
    | inr found ↦ (start_of found.chain.points, end_of found.chain.points, chain_contained name cs polygons t found)
  ]

  sides_once : (t : ℕ) → 2 ≤ count_by (λ (s : SidesEntry). s.tlid == t) (sides_in (all_of name cs polygons)) → ⊥
  sides_once t two = elim (find t cs rise) [
    | inl none ↦ omega (arith, two, sides_counted (all_of name cs polygons) t, absent_sides name cs polygons t none)
    | inr found ↦ omega (arith, two, sides_counted (all_of name cs polygons) t, present_sides name cs polygons t found)
  ]

  not_degenerate : (t : ℕ) (from to : Point) → Contains (all_of name cs polygons) (Chain t from to) → length (points_between from (pairs_of (all_of name cs polygons) t) to) ≡ 1 → ⊥
  not_degenerate t from to has one =
      let found = found_of t from to has in
      let ends = ends_are t from to found has in
      let several = (is_tellable t found).proper.several in
      let pairs = pairs_of (all_of name cs polygons) t in
      let drawn : points_between from pairs to ≡ found.chain.points =
      ap (λ (p : Point). points_between p pairs to) ends.0 ∙ ap (λ (p : Point). points_between (start_of found.chain.points) pairs p) ends.1 ∙ points_drawn t found in
      let long : length (points_between from (pairs_of (all_of name cs polygons) t) to) ≡ length found.chain.points = ap length drawn in
      omega (arith, one, long, several)

  -- ---- faults of polygons

  polygon_once : (k : PolyKey) → StandsTwice (keys (polygons_in (all_of name cs polygons))) k → ⊥
  polygon_once k twice =
      let same : keys (polygons_in (all_of name cs polygons)) ≡ keys (first_polygon name polygons) = ap keys (polygons_are name cs polygons) in
      let last : slice_get (keys (first_polygon name polygons)) twice.1 ≡ Some k = ap (λ (ks : List PolyKey). slice_get ks twice.1) (sym same) ∙ twice.4 in
      let within = slice_get_within (keys (first_polygon name polygons)) twice.1 k last in
      let lt = twice.2 in
      omega (arith, within, lt, length-map (first_polygon name polygons) (λ (p : Polygon). p.key), one_polygon name polygons)

  -- what an entry names is the border's polygon
  abbrev NamesIt : SidesEntry → Type 0
  NamesIt s = (k : PolyKey) → Names s k → (k ≡ border_key name) × (0 < length polygons)

  names_it : (ds : List MapChain) → AllByRecursion (IsTellable (length polygons)) ds → AllByRecursion NamesIt (map (entry_of name) ds)
  names_it [] all = tt
  names_it (c ∷ ds) all = (here, names_it ds all.1)
    where
      here : (k : PolyKey) → Names (entry_of name c) k → (k ≡ border_key name) × (0 < length polygons)
      here k (inl is) = named_alone name (length polygons) c.left k all.0.left is
      here k (inr is) = named_alone name (length polygons) c.right k all.0.right is

  one_of : (xs : List SidesEntry) (k : ℕ) (s : SidesEntry) → AllByRecursion NamesIt xs → k < length xs → get_or xs k s ≡ s → NamesIt s
  one_of [] k s all lt at = absurd (omega (arith, lt))
  one_of (x ∷ xs) zero s all lt at = subst NamesIt at all.0
  one_of (x ∷ xs) (suc k) s all lt at = one_of xs k s all.1 (omega (arith, lt)) at

  polygon_known : (t : ℕ) (k : PolyKey) → Any (λ s. (s.tlid ≡ t) × Names s k) (sides_in (all_of name cs polygons)) → HasPolygon (all_of name cs polygons) k
  polygon_known t k any =
      let all : AllByRecursion NamesIt (sides_in (all_of name cs polygons)) = subst (AllByRecursion NamesIt) (sym (sides_are name cs polygons)) (names_it cs tellable) in
      let its = one_of (sides_in (all_of name cs polygons)) any.0 any.1 all any.2 any.3 k any.4.1 in
      subst (λ ks. Contains ks k) (sym (ap keys (polygons_are name cs polygons)))
      (subst (λ key. Contains (keys (first_polygon name polygons)) key) (sym its.0) (polygon_there name polygons its.1))

  -- ---- limits

  chains_counted : (ds : List MapChain) → count_by is_any_chain (flat_map (block name) ds) ≡ length ds
  chains_counted [] = refl
  chains_counted (c ∷ ds) = omega (arith, count_both is_any_chain (block name c) (flat_map (block name) ds), own_any name c, chains_counted ds)

  pub chains_are : chain_count (all_of name cs polygons) ≡ length cs
  chains_are = without name cs polygons is_any_chain (λ k point. refl) ∙ chains_counted cs

  own_segments : (before : List MapChain) (c : MapChain) (behind : List MapChain) → cs ≡ before ++ (c ∷ behind) → sum_by (segments_by (all_of name cs polygons)) (block name c) ≡ length c.points - 1
  own_segments before c behind is =
      let found = found_here cs before c behind rise is in
      let long : segments_by (all_of name cs polygons) (Chain c.tlid (start_of c.points) (end_of c.points)) ≡ length c.points - 1 =
      ap (λ (ps : List Point). length ps - 1) (points_drawn c.tlid found) in
      sum_block (segments_by (all_of name cs polygons)) name c (λ k pairs. refl) refl ∙ long

  segments_behind : (before behind : List MapChain) → cs ≡ before ++ behind → sum_by (segments_by (all_of name cs polygons)) (flat_map (block name) behind) ≡ sum_by (λ c. length c.points - 1) behind
  segments_behind before [] is = refl
  segments_behind before (c ∷ behind) is =
      let rest = segments_behind (before ++ (c ∷ [])) behind (is ∙ sym (append_assoc before (c ∷ []) behind)) in
      omega (arith, sum_by-append (segments_by (all_of name cs polygons)) (block name c) (flat_map (block name) behind), own_segments before c behind is, rest, sum_by-cons (λ (d : MapChain). length d.points - 1) c behind)

  last_segments : (ps : List Polygon) → sum_by (segments_by (all_of name cs polygons)) (polygon_records name ps) ≡ 0
  last_segments [] = refl
  last_segments (p ∷ rest) = refl

  pub segments_are : segments_of (all_of name cs polygons) ≡ sum_by (λ c. length c.points - 1) cs
  segments_are =
      omega (arith, sum_by-append (segments_by (all_of name cs polygons)) (flat_map (block name) cs) (polygon_records name polygons), segments_behind [] cs refl, last_segments polygons)

  -- ---- all

  module _ (few : length cs ≤ most_chains) (short : sum_by (λ c. length c.points - 1) cs ≤ most_segments) where
    pub no_fault : HaveNoFault (all_of name cs polygons)
    no_fault (DuplicateChain t) holds = not_repeated t holds
    no_fault (ShapeWithoutChain t) holds = not_stray t holds.0 holds.1
    no_fault (ShapeSequence t) holds = holds (numbered t)
    no_fault (ShapeGap t) holds = not_broken t holds.gap
    no_fault (ChainWithoutSides t) holds = holds.1 (has_its_sides t holds.0)
    no_fault (SidesWithoutChain t) holds = holds.1 (has_its_chain t holds.0)
    no_fault (DuplicateSides t) holds = sides_once t holds
    no_fault (DuplicatePolygon k) holds = polygon_once k holds
    no_fault (SideWithoutPolygon t k) holds = holds.1 (polygon_known t k holds.0)
    no_fault (LinkWithoutLandmark n) holds = let lt = holds.0.2 in omega (arith, lt, ap length (links_are name cs polygons))
    no_fault (LinkWithoutPolygon k n) holds = let lt = holds.0.2 in omega (arith, lt, ap length (links_are name cs polygons))
    no_fault (DegenerateChain t) holds = not_degenerate t holds.from holds.to holds.record_of_it holds.one_point
    no_fault (TooMany Chains) holds = omega (arith, holds, few, chains_are)
    no_fault (TooMany Segments) holds = let many = holds.1 in omega (arith, many, short, segments_are)
    no_fault (TooMany Polygons) holds = let many = ap length (polygons_are name cs polygons) in omega (arith, holds, many, one_polygon name polygons)
    no_fault (TooMany Landmarks) holds = let many : length (firsts (λ (e : LandmarkEntry). e.land) (landmarks_in (all_of name cs polygons))) ≡ 0 = ap (λ (es : List LandmarkEntry). length (firsts (λ (e : LandmarkEntry). e.land) es)) (landmarks_are name cs polygons) in omega (arith, holds, many)
