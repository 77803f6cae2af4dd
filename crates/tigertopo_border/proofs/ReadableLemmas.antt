-- The map that records draw can be told in records.
use Rattle.std.proofs.Common.{◌≡◌, ◌≢◌, ℕ, zero, suc, ◌+◌, ◌-◌, ◌<◌, ◌≤◌, ◌==◌, ◌⊎◌, true, false, cond, inl, inr, List, [], ◌∷◌, ◌++◌, length, map, get_or, Option, Some, None, Contains, count_by, sum_by, refl, sym, ap, subst, ◌∙◌, arith}
use Rattle.std.specs.List.{AllByRecursion, dedup}
use Rattle.std.proofs.lemmas.Bool.{eq-eqb, eqb-true, cases_Bool, cases_lt}
use Rattle.std.proofs.lemmas.List.{length-map}
use Rattle.std.proofs.lemmas.List.Sums.{sum_by-cons}
use Rattle.tl_geom.specs.declared.point.Point.{Point}
use Rattle.tl_record_key.specs.declared.key.PolyKey.{PolyKey}
use Rattle.tl_record.specs.declared.record.Record.{Record}
use Rattle.tl_record.specs.declared.record.Record.TheVariants.{Chain, Shape, Sides, PolyPoint, Landmark, AreaLink}
use Rattle.tl_record.specs.declared.options.Options.{Options}
use Rattle.tl_record.specs.Layout.{layout_with}
use Rattle.tl_record.specs.Records.{records_of}
use Rattle.tl_map_county.specs.declared.polygons.Polygon.{Polygon}
use Rattle.tl_map_county.specs.Chains.{CompleteChain, IsProperChain, segment_count}
use Rattle.tl_map_county.specs.Limits.{most_chains, most_segments}
use Rattle.tl_map_county.specs.Sides.{IsSideAmong}
use Rattle.tl_map_county.specs.TheMap.{TheMap, MapChain}
use Rattle.tl_map_rules.specs.declared.entry.SidesEntry.{SidesEntry}
use Rattle.tl_map_rules.specs.declared.fault.Limited.TheVariants.{Chains, Segments}
use Rattle.tl_map_rules.specs.declared.fault.RecordFault.TheVariants.{DuplicateChain, ShapeWithoutChain, ShapeSequence, ShapeGap, SideWithoutPolygon, DegenerateChain, TooMany}
use Rattle.tl_map_rules.specs.ChainsOf.{is_chain, is_any_chain, is_shape_at, pairs_of, used, segments_of, chain_count, IsDrawn}
use Rattle.tl_record.specs.Joining.{same_point}
use Rattle.tl_map_rules.specs.ChainsOf.{shape_count as count_of_shapes}
use Rattle.tl_map_rules.specs.MapOf.{sides_in, polygons_in, keys, same_key, place_of, side_of, without_sides, IsSided, IsMapOf}
use Rattle.tl_map_rules.specs.Faults.{HaveNoFault, AreShapesNumbered, Names, AreJoined}
use Rattle.tl_map_rules.specs.Reading.{IsReadFrom, records_in}
use Rattle.tl_map_rules.proofs.KeyLemmas.{same_key-refl}
use Rattle.tl_map.proofs.ProperLemmas.{proper_dedup}
use Rattle.tigertopo_border.specs.Border.{inner, start_of, end_of}
use Rattle.tigertopo_border.specs.Spellable.{IsPlaced, IsPair}
use Rattle.tigertopo_border.specs.Readable.{IsTellable, IsReadable}
use Rattle.tigertopo_border.proofs.BlockLemmas.{count_cons}
use Rattle.tigertopo_border.proofs.TlidLemmas.{AreLater, Rise, counted}
use Rattle.tigertopo_border.proofs.FilterLemmas.{rise_from}
use Rattle.tigertopo_border.proofs.ColumnLemmas.{Fits}
use Rattle.tigertopo_border.proofs.JoinedLemmas.{records_fit}
use Rattle.tigertopo_border.proofs.MapLemmas.{fits_there, shape_counted, up_to, used_fine, drawn_few, drawn_start, drawn_end, drawn_inner}
use Rattle.tl_map.proofs.OnceLemmas.{place_below as place_within}

-- ---- polygons

-- the place of a key that stands among others
within_rest : (l : PolyKey) (ks : List PolyKey) (k : PolyKey) → same_key l k ≡ false → (Contains ks k → place_of ks k < length ks) → (i : ℕ) → i < length (l ∷ ks) → get_or (l ∷ ks) i k ≡ k
    → suc (place_of ks k) < length (l ∷ ks)
within_rest l ks k differs rest zero lt at = absurd (let here : same_key l k ≡ true = rw at (same_key-refl k) in cc (sym here, differs))
within_rest l ks k differs rest (suc i) lt at = let low = rest (i, omega (arith, lt), at) in omega (arith, low)

-- the points of polygons
points_placed : (rs : List Record) → AllByRecursion Fits rs → AllByRecursion (λ polygon. IsPlaced polygon.point) (polygons_in rs)
points_placed [] all = tt
points_placed (Chain u from to ∷ rs) all = points_placed rs all.1
points_placed (Shape u k pairs ∷ rs) all = points_placed rs all.1
points_placed (Sides u s e l r ∷ rs) all = points_placed rs all.1
points_placed (PolyPoint key point ∷ rs) all = (all.0, points_placed rs all.1)
points_placed (Landmark land point ∷ rs) all = points_placed rs all.1
points_placed (AreaLink key land ∷ rs) all = points_placed rs all.1

-- ---- how many chains

-- a TLID is that of one chain at most
none_times : (u : ℕ) (cs : List MapChain) → AreLater u cs → sum_by (λ c. cond (u == c.tlid) 1 0) cs ≡ 0
none_times u [] later = refl
none_times u (c ∷ cs) later =
    let lt = later.0 in
    let here : cond {A = ℕ} (u == c.tlid) 1 0 ≡ 0 = other (cases_Bool (u == c.tlid)) lt in
    omega (arith, here, none_times u cs later.1, sum_by-cons (λ (d : MapChain). cond (u == d.tlid) 1 0) c cs)
  where
    other : ((u == c.tlid) ≡ true) ⊎ ((u == c.tlid) ≡ false) → u < c.tlid → cond {A = ℕ} (u == c.tlid) 1 0 ≡ 0
    other (inl is) lt = absurd (let same = eqb-true u c.tlid is in omega (arith, same, lt))
    other (inr is) lt = rw is refl

once_at_most : (u : ℕ) (cs : List MapChain) → Rise cs → sum_by (λ c. cond (u == c.tlid) 1 0) cs ≤ 1
once_at_most u [] rise = omega arith
once_at_most u (c ∷ cs) rise = elim (cases_Bool (u == c.tlid)) [
  | inl is ↦
      let same : u ≡ c.tlid = eqb-true u c.tlid is in
      let here : cond {A = ℕ} (u == c.tlid) 1 0 ≡ 1 = rw is refl in
      let rest : sum_by (λ (d : MapChain). cond (u == d.tlid) 1 0) cs ≡ 0 = none_times u cs (subst (λ t. AreLater t cs) (sym same) rise.0) in
      omega (arith, here, rest, sum_by-cons (λ (d : MapChain). cond (u == d.tlid) 1 0) c cs)
  | inr not ↦
      let here : cond {A = ℕ} (u == c.tlid) 1 0 ≡ 0 = rw not refl in
      omega (arith, here, once_at_most u cs rise.1, sum_by-cons (λ (d : MapChain). cond (u == d.tlid) 1 0) c cs)
]

-- so the type 1 records of all TLIDs are no more than all of type 1
abbrev of_all : List Record → List MapChain → ℕ
of_all rs cs = sum_by (λ c. count_by (is_chain c.tlid) rs) cs

nothing_of : (cs : List MapChain) → of_all [] cs ≡ 0
nothing_of [] = refl
nothing_of (c ∷ cs) = let none : count_by (is_chain c.tlid) [] ≡ 0 = refl in omega (arith, none, nothing_of cs, sum_by-cons (λ (d : MapChain). count_by (is_chain d.tlid) []) c cs)

one_record : (r : Record) (rs : List Record) (cs : List MapChain) → of_all (r ∷ rs) cs ≡ sum_by (λ c. cond (is_chain c.tlid r) 1 0) cs + of_all rs cs
one_record r rs [] = refl
one_record r rs (c ∷ cs) =
    omega (
      arith,
      one_record r rs cs,
      count_cons (is_chain c.tlid) r rs,
      sum_by-cons (λ (d : MapChain). count_by (is_chain d.tlid) (r ∷ rs)) c cs,
      sum_by-cons (λ (d : MapChain). count_by (is_chain d.tlid) rs) c cs,
      sum_by-cons (λ (d : MapChain). cond (is_chain d.tlid r) 1 0) c cs,
    )

other_record : (r : Record) (cs : List MapChain) → ((t : ℕ) → is_chain t r ≡ false) → sum_by (λ c. cond (is_chain c.tlid r) 1 0) cs ≡ 0
other_record r [] not = refl
other_record r (c ∷ cs) not =
    let here : cond {A = ℕ} (is_chain c.tlid r) 1 0 ≡ 0 = rw (not c.tlid) refl in
    omega (arith, here, other_record r cs not, sum_by-cons (λ (d : MapChain). cond (is_chain d.tlid r) 1 0) c cs)

no_more : (rs : List Record) (cs : List MapChain) → Rise cs → of_all rs cs ≤ count_by is_any_chain rs
no_more [] cs rise = omega (arith, nothing_of cs)
no_more (Chain u from to ∷ rs) cs rise = omega (arith, one_record (Chain u from to) rs cs, once_at_most u cs rise, no_more rs cs rise, count_cons is_any_chain (Chain u from to) rs)
no_more (Shape u k pairs ∷ rs) cs rise = omega (arith, one_record (Shape u k pairs) rs cs, other_record (Shape u k pairs) cs (λ t. refl), no_more rs cs rise, count_cons is_any_chain (Shape u k pairs) rs)
no_more (Sides u s e l r ∷ rs) cs rise = omega (arith, one_record (Sides u s e l r) rs cs, other_record (Sides u s e l r) cs (λ t. refl), no_more rs cs rise, count_cons is_any_chain (Sides u s e l r) rs)
no_more (PolyPoint key point ∷ rs) cs rise = omega (arith, one_record (PolyPoint key point) rs cs, other_record (PolyPoint key point) cs (λ t. refl), no_more rs cs rise, count_cons is_any_chain (PolyPoint key point) rs)
no_more (Landmark land point ∷ rs) cs rise = omega (arith, one_record (Landmark land point) rs cs, other_record (Landmark land point) cs (λ t. refl), no_more rs cs rise, count_cons is_any_chain (Landmark land point) rs)
no_more (AreaLink key land ∷ rs) cs rise = omega (arith, one_record (AreaLink key land) rs cs, other_record (AreaLink key land) cs (λ t. refl), no_more rs cs rise, count_cons is_any_chain (AreaLink key land) rs)

each_one : (rs : List Record) (cs : List MapChain) → ((k : ℕ) (d : CompleteChain) → k < length (map without_sides cs) → IsDrawn rs (get_or (map without_sides cs) k d)) → length cs ≤ of_all rs cs
each_one rs [] drawn = omega arith
each_one rs (c ∷ cs) drawn =
    let first = drawn 0 (without_sides c) (omega arith) in
    let one = counted (is_chain c.tlid) rs (Chain c.tlid first.from first.to) first.record_of_it (eq-eqb c.tlid c.tlid refl) in
    omega (arith, one, each_one rs cs (λ k d lt. drawn (suc k) d (omega (arith, lt))), sum_by-cons (λ (d : MapChain). count_by (is_chain d.tlid) rs) c cs)

same_segments : (cs : List MapChain) → segment_count (map without_sides cs) ≡ sum_by (λ c. length c.points - 1) cs
same_segments [] = refl
same_segments (c ∷ cs) =
    omega (arith, sum_by-cons (λ (d : CompleteChain). length d.points - 1) (without_sides c) (map without_sides cs), sum_by-cons (λ (d : MapChain). length d.points - 1) c cs, same_segments cs)

-- ---- the map

module _ (rs : List Record) (m : TheMap) (fit : AllByRecursion Fits rs) (none : HaveNoFault rs) (is : IsMapOf rs m) where
  -- each RTSQ stands once
  numbered : (t : ℕ) → AreShapesNumbered rs t
  numbered t n low high = elim (cases_Bool (count_by (is_shape_at t n) rs == 1)) [
    | inl once ↦ eqb-true (count_by (is_shape_at t n) rs) 1 once
    | inr not ↦ absurd (none (ShapeSequence t) (λ all. cc (sym (eq-eqb (count_by (is_shape_at t n) rs) 1 (all n low high)), not)))
  ]

  few_shapes : (t : ℕ) → count_of_shapes rs t ≤ 999
  few_shapes t = elim (cases_lt 0 (count_of_shapes rs t)) [
    | inl some ↦
        let once = numbered t (count_of_shapes rs t) some (omega arith) in
        let small = shape_counted rs t (count_of_shapes rs t) fit (omega (arith, once)) in
        omega (arith, small)
    | inr zero_of ↦ omega (arith, zero_of)
  ]

  side_among : (t : ℕ) (s : SidesEntry) (key : Option PolyKey) → Contains (sides_in rs) s → s.tlid ≡ t → ((k : PolyKey) → key ≡ Some k → Names s k) → IsSideAmong (length m.polygons) (side_of (keys (polygons_in rs)) key)
  side_among t s None has same names = tt
  side_among t s (Some k) has same names =
      let ks = keys (polygons_in rs) in
      let many : length ks ≡ length m.polygons = length-map (polygons_in rs) (λ (p : Polygon). p.key) ∙ ap (λ (ps : List Polygon). length ps) (sym is.polygons) in
      elim (cases_lt (place_of ks k) (length ks)) [
        | inl lt ↦ omega (arith, lt, many)
        | inr past ↦ absurd (none (SideWithoutPolygon t k) ((has.0, s, has.1, has.2, (same, names k refl)), λ there. let lt = place_within ks k there in omega (arith, lt, past)))
      ]

  tellable : (c : MapChain) → IsDrawn rs (without_sides c) → IsSided rs c → IsTellable (length m.polygons) c
  tellable c drawn sided =
      let fits = fits_there rs (Chain c.tlid drawn.from drawn.to) fit drawn.record_of_it in
      let us = used (pairs_of rs c.tlid) in
      let pairs = up_to rs c.tlid (count_of_shapes rs c.tlid) fit in
      let fine = used_fine (pairs_of rs c.tlid) pairs.1 in
      let points : c.points ≡ dedup same_point (drawn.from ∷ (us ++ drawn.to ∷ [])) = drawn.points in
      let long = ap (λ (ps : List Point). length ps) points in
      let a = pairs.0 in
      let b = fine.0 in
      let several : length (dedup same_point (drawn.from ∷ (us ++ drawn.to ∷ []))) ≢ 1 = λ one. none (DegenerateChain c.tlid) (record {
        once = none (DuplicateChain c.tlid);
        numbered = numbered c.tlid;
        no_gap = none (ShapeGap c.tlid);
        from = drawn.from;
        to = drawn.to;
        record_of_it = drawn.record_of_it;
        one_point = one;
      }) in
      record {
        tlid = fits.0;
        proper = subst IsProperChain (sym points) (proper_dedup drawn.from (us ++ drawn.to ∷ []) several);
        few = omega (arith, long, drawn_few drawn.from drawn.to us, a, b, few_shapes c.tlid);
        start = subst IsPlaced (sym (ap start_of points ∙ drawn_start drawn.from drawn.to us)) fits.1;
        end = subst IsPlaced (sym (ap end_of points ∙ drawn_end drawn.from drawn.to us)) fits.2;
        between = subst (λ ps. AllByRecursion (λ p. IsPair (Some p)) (inner ps)) (sym points) (drawn_inner drawn.from drawn.to us fine.1);
        left = subst (IsSideAmong (length m.polygons)) (sym sided.left) (side_among c.tlid sided.sides sided.sides.left sided.record_of_it sided.tlid (λ k named. inl named));
        right = subst (IsSideAmong (length m.polygons)) (sym sided.right) (side_among c.tlid sided.sides sided.sides.right sided.record_of_it sided.tlid (λ k named. inr named));
      }

  all_tellable : (cs : List MapChain) → ((k : ℕ) (d : CompleteChain) → k < length (map without_sides cs) → IsDrawn rs (get_or (map without_sides cs) k d)) → ((k : ℕ) (d : MapChain) → k < length cs → IsSided rs (get_or cs k d))
      → AllByRecursion (IsTellable (length m.polygons)) cs
  all_tellable [] drawn sided = tt
  all_tellable (c ∷ cs) drawn sided = (
    tellable c (drawn 0 (without_sides c) (omega arith)) (sided 0 c (omega arith)),
    all_tellable cs (λ k d lt. drawn (suc k) d (omega (arith, lt))) (λ k d lt. sided (suc k) d (omega (arith, lt))),
  )

  joined : AreJoined rs
  joined = record {
    once = λ t. none (DuplicateChain t);
    no_stray = λ t. none (ShapeWithoutChain t);
    numbered = numbered;
    no_gap = λ t. none (ShapeGap t);
  }

  few_chains : length m.chains ≤ most_chains
  few_chains = elim (cases_lt most_chains (chain_count rs)) [
    | inl many ↦ absurd (none (TooMany Chains) many)
    | inr few ↦ omega (arith, few, each_one rs m.chains is.chains.drawn, no_more rs m.chains (rise_from m.chains is.chains.rising))
  ]

  few_segments : sum_by (λ c. length c.points - 1) m.chains ≤ most_segments
  few_segments = elim (cases_lt most_segments (segments_of rs)) [
    | inl many ↦ absurd (none (TooMany Segments) (joined, many))
    | inr few ↦ (let same = is.chains.segments in omega (arith, few, same, same_segments m.chains))
  ]

  pub readable : IsReadable m
  readable = record {
    chains = all_tellable m.chains is.chains.drawn is.sides;
    rising = is.chains.rising;
    few_chains = few_chains;
    few_segments = few_segments;
    points = subst (λ ps. AllByRecursion (λ (polygon : Polygon). IsPlaced polygon.point) ps) (sym is.polygons) (points_placed rs fit);
  }

-- the map of a text's records
pub text_readable : (options : Options) (text : List ℕ) (m : TheMap) → IsReadFrom (records_of (layout_with options) text) m → IsReadable m
text_readable options text m is = readable (records_in (records_of (layout_with options) text)) m (records_fit options text) is.no_fault is.map
