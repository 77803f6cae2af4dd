-- The records of a border have no fault.
use Rattle.std.proofs.Common.{◌≡◌, ℕ, zero, suc, ◌+◌, ◌*◌, ◌<◌, ◌≤◌, ◌==◌, List, [], ◌∷◌, ◌++◌, length, map, get_or, Option, Some, None, Contains, count_by, refl, sym, ap, subst, ◌∙◌, arith}
use Rattle.std.specs.List.{flat_map, filter_map, AllByRecursion}
use Rattle.std.proofs.lemmas.Bool.{eq-eqb}
use Rattle.std.proofs.lemmas.List.{length-map, get_or-map}
use Rattle.std.proofs.lemmas.List.Elements.{filter_map-append}
use Rattle.tl_geom.specs.declared.point.Point.{Point}
use Rattle.tl_record_key.specs.declared.key.PolyKey.{PolyKey}
use Rattle.tl_record.specs.declared.record.Record.{Record}
use Rattle.tl_record.specs.declared.record.Record.TheVariants.{Chain, Shape, Sides}
use Rattle.tl_map_county.specs.declared.polygons.Polygon.{Polygon}
use Rattle.tl_map_county.specs.declared.sides.Side.{Side}
use Rattle.tl_map_county.specs.declared.sides.Side.TheVariants.{Outside, Polygon as InPolygon}
use Rattle.tl_map_county.specs.Sides.{IsSideAmong}
use Rattle.tl_map_county.specs.TheMap.{MapChain}
use Rattle.tl_map_rules.specs.declared.entry.SidesEntry.{SidesEntry}
use Rattle.tl_map_rules.specs.MapOf.{sides_at, polygon_at, landmark_at, link_at, sides_in, polygons_in, landmarks_in, links_in, keys}
use Rattle.tl_map_rules.proofs.CountLemmas.{one_counted}
use Rattle.tigertopo_border.specs.Border.{border_key, side_key, start_of, end_of, inner, pairs_from, shapes_below, shape_count, chain_records, polygon_records}
use Rattle.tigertopo_border.proofs.BlockLemmas.{block}
use Rattle.tigertopo_border.proofs.TlidLemmas.{AreLater, Rise, NoneHas, IsFound, all_of}

-- ---- the chains by themselves

pub none_before : (before : List MapChain) (c : MapChain) (behind : List MapChain) → Rise (before ++ (c ∷ behind)) → NoneHas c.tlid before
none_before [] c behind rise = tt
none_before (b ∷ before) c behind rise = ((λ same. let lt = above b.tlid before c behind rise.0 in omega (arith, lt, same)), none_before before c behind rise.1)
  where
    above : (t : ℕ) (before : List MapChain) (c : MapChain) (behind : List MapChain) → AreLater t (before ++ (c ∷ behind)) → t < c.tlid
    above t [] c behind later = later.0
    above t (b ∷ before) c behind later = above t before c behind later.1

pub none_behind : (before : List MapChain) (c : MapChain) (behind : List MapChain) → Rise (before ++ (c ∷ behind)) → NoneHas c.tlid behind
none_behind [] c behind rise = none c.tlid behind rise.0
  where
    none : (t : ℕ) (cs : List MapChain) → AreLater t cs → NoneHas t cs
    none t [] later = tt
    none t (d ∷ cs) later = let lt = later.0 in ((λ same. omega (arith, lt, same)), none t cs later.1)
none_behind (b ∷ before) c behind rise = none_behind before c behind rise.1

-- a chain of the list is found by its TLID
abbrev pub found_here : (cs before : List MapChain) (c : MapChain) (behind : List MapChain) → Rise cs → cs ≡ before ++ (c ∷ behind) → IsFound c.tlid cs
found_here cs before c behind rise is =
    record { chain = c; before = before; behind = behind; is = is; tlid = refl; none_before = none_before before c behind (subst Rise is rise); none_behind = none_behind before c behind (subst Rise is rise) }

pub each_at : (P : MapChain → Type 0) (cs before : List MapChain) (c : MapChain) (behind : List MapChain) → cs ≡ before ++ (c ∷ behind) → AllByRecursion P cs → P c
each_at P cs before c behind is all = go before (subst (AllByRecursion P) is all)
  where
    go : (before : List MapChain) → AllByRecursion P (before ++ (c ∷ behind)) → P c
    go [] all = all.0
    go (b ∷ before) all = go before all.1

-- ---- records of other types

-- nothing comes of a chain's records
nothing_of_shapes : {Y : Type 0} (h : Record → Option Y) (tlid : ℕ) (points : List Point) (n : ℕ) → ((k : ℕ) (pairs : List (Option Point)) → h (Shape tlid k pairs) ≡ None) → filter_map h (shapes_below tlid points n) ≡ []
nothing_of_shapes h tlid points zero none = refl
nothing_of_shapes h tlid points (suc n) none =
    filter_map-append h (shapes_below tlid points n) (Shape tlid (n + 1) (pairs_from points (10 * n) 10) ∷ [])
    ∙ rw (nothing_of_shapes h tlid points n none, none (n + 1) (pairs_from points (10 * n) 10)) refl

nothing_of_block : {Y : Type 0} (h : Record → Option Y) (name : List ℕ) (c : MapChain) → h (Chain c.tlid (start_of c.points) (end_of c.points)) ≡ None → ((k : ℕ) (pairs : List (Option Point)) → h (Shape c.tlid k pairs) ≡ None)
    → h (Sides c.tlid None None (side_key name c.left) (side_key name c.right)) ≡ None → filter_map h (block name c) ≡ []
unfolding chain_records
nothing_of_block h name c first shapes last =
    filter_map-append h (Chain c.tlid (start_of c.points) (end_of c.points) ∷ shapes_below c.tlid (inner c.points) (shape_count c.points)) (Sides c.tlid None None (side_key name c.left) (side_key name c.right) ∷ [])
    ∙ rw (first, nothing_of_shapes h c.tlid (inner c.points) (shape_count c.points) shapes, last) refl

-- what a type I record of the border says
abbrev pub entry_of : List ℕ → MapChain → SidesEntry
entry_of name c = record { tlid = c.tlid; start_cell = None; end_cell = None; left = side_key name c.left; right = side_key name c.right }

one_entry : (name : List ℕ) (c : MapChain) → sides_in (block name c) ≡ entry_of name c ∷ []
unfolding chain_records
one_entry name c =
    filter_map-append sides_at (Chain c.tlid (start_of c.points) (end_of c.points) ∷ shapes_below c.tlid (inner c.points) (shape_count c.points)) (Sides c.tlid None None (side_key name c.left) (side_key name c.right) ∷ [])
    ∙ rw (nothing_of_shapes sides_at c.tlid (inner c.points) (shape_count c.points) (λ k pairs. refl)) refl

entries_of : (name : List ℕ) (cs : List MapChain) → sides_in (flat_map (block name) cs) ≡ map (entry_of name) cs
entries_of name [] = refl
entries_of name (c ∷ cs) = filter_map-append sides_at (block name c) (flat_map (block name) cs) ∙ rw (one_entry name c, entries_of name cs) refl

no_entries : (name : List ℕ) (polygons : List Polygon) → sides_in (polygon_records name polygons) ≡ []
no_entries name [] = refl
no_entries name (p ∷ rest) = refl

pub sides_are : (name : List ℕ) (cs : List MapChain) (polygons : List Polygon) → sides_in (all_of name cs polygons) ≡ map (entry_of name) cs
sides_are name cs polygons =
    filter_map-append sides_at (flat_map (block name) cs) (polygon_records name polygons) ∙ rw (entries_of name cs, no_entries name polygons) (no_more (map (entry_of name) cs))
  where
    no_more : (xs : List SidesEntry) → xs ++ [] ≡ xs
    no_more [] = refl
    no_more (x ∷ xs) = ap (λ ys. x ∷ ys) (no_more xs)

-- polygons, landmarks and links
no_polygons : (name : List ℕ) (cs : List MapChain) → polygons_in (flat_map (block name) cs) ≡ []
no_polygons name [] = refl
no_polygons name (c ∷ cs) = filter_map-append polygon_at (block name c) (flat_map (block name) cs) ∙ rw (nothing_of_block polygon_at name c refl (λ k pairs. refl) refl, no_polygons name cs) refl

no_landmarks : (name : List ℕ) (cs : List MapChain) → landmarks_in (flat_map (block name) cs) ≡ []
no_landmarks name [] = refl
no_landmarks name (c ∷ cs) = filter_map-append landmark_at (block name c) (flat_map (block name) cs) ∙ rw (nothing_of_block landmark_at name c refl (λ k pairs. refl) refl, no_landmarks name cs) refl

no_links : (name : List ℕ) (cs : List MapChain) → links_in (flat_map (block name) cs) ≡ []
no_links name [] = refl
no_links name (c ∷ cs) = filter_map-append link_at (block name c) (flat_map (block name) cs) ∙ rw (nothing_of_block link_at name c refl (λ k pairs. refl) refl, no_links name cs) refl

-- the border's polygon, if the map has one
abbrev pub first_polygon : List ℕ → List Polygon → List Polygon
first_polygon name [] = []
first_polygon name (polygon ∷ rest) = record { key = border_key name; point = polygon.point } ∷ []

polygon_alone : (name : List ℕ) (polygons : List Polygon) → polygons_in (polygon_records name polygons) ≡ first_polygon name polygons
polygon_alone name [] = refl
polygon_alone name (p ∷ rest) = refl

pub polygons_are : (name : List ℕ) (cs : List MapChain) (polygons : List Polygon) → polygons_in (all_of name cs polygons) ≡ first_polygon name polygons
polygons_are name cs polygons = filter_map-append polygon_at (flat_map (block name) cs) (polygon_records name polygons) ∙ rw (no_polygons name cs) (polygon_alone name polygons)

none_of_last : (name : List ℕ) (polygons : List Polygon) → (landmarks_in (polygon_records name polygons) ≡ []) × (links_in (polygon_records name polygons) ≡ [])
none_of_last name [] = (refl, refl)
none_of_last name (p ∷ rest) = (refl, refl)

pub landmarks_are : (name : List ℕ) (cs : List MapChain) (polygons : List Polygon) → landmarks_in (all_of name cs polygons) ≡ []
landmarks_are name cs polygons = filter_map-append landmark_at (flat_map (block name) cs) (polygon_records name polygons) ∙ rw (no_landmarks name cs) (none_of_last name polygons).0

pub links_are : (name : List ℕ) (cs : List MapChain) (polygons : List Polygon) → links_in (all_of name cs polygons) ≡ []
links_are name cs polygons = filter_map-append link_at (flat_map (block name) cs) (polygon_records name polygons) ∙ rw (no_links name cs) (none_of_last name polygons).1

pub one_polygon : (name : List ℕ) (polygons : List Polygon) → length (first_polygon name polygons) ≤ 1
one_polygon name [] = omega arith
one_polygon name (p ∷ rest) = omega arith

-- ---- what stands there

-- a number of a list's items is one of them
pub number_counted : (xs : List SidesEntry) (t : ℕ) → Contains (map (λ (s : SidesEntry). s.tlid) xs) t → 1 ≤ count_by (λ (s : SidesEntry). s.tlid == t) xs
number_counted [] t has = let lt = has.1 in absurd (omega (arith, lt))
number_counted (x ∷ xs) t has =
    let long = length-map (x ∷ xs) (λ (s : SidesEntry). s.tlid) in
    let within = has.1 in
    let lt : has.0 < length (x ∷ xs) = omega (arith, within, long) in
    let its : (get_or (x ∷ xs) has.0 x).tlid ≡ t = sym (get_or-map (λ (s : SidesEntry). s.tlid) (x ∷ xs) has.0 x t lt) ∙ has.2 in
    omega (arith, one_counted (λ (s : SidesEntry). s.tlid == t) (x ∷ xs) has.0 x lt (eq-eqb _ _ its))

pub number_there : (xs : List SidesEntry) (entry : SidesEntry) → Contains xs entry → Contains (map (λ (s : SidesEntry). s.tlid) xs) entry.tlid
number_there xs entry has =
    let long = length-map xs (λ (s : SidesEntry). s.tlid) in
    let within = has.1 in
    (has.0, omega (arith, within, long), get_or-map (λ (s : SidesEntry). s.tlid) xs has.0 entry entry.tlid within ∙ ap (λ (s : SidesEntry). s.tlid) has.2)

-- a side names the border's polygon alone
pub named_alone : (name : List ℕ) (n : ℕ) (side : Side) (k : PolyKey) → IsSideAmong n side → side_key name side ≡ Some k → (k ≡ border_key name) × (0 < n)
named_alone name n Outside k among is = absurd (cc is)
named_alone name n (InPolygon p) k among is = let lt = among in ((let e : border_key name ≡ k = cc is in sym e), omega (arith, lt))

-- the map has polygons where one is named
pub polygon_there : (name : List ℕ) (polygons : List Polygon) → 0 < length polygons → Contains (keys (first_polygon name polygons)) (border_key name)
polygon_there name [] some = absurd (omega (arith, some))
polygon_there name (p ∷ rest) some = (0, omega arith, refl)
