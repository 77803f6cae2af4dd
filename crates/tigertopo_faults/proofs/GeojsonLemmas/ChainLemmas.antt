-- The chains that faults name.
use Rattle.std.proofs.Common.{◌≡◌, ℕ, ◌+◌, ◌<◌, ◌≤◌, true, false, eqb, List, [], ◌∷◌, ◌++◌, length, get_or, take, Option, None, Some, Result, Ok, Err, slice_get, codes, inl, inr, refl, sym, ap, ◌∙◌, arith}
use Rattle.std.specs.Prelude.{is_ok}
use Rattle.std.specs.Option.{option_map_or}
use Rattle.std.specs.List.{flat_map}
use Rattle.std.specs.List.Sorted.{IsPermutation, IsSorted, IsBinarySearchResult}
use Rattle.std.specs.Ordering.{nat_cmp}
use Rattle.std.proofs.lemmas.Bool.{cases_lt, ne_eqb, eq-eqb}
use Rattle.std.proofs.lemmas.List.{get_or_default}
use Rattle.std.proofs.lemmas.Option.{slice_get_cases}
use Rattle.std.proofs.lemmas.List.Folds.{list_any_at, list_any_none}
use Rattle.std.proofs.lemmas.List.Sorted.{searched, IsNonDecreasingBy-from_sort, list_any-IsPermutation}
use Rattle.tl_map_county.specs.declared.polygons.Polygon.{Polygon}
use Rattle.tl_map_county.specs.declared.sides.Side.{Side}
use Rattle.tl_geom.specs.declared.point.Point.{Point}
use Rattle.tl_map_county.specs.TheMap.{TheMap, MapChain, IsChain}
use Rattle.tigertopo_pictures.specs.Geojson.Features.{chain_feature}
use Rattle.tigertopo_pictures.proofs.GeojsonLemmas.TextLemmas.{each_next}
use Rattle.tigertopo_faults.specs.Geojson.Texts.{is_among, named_chain, chains_text}

-- a number that lies between those before a place and those from it on is none of them
other_at : (tlids : List ℕ) (tlid i k d : ℕ) → k < length tlids → (k < i → get_or tlids k 0 < tlid) → (i ≤ k → k < length tlids → tlid < get_or tlids k 0)
    → eqb (get_or tlids k d) tlid ≡ false
other_at tlids tlid i k d within below above =
    let same : get_or tlids k d ≡ get_or tlids k 0 = get_or_default tlids k d 0 within in
    ne_eqb _ _ (λ is. elim (cases_lt k i) [ inl before ↦ let less : get_or tlids k 0 < tlid = below before in omega arith | inr from ↦ let more : tlid < get_or tlids k 0 = above from within in omega arith ])

-- what a search by halving finds is in the list
pub among_found : (tlids : List ℕ) (tlid : ℕ) (r : Result ℕ ℕ) → IsSorted nat_cmp tlids → IsBinarySearchResult (λ t. nat_cmp t tlid) tlids r → is_ok r ≡ is_among tlid tlids
among_found tlids tlid (Ok i) sorted found =
    let at = searched tlids tlid (Ok i) found (λ j k le lt. IsNonDecreasingBy-from_sort (λ t. t) tlids sorted j k 0 le lt) in
    sym (list_any_at (λ t. eqb t tlid) tlids i 0 at.0 (eq-eqb _ _ at.1))
among_found tlids tlid (Err i) sorted found =
    let at = searched tlids tlid (Err i) found (λ j k le lt. IsNonDecreasingBy-from_sort (λ t. t) tlids sorted j k 0 le lt) in
    sym (list_any_none (λ t. eqb t tlid) tlids (λ k d within. other_at tlids tlid i k d within (at.1 k) (at.2 k)))

-- the same chains are named by the same TLIDs in another order
named_same : (polygons : List Polygon) (xs ys : List ℕ) → IsPermutation xs ys → (chains : List MapChain) → flat_map (named_chain polygons xs) chains ≡ flat_map (named_chain polygons ys) chains
named_same polygons xs ys moved [] = refl
named_same polygons xs ys moved (chain ∷ rest) =
    rw (list_any-IsPermutation (λ t. eqb t chain.tlid) xs ys moved, named_same polygons xs ys moved rest) refl

pub chains_same : (drawn : Option TheMap) (xs ys : List ℕ) → IsPermutation xs ys → chains_text drawn xs ≡ chains_text drawn ys
chains_same None xs ys moved = refl
chains_same (Some m) xs ys moved = named_same m.polygons xs ys moved m.chains

-- a chain that was looked up, and is named
pub named_is : (m : TheMap) (tlids : List ℕ) (c tlid : ℕ) (points : List Point) (left right : Side) → IsChain (slice_get m.chains c) tlid points left right
    → is_among tlid tlids ≡ true → codes ",\n" ++ chain_feature None m c ≡ option_map_or (named_chain m.polygons tlids) (slice_get m.chains c) []
named_is m tlids c tlid points left right is named =
    let among : is_among is.chain.tlid tlids ≡ true = ap (λ t. is_among t tlids) (sym is.tlid_is) ∙ named in
    rw (is.is, among) refl

-- one chain more
pub named_next : (m : TheMap) (tlids : List ℕ) (i : ℕ) → i < length m.chains
    → flat_map (named_chain m.polygons tlids) (take i m.chains) ++ option_map_or (named_chain m.polygons tlids) (slice_get m.chains i) []
    ≡ flat_map (named_chain m.polygons tlids) (take (i + 1) m.chains)
named_next m tlids i within = elim ((slice_get_cases m.chains i).1) [
  | inl some ↦ rw some.2 (sym (each_next (named_chain m.polygons tlids) m.chains i some.0 some.2))
  | inr none ↦ absurd (let past : length m.chains ≤ i = none.0 in omega arith)
]
