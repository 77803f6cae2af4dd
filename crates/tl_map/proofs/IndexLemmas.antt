use Rattle.std.proofs.Common.{◌≡◌, ℕ, zero, suc, ◌+◌, ◌<◌, Bool, true, false, inl, inr, Option, Some, None, List, [], ◌∷◌, length, map, take, Contains, refl, sym, ap, ◌∙◌, arith}
use Rattle.std.specs.Prelude.{slice_get, is_some}
use Rattle.std.specs.Option.{option_map}
use Rattle.std.specs.Bool.{OnTrue}
use Rattle.std.specs.Cmp.{IsEquivalence, nat_eq_equiv, on_equiv, and_equiv}
use Rattle.std.specs.Cmp.Lexicographic.{nat_list_eq_equiv}
use Rattle.std.specs.Map.{keys_of, lookup}
use Rattle.std.proofs.lemmas.Option.{slice_get-get_or, slice_get-map}
use Rattle.std.proofs.lemmas.Bool.{cases_Bool}
use Rattle.std.proofs.lemmas.List.{length-map}
use Rattle.std.proofs.lemmas.List.Quantifiers.{position-Some}
use Rattle.std.proofs.lemmas.Map.Entries.{place_from_lookup}
use Rattle.std.specs.declared.hash.RandomState.{RandomState}
use Rattle.indexmap.specs.IndexMap.{IndexMap, keys, index_of, IsUnique}
use Rattle.indexmap.proofs.MapLemmas.{index-first}
use Rattle.indexmap.proofs.RemoveLemmas.{own_first}
use Rattle.tl_geom.specs.declared.point.Point.{Point}
use Rattle.tl_record_key.specs.declared.key.PolyKey.{PolyKey}
use Rattle.tl_map_county.specs.declared.polygons.Polygon.{Polygon}
use Rattle.tl_map_county.specs.Rows.{polygon_in}
use Rattle.tl_map_rules.specs.MapOf.{same_key, place_of}
use Rattle.tl_map_rules.specs.MapOf as drawn
use Rattle.tl_map_rules.specs.Faults.{StandsTwice}
use Rattle.tl_map.specs.Keeping.Index.{Numbers, Indexes, entry_of}
use Rattle.tl_map_county.proofs.PlaceLemmas.{contained}
use Rattle.tl_map_rules.proofs.KeyLemmas.{same_key-is, same_key-refl}

-- the places of a map's keys number them
pub numbers_keys : {K X S : Type 0} (eq : K → K → Bool) → IsEquivalence eq → ((x y : K) → eq x y ≡ true → x ≡ y) → (m : IndexMap K X S) → IsUnique eq m → Numbers (keys m) (index_of eq m)
numbers_keys {K} {X} {S} eq laws exact m unique = record { each = λ j k at. each j k (slice_get m.entries j) refl at; only = only }
  where
    each : (j : ℕ) (k : K) (e : Option (K × X)) → slice_get m.entries j ≡ e → slice_get (keys m) j ≡ Some k → index_of eq m k ≡ Some j
    each j k None at key = absurd (let h = sym (slice_get-map (λ (x : K × X). x.0) m.entries j ∙ ap (option_map (λ (x : K × X). x.0)) at) ∙ key in let f : None ≡ Some k = h in cc)
    each j k (Some e) at key =
        let h : Some e.0 ≡ Some k = sym (slice_get-map (λ (x : K × X). x.0) m.entries j ∙ ap (option_map (λ (x : K × X). x.0)) at) ∙ key in
        let same : e.0 ≡ k = cc in
        rw same at (index-first (eq e.0) m.entries j (own_first eq laws m.entries j e.0 e.1 unique at))

    only : (k : K) (n : ℕ) → index_of eq m k ≡ Some n → slice_get (keys m) n ≡ Some k
    only k n here =
        let found = position-Some (eq k) (keys m) n k here in
        slice_get-get_or (keys m) n k found.0 ∙ ap Some (sym (exact k _ found.1))

-- the keys of polygons as entries
pub keys_entries : (ps : List Polygon) → keys_of (map entry_of ps) ≡ drawn.keys ps
keys_entries [] = refl
keys_entries (p ∷ ps) = ap (λ ks. p.key ∷ ks) (keys_entries ps)

-- polygons as entries, and back
pub polygons_entries : (ps : List Polygon) → map polygon_in (map entry_of ps) ≡ ps
polygons_entries [] = refl
polygons_entries (p ∷ ps) = ap (λ qs. p ∷ qs) (polygons_entries ps)

-- an entry of the first polygons has the key that stands there
key_there : (ps : List Polygon) (n i : ℕ) (e : PolyKey × Point) → slice_get (map entry_of (take n ps)) i ≡ Some e → (slice_get (drawn.keys ps) i ≡ Some e.0) × (i < n)
key_there ps zero i e at = absurd (let h : None ≡ Some e = at in cc)
key_there [] (suc n) i e at = absurd (let h : None ≡ Some e = at in cc)
key_there (p ∷ ps) (suc n) zero e at = (let h : entry_of p ≡ e = cc in ap (λ (x : PolyKey × Point). Some x.0) h, omega arith)
key_there (p ∷ ps) (suc n) (suc i) e at = let rest = key_there ps n i e at in (rest.0, omega (arith, rest.1))

-- the place of a key that stands once
pub place_is : (ks : List PolyKey) (k : PolyKey) (n : ℕ) (found : PolyKey → Option ℕ) → Numbers ks found → found k ≡ Some n → place_of ks k ≡ n
place_is ks k n found numbers here = go ks n 0 (numbers.only k n here) (λ j l at. numbers.each j l at ∙ ap Some (omega arith))
  where
    go : (xs : List PolyKey) (m s : ℕ) → slice_get xs m ≡ Some k → ((j : ℕ) (l : PolyKey) → slice_get xs j ≡ Some l → found l ≡ Some (s + j)) → place_of xs k ≡ m
    go [] m s at each = cc
    go (x ∷ xs) zero s at each = let e : x ≡ k = cc in rw (e, same_key-refl k) refl
    go (x ∷ xs) (suc m) s at each = elim (cases_Bool (same_key x k)) [
      | inl same ↦ absurd (
          let e = same_key-is x k same in
          let one = each 0 x refl in
          let two = each (suc m) k at in
          let f : Some (s + 0) ≡ Some (s + suc m) = sym one ∙ rw e two in
          let g : s + 0 ≡ s + suc m = cc in
          omega arith)
      | inr other ↦ rw other (ap suc (go xs m (s + 1) at (λ j l h. each (suc j) l h ∙ ap Some (omega arith))))
    ]

-- a key that a look-up doesn't find is none of the keys
pub not_known : {K : Type 0} (ks : List K) (k : K) (found : K → Option ℕ) → Numbers ks found → found k ≡ None → ¬ Contains ks k
not_known ks k found numbers none has =
    let at : slice_get ks has.0 ≡ Some k = slice_get-get_or ks has.0 k has.1 ∙ ap Some has.2 in
    absurd (let e = numbers.each has.0 k at in cc)

-- a key that a look-up finds is one of the keys
pub known_key : {K : Type 0} (ks : List K) (k : K) (n : ℕ) (found : K → Option ℕ) → Numbers ks found → found k ≡ Some n → Contains ks k
known_key ks k n found numbers here = contained ks n k (numbers.only k n here)

-- a key that is there already stands twice
pub twice_told : (ps : List Polygon) (n : ℕ) (k : PolyKey) (told : Option Point) → slice_get (drawn.keys ps) n ≡ Some k → told ≡ lookup (same_key k) (map entry_of (take n ps)) → is_some told ≡ true → StandsTwice (drawn.keys ps) k
twice_told ps n k None at is told = absurd (let h : false ≡ true = told in cc)
twice_told ps n k (Some v) at is told =
    let place = place_from_lookup (same_key k) (map entry_of (take n ps)) v (sym is) in
    let key = key_there ps n place.0 (place.1, v) place.2 in
    (place.0, n, key.1, key.0 ∙ ap Some (sym (same_key-is k place.1 place.3)), at)

pub none_told : {X : Type 0} (told : Option X) → is_some told ≡ false → told ≡ None
none_told None h = refl
none_told (Some n) h = absurd (let e : true ≡ false = h in cc)

pub key_laws : IsEquivalence same_key
key_laws = and_equiv (on_equiv (λ (k : PolyKey). k.cenid) nat_list_eq_equiv) (on_equiv (λ (k : PolyKey). k.polyid) nat_eq_equiv)

-- an index of polygons has their keys
pub keys_are : (ps : List Polygon) (m : IndexMap PolyKey Point RandomState) → m.entries ≡ map entry_of ps → keys m ≡ drawn.keys ps
keys_are ps m are = ap keys_of are ∙ keys_entries ps

pub index_keys : (ps : List Polygon) (m : IndexMap PolyKey Point RandomState) → m.entries ≡ map entry_of ps → IsUnique same_key m → Indexes (drawn.keys ps) m
index_keys ps m are unique = rw (keys_are ps m are) at (numbers_keys same_key key_laws same_key-is m unique)

pub few_entries : (ps : List Polygon) (m : IndexMap PolyKey Point RandomState) → m.entries ≡ map entry_of ps → length m.entries ≡ length ps
few_entries ps m are = ap length are ∙ length-map ps entry_of

-- the entry that a look-up by number gives has this number
pub number_there : {X S : Type 0} (m : IndexMap PolyKey X S) (n : ℕ) (k : PolyKey) (e : PolyKey × X) → IsUnique same_key m → Some e ≡ slice_get m.entries n → same_key e.0 k ≡ true → index_of same_key m k ≡ Some n
number_there {X} {S} m n k e unique at same =
    let here : e.0 ≡ k = same_key-is e.0 k same in
    rw (← here) (index-first (same_key e.0) m.entries n (own_first same_key key_laws m.entries n e.0 e.1 unique (sym at)))

-- the same, where a test says whether the entry has the key
pub number_tested : {X S : Type 0} (m : IndexMap PolyKey X S) (n : ℕ) (k : PolyKey) (e : PolyKey × X) (test : Bool) → IsUnique same_key m → Some e ≡ slice_get m.entries n → test ≡ same_key e.0 k → OnTrue test (index_of same_key m k ≡ Some n)
number_tested m n k e true unique at is = number_there m n k e unique at (sym is)
number_tested m n k e false unique at is = tt
