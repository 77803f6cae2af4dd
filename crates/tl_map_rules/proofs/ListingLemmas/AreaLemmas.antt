use Rattle.std.proofs.Common.{◌≡◌, ℕ, zero, suc, ◌+◌, ◌<◌, ◌≤◌, true, false, cond, eqb, inl, inr, Option, Some, None, List, [], ◌∷◌, length, map, count_by, get_or, take, Contains, refl, sym, ap, ◌∙◌, subst, arith}
use Rattle.std.specs.Prelude.{Any}
use Rattle.std.specs.List.{flat_map}
use Rattle.std.specs.List.Sorted.{IsPermutation}
use Rattle.std.specs.declared.cmp.Ordering.{Ordering}
use Rattle.std.specs.declared.cmp.Ordering.TheVariants.{Less, Equal, Greater}
use Rattle.std.specs.Ordering.{is_lt, ordering_reverse}
use Rattle.std.specs.Cmp.{IsStrictWeakOrder}
use Rattle.std.proofs.lemmas.Bool.{eq-eqb, eqb-true, cases_Bool}
use Rattle.std.proofs.lemmas.Option.{slice_get-get_or, slice_get_within, get_or_from_slice_get}
use Rattle.std.proofs.lemmas.List.{get_or_default, get_or-map, length-map, get_or-take, length-take-le}
use Rattle.std.proofs.lemmas.List.Elements.{Contains-append_left, Contains-append_right, Contains-append_cases}
use Rattle.std.proofs.lemmas.List.Sorted.{Contains-permutation, IsPermutation-sym, sum_by-IsPermutation, ranks_by, sorted_far}
use Rattle.tl_record_key.specs.declared.key.PolyKey.{PolyKey}
use Rattle.tl_record.specs.declared.record.Record.{Record}
use Rattle.tl_map_rules.specs.declared.entry.SidesEntry.{SidesEntry}
use Rattle.tl_map_rules.specs.declared.entry.LandmarkEntry.{LandmarkEntry}
use Rattle.tl_map_rules.specs.declared.entry.LinkEntry.{LinkEntry}
use Rattle.tl_map_rules.specs.declared.fault.RecordFault.{RecordFault}
use Rattle.tl_map_rules.specs.declared.fault.RecordFault.TheVariants as fault
use Rattle.tl_map_rules.specs.MapOf.{sides_in, polygons_in, landmarks_in, links_in, keys, same_key}
use Rattle.tl_map_rules.specs.Faults.{IsTrueOf, StandsTwice, Names}
use Rattle.tl_map_rules.proofs.CountLemmas.{one_counted}
use Rattle.tl_map_rules.specs.declared.listing.kept.NamedSide.{NamedSide}
use Rattle.tl_map_rules.specs.declared.listing.numbers.Numbered.TheVariants.{LinkWithoutLandmark}
use Rattle.tl_map_rules.specs.Listing.AllFaults.{fault_place}
use Rattle.tl_map_rules.specs.Listing.Kept.{named, names_of}
use Rattle.tl_map_rules.specs.Listing.Keeping.Told.{Tells, AreTold}
use Rattle.tl_map_rules.specs.Listing.Keeping.Numbers.{fault_of, StandsNext, IsMissing}
use Rattle.tl_map_rules.specs.Listing.Keeping.Keys.{parts, parts_cmp, AreByKey, side_fault, link_fault}
use Rattle.tl_map_rules.proofs.ListingLemmas.ToldLemmas.{told_more}
use Rattle.tl_map_rules.proofs.ListingLemmas.CountedLemmas.{count_yes, count_no, counted_stands, stands_counted}
use Rattle.tl_map_rules.proofs.ListingLemmas.OrderLemmas.{twice_there, side_there, link_there}
use Rattle.tl_map_rules.proofs.ListingLemmas.TlidLemmas.{absent, told_missing}
use Rattle.tl_map_rules.proofs.ListingLemmas.KeyLemmas.{parts_total, one_key}
use Rattle.tl_map_rules.proofs.KeyLemmas.{same_key-is, same_key-refl}

-- what stands twice is counted twice
twice_counted : (ks : List PolyKey) (k : PolyKey) → StandsTwice ks k → 2 ≤ count_by (λ l. same_key l k) ks
twice_counted ks k t =
    let i = t.0 in
    let j = t.1 in
    let before : i < j = t.2 in
    let within : j < length ks = slice_get_within ks j k t.4 in
    let first : get_or (take j ks) i k ≡ k = get_or-take j ks i k before ∙ get_or_from_slice_get ks i k k t.3 in
    let part : 1 ≤ count_by (λ l. same_key l k) (take j ks) = stands_counted same_key same_key-refl (take j ks) k (i, omega (arith, length-take-le j ks (omega arith)), first) in
    omega (arith, part, one_counted (λ l. same_key l k) ks j k within (rw (get_or_from_slice_get ks j k k t.4) (same_key-refl k)))

-- what is counted twice stands twice
counted_twice : (ks : List PolyKey) (k : PolyKey) → 2 ≤ count_by (λ l. same_key l k) ks → StandsTwice ks k
counted_twice [] k h = absurd (omega arith)
counted_twice (l ∷ ks) k h = elim (cases_Bool (same_key l k)) [
  | inl met ↦
      let later = counted_stands same_key same_key-is ks k (omega (arith, h, count_yes (λ m. same_key m k) l ks met)) in
      (0, suc later.0, omega arith, ap Some (same_key-is l k met), slice_get-get_or ks later.0 k later.1 ∙ ap Some later.2)
  | inr other ↦
      let rest = counted_twice ks k (omega (arith, h, count_no (λ m. same_key m k) l ks other)) in
      (suc rest.0, suc rest.1, omega (arith, rest.2), rest.3, rest.4)
]

-- neither is less than the other
level : (k l : PolyKey) → is_lt (parts_cmp (parts k) (parts l)) ≡ false → is_lt (parts_cmp (parts l) (parts k)) ≡ false → k ≡ l
level k l a b = one_key k l (go (parts_cmp (parts k) (parts l)) (parts_cmp (parts l) (parts k)) a b (parts_total.antisymm (parts k) (parts l)))
  where
    go : (o p : Ordering) → is_lt o ≡ false → is_lt p ≡ false → o ≡ ordering_reverse p → o ≡ Equal
    go Equal p a b e = refl
    go Less p a b e = absurd (let f : true ≡ false = a in cc)
    go Greater Equal a b e = absurd (let f : Greater ≡ Equal = e in cc)
    go Greater Less a b e = absurd (let f : true ≡ false = b in cc)
    go Greater Greater a b e = absurd (let f : Greater ≡ Less = e in cc)

-- a key that stands twice among sorted keys stands next to itself
next_key : (ks : List PolyKey) (k : PolyKey) → AreByKey ks → StandsTwice ks k → (p : ℕ) × (p + 1 < length ks) × ((d : PolyKey) → get_or ks p d ≡ k) × ((d : PolyKey) → get_or ks (p + 1) d ≡ k)
next_key ks k sorted t =
    let i = t.0 in
    let j = t.1 in
    let before : i < j = t.2 in
    let within : j < length ks = slice_get_within ks j k t.4 in
    let order : IsStrictWeakOrder (λ (x y : PolyKey). is_lt (parts_cmp (parts x) (parts y))) = ranks_by parts_total parts in
    let first : get_or ks i k ≡ k = get_or_from_slice_get ks i k k t.3 in
    let last : get_or ks j k ≡ k = get_or_from_slice_get ks j k k t.4 in
    let a = sorted_far (λ (x y : PolyKey). is_lt (parts_cmp (parts x) (parts y))) order ks sorted i (i + 1) k (omega arith) (omega arith) in
    let b = sorted_far (λ (x y : PolyKey). is_lt (parts_cmp (parts x) (parts y))) order ks sorted (i + 1) j k (omega arith) within in
    let same : get_or ks (i + 1) k ≡ k = level (get_or ks (i + 1) k) k (rw first at a) (rw last at b) in
    (i, omega arith, λ d. get_or_default ks i d k (omega arith) ∙ first, λ d. get_or_default ks (i + 1) d k (omega arith) ∙ same)

-- M8 is told
pub told_duplicate_polygons : (rs : List Record) (codes : List ℕ) (ks : List PolyKey) (old new : List RecordFault) → AreByKey ks → IsPermutation (keys (polygons_in rs)) ks → Tells (StandsNext fault.DuplicatePolygon ks (length ks)) old new → AreTold rs codes old → AreTold rs (8 ∷ codes) new
told_duplicate_polygons rs codes ks old new sorted moved tells before =
    let counts = λ (k : PolyKey). sum_by-IsPermutation (λ (l : PolyKey). cond (same_key l k) 1 0) (keys (polygons_in rs)) ks moved in
    told_more rs codes 8 (StandsNext fault.DuplicatePolygon ks (length ks)) old new
    (λ f s. subst (IsTrueOf rs) (sym s.is) (counted_twice (keys (polygons_in rs)) s.item (omega (arith, counts s.item, twice_counted ks s.item (s.place, s.place + 1, omega arith, slice_get-get_or ks s.place s.item (omega (arith, s.below)) ∙ ap Some (s.first s.item), slice_get-get_or ks (s.place + 1) s.item s.below ∙ ap Some (s.second s.item))))))
    (λ f holds code.
    let k : PolyKey = record { cenid = (fault_place f).2; polyid = (fault_place f).3 } in
    let is : f ≡ fault.DuplicatePolygon k = twice_there f code in
    let twice : StandsTwice (keys (polygons_in rs)) k = subst (IsTrueOf rs) is holds in
    let next = next_key ks k sorted (counted_twice ks k (omega (arith, counts k, twice_counted (keys (polygons_in rs)) k twice))) in
    record { item = k; is = is; place = next.0; below = next.1; within = next.1; first = next.2; second = next.3 })
    tells before

flat_has : {X A : Type 0} (f : X → List A) (xs : List X) (x : X) (y : A) → Contains xs x → Contains (f x) y → Contains (flat_map f xs) y
flat_has f [] x y has own = absurd (omega (arith, has.1))
flat_has f (z ∷ xs) x y (zero, lt, at) own = Contains-append_left (f z) (flat_map f xs) y (subst (λ w. Contains (f w) y) (sym at) own)
flat_has f (z ∷ xs) x y (suc k, lt, at) own = Contains-append_right (f z) (flat_map f xs) y (flat_has f xs x y (k, omega arith, at) own)

has_flat : {X A : Type 0} (f : X → List A) (xs : List X) (y : A) → Contains (flat_map f xs) y → Any (λ x. Contains (f x) y) xs
has_flat f [] y has = absurd (omega (arith, has.1))
has_flat {X} f (z ∷ xs) y has = elim (Contains-append_cases (f z) (flat_map f xs) y has) [
  | inl here ↦ (0, z, omega arith, refl, here)
  | inr later ↦ let rest = has_flat f xs y later in (suc rest.0, rest.1, omega (arith, rest.2), rest.3, rest.4)
]

named_is : (t : ℕ) (o : Option PolyKey) (n : NamedSide) → Contains (named t o) n → (n.tlid ≡ t) × (o ≡ Some n.key)
named_is t None n has = absurd (omega (arith, has.1))
named_is t (Some k) n (zero, lt, at) = (sym (ap (λ (m : NamedSide). m.tlid) at), ap (λ (m : NamedSide). Some m.key) at)
named_is t (Some k) n (suc i, lt, at) = absurd (omega arith)

named_has : (t : ℕ) (o : Option PolyKey) (k : PolyKey) → o ≡ Some k → Contains (named t o) (record { tlid = t; key = k })
named_has t o k e = rw e (0, omega arith, refl)

-- the keys that sides name
names_are : (s : SidesEntry) (n : NamedSide) → Contains (names_of s) n → (s.tlid ≡ n.tlid) × Names s n.key
names_are s n has = elim (Contains-append_cases (named s.tlid s.left) (named s.tlid s.right) n has) [
  | inl left ↦ let is = named_is s.tlid s.left n left in (sym is.0, inl is.1)
  | inr right ↦ let is = named_is s.tlid s.right n right in (sym is.0, inr is.1)
]

names_have : (s : SidesEntry) (k : PolyKey) → Names s k → Contains (names_of s) (record { tlid = s.tlid; key = k })
names_have s k names = elim names [
  | inl left ↦ Contains-append_left (named s.tlid s.left) (named s.tlid s.right) _ (named_has s.tlid s.left k left)
  | inr right ↦ Contains-append_right (named s.tlid s.left) (named s.tlid s.right) _ (named_has s.tlid s.right k right)
]

-- M9 is told
pub told_unknown_sides : (rs : List Record) (codes : List ℕ) (entries : List SidesEntry) (names : List NamedSide) (ks : List PolyKey) (old new : List RecordFault) → IsPermutation (sides_in rs) entries → names ≡ flat_map names_of entries → IsPermutation (keys (polygons_in rs)) ks → Tells (IsMissing side_fault (λ n. n.key) names ks) old new → AreTold rs codes old → AreTold rs (9 ∷ codes) new
told_unknown_sides rs codes entries names ks old new sorted are moved tells before =
    told_more rs codes 9 (IsMissing side_fault (λ (n : NamedSide). n.key) names ks) old new
    (λ f m.
    let named = has_flat names_of entries m.item (rw are at m.among) in
    let is = names_are named.1 m.item named.4 in
    let there : Contains (sides_in rs) named.1 = Contains-permutation entries (sides_in rs) named.1 (IsPermutation-sym (sides_in rs) entries sorted) (named.0, named.2, named.3) in
    subst (IsTrueOf rs) (sym m.is) ((there.0, named.1, there.1, there.2, is), λ has. m.unknown (Contains-permutation (keys (polygons_in rs)) ks m.item.key moved has)))
    (λ f holds code.
    let t = (fault_place f).1 in
    let k : PolyKey = record { cenid = (fault_place f).2; polyid = (fault_place f).3 } in
    let is : f ≡ fault.SideWithoutPolygon t k = side_there f code in
    let true : IsTrueOf rs (fault.SideWithoutPolygon t k) = subst (IsTrueOf rs) is holds in
    let n : NamedSide = record { tlid = t; key = k } in
    record {
      item = n;
      is = is;
      among = rw are (flat_has names_of entries true.0.1 n (Contains-permutation (sides_in rs) entries true.0.1 sorted (true.0.0, true.0.2, true.0.3)) (subst (λ u. Contains (names_of true.0.1) (record { tlid = u; key = k })) true.0.4.0 (names_have true.0.1 k true.0.4.1)));
      unknown = λ has. true.1 (Contains-permutation ks (keys (polygons_in rs)) k (IsPermutation-sym (keys (polygons_in rs)) ks moved) has);
    })
    tells before

-- M11 is told
pub told_unknown_links : (rs : List Record) (codes : List ℕ) (links : List LinkEntry) (ks : List PolyKey) (old new : List RecordFault) → links ≡ links_in rs → IsPermutation (keys (polygons_in rs)) ks → Tells (IsMissing link_fault (λ l. l.key) links ks) old new → AreTold rs codes old → AreTold rs (11 ∷ codes) new
told_unknown_links rs codes links ks old new are moved tells before =
    told_more rs codes 11 (IsMissing link_fault (λ (l : LinkEntry). l.key) links ks) old new
    (λ f m.
    let has = rw are at m.among in
    subst (IsTrueOf rs) (sym m.is) ((has.0, m.item, has.1, has.2, (refl, refl)), λ there. m.unknown (Contains-permutation (keys (polygons_in rs)) ks m.item.key moved there)))
    (λ f holds code.
    let n = (fault_place f).4 in
    let k : PolyKey = record { cenid = (fault_place f).2; polyid = (fault_place f).3 } in
    let is : f ≡ fault.LinkWithoutPolygon k n = link_there f code in
    let true : IsTrueOf rs (fault.LinkWithoutPolygon k n) = subst (IsTrueOf rs) is holds in
    let l : LinkEntry = true.0.1 in
    let same : l ≡ record { key = k; land = n } = λ i. record { key = true.0.4.0 i; land = true.0.4.1 i } in
    record {
      item = record { key = k; land = n };
      is = is;
      among = rw are (subst (Contains (links_in rs)) same (true.0.0, true.0.2, true.0.3));
      unknown = λ has. true.1 (Contains-permutation ks (keys (polygons_in rs)) k (IsPermutation-sym (keys (polygons_in rs)) ks moved) has);
    })
    tells before

has_map : {X : Type 0} (g : X → ℕ) (xs : List X) (n : ℕ) → Contains (map g xs) n → Any (λ x. g x ≡ n) xs
has_map g [] n has = absurd (omega (arith, has.1))
has_map g (x ∷ xs) n (zero, lt, at) = (0, x, omega arith, refl, at)
has_map g (x ∷ xs) n (suc k, lt, at) = let rest = has_map g xs n (k, omega arith, at) in (suc rest.0, rest.1, omega (arith, rest.2), rest.3, rest.4)

map_has : {X : Type 0} (g : X → ℕ) (xs : List X) (n : ℕ) → Any (λ x. g x ≡ n) xs → Contains (map g xs) n
map_has g xs n any = (any.0, omega (arith, any.2, length-map xs g), get_or-map g xs any.0 any.1 n any.2 ∙ ap g any.3 ∙ any.4)

-- M10 is told
pub told_unknown_lands : (rs : List Record) (codes lands landmarks : List ℕ) (old new : List RecordFault) → IsPermutation (map (λ l. l.land) (links_in rs)) lands → IsPermutation (map (λ e. e.land) (landmarks_in rs)) landmarks → Tells (IsMissing (fault_of LinkWithoutLandmark) (λ n. n) lands landmarks) old new → AreTold rs codes old → AreTold rs (10 ∷ codes) new
told_unknown_lands rs codes lands landmarks old new moved known tells before =
    let links = map (λ (l : LinkEntry). l.land) (links_in rs) in
    let marks = map (λ (e : LandmarkEntry). e.land) (landmarks_in rs) in
    let count = λ (n : ℕ). count_by (λ x. eqb x n) links in
    let among = λ (n : ℕ). count_by (λ x. eqb x n) marks in
    told_missing LinkWithoutLandmark rs codes count among lands landmarks old new
    (λ n. sum_by-IsPermutation (λ x. cond (eqb x n) 1 0) links lands moved)
    (λ n. sum_by-IsPermutation (λ x. cond (eqb x n) 1 0) marks landmarks known)
    (λ n some none. (has_map (λ (l : LinkEntry). l.land) (links_in rs) n (counted_stands eqb eqb-true links n some), λ has. omega (arith, none, stands_counted eqb (λ x. eq-eqb x x refl) marks n has)))
    (λ n h. (stands_counted eqb (λ x. eq-eqb x x refl) links n (map_has (λ (l : LinkEntry). l.land) (links_in rs) n h.0), absent (among n) (λ some. h.1 (counted_stands eqb eqb-true marks n some))))
    tells before
