use Rattle.std.proofs.Common.{◌≡◌, ◌≢◌, ℕ, suc, ◌+◌, ◌<◌, ◌≤◌, Bool, true, false, cond, eqb, not, ◌&&◌, inl, inr, Option, Some, None, List, [], ◌∷◌, ◌++◌, length, drop, map, filter, get_or, Contains, refl, sym, ap, ◌∙◌, arith}
use Rattle.std.specs.Prelude.{nat_eq, is_some, Any}
use Rattle.std.specs.List.{list_any}
use Rattle.std.specs.Map.{keys_of, lookup}
use Rattle.std.specs.Ordering.{nat_cmp, is_lt}
use Rattle.std.proofs.lemmas.Bool.{cases_lt, cases_eq, eq-eqb, ne_eqb}
use Rattle.std.proofs.lemmas.List.{get_or_append_left, at_drop_more, at_drop_all, get_or_default, map_push, length-map, length_push, get_or-map}
use Rattle.std.proofs.Math.Seq.{get_or-append_seam}
use Rattle.std.proofs.lemmas.List.Elements.{Contains-push, Contains-push_cases, Contains-append_left}
use Rattle.std.specs.declared.hash.RandomState.{RandomState}
use Rattle.indexmap.specs.IndexMap.{IndexMap, IsUnique}
use Rattle.tl_geom.specs.declared.point.Point.{Point}
use Rattle.tl_map_rules.specs.declared.entry.LandmarkEntry.{LandmarkEntry}
use Rattle.tl_map_county.specs.declared.limits.TheConstants.{LANDMARK_LIMIT}
use Rattle.tl_map_rules.specs.MapOf.{firsts, firsts_after}
use Rattle.std.specs.List.Sorted.{IsNonDecreasingBy, IsPermutation, IsStableByKey}
use Rattle.std.proofs.lemmas.Bool.Decides.{nat_tests}
use Rattle.tl_record_key.specs.declared.key.PolyKey.{PolyKey}
use Rattle.tl_map_rules.specs.declared.entry.LinkEntry.{LinkEntry}
use Rattle.tl_map.specs.declared.landmarks.Link.{Link}
use Rattle.tl_map.specs.Keeping.Landmarks.{lands, first_of, ListsLandmarks, IsLink, AreLinks, IsLinkUnknown, AreByLandmark}

-- what is listed of the first i records
pub record Listing (entries : List LandmarkEntry) (i : ℕ) (kept : List (ℕ × Option Point)) : Type 0 where
  pub so_far : firsts_after (λ (e : LandmarkEntry). e.land) (map first_of kept) (drop i entries) ≡ firsts (λ (e : LandmarkEntry). e.land) entries
  pub all : (j : ℕ) (d : LandmarkEntry) → j < i → Contains (keys_of kept) (get_or entries j d).land
  pub no_other : (n : ℕ) → Contains (keys_of kept) n → Contains (lands entries) n
  pub few : length kept ≤ LANDMARK_LIMIT

-- nothing is listed of no record
pub listing_none : (entries : List LandmarkEntry) (kept : List (ℕ × Option Point)) → kept ≡ [] → Listing entries 0 kept
listing_none entries kept empty = rw empty (record {
  so_far = refl;
  all = λ j d lt. absurd (omega arith);
  no_other = λ n has. absurd (omega (arith, has.1));
  few = omega arith;
})

-- a LAND that isn't found is of none of the kept records
not_any : (kept : List (ℕ × Option Point)) (m : ℕ) → lookup (nat_eq m) kept ≡ None → list_any (λ y. eqb y.land m) (map first_of kept) ≡ false
not_any [] m absent = refl
not_any (e ∷ es) m absent = elim (cases_eq e.0 m) [
  | inl same ↦ absurd (let here : lookup (nat_eq m) (e ∷ es) ≡ Some e.1 = rw (eq-eqb m e.0 (sym same)) refl in let h : Some e.1 ≡ None = sym here ∙ absent in cc)
  | inr other ↦
      let later : lookup (nat_eq m) es ≡ None = rw (ne_eqb m e.0 (λ same. other (sym same))) at absent in
      rw (ne_eqb e.0 m other) (not_any es m later)
]

-- one that is found is of one of them
any_there : (kept : List (ℕ × Option Point)) (m : ℕ) (told : Option (Option Point)) → told ≡ lookup (nat_eq m) kept → is_some told ≡ true → (list_any (λ y. eqb y.land m) (map first_of kept) ≡ true) × Contains (keys_of kept) m
any_there [] m told is some = absurd (let h : false ≡ true = sym (ap is_some is) ∙ some in cc)
any_there (e ∷ es) m told is some = elim (cases_eq e.0 m) [
  | inl same ↦ (rw (eq-eqb e.0 m same) refl, (0, omega arith, same))
  | inr other ↦
      let later = any_there es m told (rw (ne_eqb m e.0 (λ same. other (sym same))) at is) some in
      (rw (ne_eqb e.0 m other) later.0, (suc later.1.0, omega (arith, later.1.1), later.1.2))
]

-- one record more is kept
so_far_new : (entries : List LandmarkEntry) (i : ℕ) (d : LandmarkEntry) (kept : List (ℕ × Option Point)) → i < length entries → lookup (nat_eq (get_or entries i d).land) kept ≡ None → Listing entries i kept → firsts_after (λ (e : LandmarkEntry). e.land) (map first_of kept ++ get_or entries i d ∷ []) (drop (i + 1) entries) ≡ firsts (λ (e : LandmarkEntry). e.land) entries
so_far_new entries i d kept lt absent before =
    sym (at_drop_more (firsts_after (λ (e : LandmarkEntry). e.land) (map first_of kept)) entries i d lt ∙ rw (not_any kept (get_or entries i d).land absent) refl) ∙ before.so_far

longer : (kept xs : List LandmarkEntry) → length kept ≤ length (firsts_after (λ (e : LandmarkEntry). e.land) kept xs)
longer kept [] = omega arith
longer kept (x ∷ xs) = go (list_any (λ y. eqb y.land x.land) kept) (longer kept xs) (longer (kept ++ x ∷ []) xs)
  where
    go : (b : Bool) → length kept ≤ length (firsts_after (λ (e : LandmarkEntry). e.land) kept xs) → length (kept ++ x ∷ []) ≤ length (firsts_after (λ (e : LandmarkEntry). e.land) (kept ++ x ∷ []) xs) → length kept ≤ length (cond b (firsts_after (λ (e : LandmarkEntry). e.land) kept xs) (firsts_after (λ (e : LandmarkEntry). e.land) (kept ++ x ∷ []) xs))
    go true same more = same
    go false same more = omega (arith, more, length_push kept x)

-- one record more is too many
pub too_many : (entries : List LandmarkEntry) (i : ℕ) (d : LandmarkEntry) (kept : List (ℕ × Option Point)) → i < length entries → lookup (nat_eq (get_or entries i d).land) kept ≡ None → length kept ≡ LANDMARK_LIMIT → Listing entries i kept → LANDMARK_LIMIT < length (firsts (λ (e : LandmarkEntry). e.land) entries)
too_many entries i d kept lt absent full before =
    omega (arith, ap length (so_far_new entries i d kept lt absent before), longer (map first_of kept ++ get_or entries i d ∷ []) (drop (i + 1) entries), length_push (map first_of kept) (get_or entries i d), length-map kept first_of)

-- the first record of a LAND
pub listing_new : (entries : List LandmarkEntry) (i : ℕ) (d : LandmarkEntry) (kept : List (ℕ × Option Point)) → i < length entries → length kept ≢ LANDMARK_LIMIT → lookup (nat_eq (get_or entries i d).land) kept ≡ None → Listing entries i kept → Listing entries (i + 1) (kept ++ ((get_or entries i d).land, (get_or entries i d).point) ∷ [])
listing_new entries i d kept lt room absent before = record {
  so_far = rw (map_push first_of kept ((get_or entries i d).land, (get_or entries i d).point)) (so_far_new entries i d kept lt absent before);
  all = λ j x low. rw keys_more (elim (cases_lt j i) [
    | inl earlier ↦ Contains-append_left _ _ _ (before.all j x earlier)
    | inr last ↦ let same : j ≡ i = omega arith in rw (same, get_or_default entries i x d lt) (Contains-push (keys_of kept) (get_or entries i d).land)
  ]);
  no_other = λ n has. elim (Contains-push_cases (keys_of kept) (get_or entries i d).land n (rw keys_more at has)) [
    | inl earlier ↦ before.no_other n earlier
    | inr same ↦ (i, (let long = length-map entries (λ (x : LandmarkEntry). x.land) in omega arith), get_or-map (λ (x : LandmarkEntry). x.land) entries i d n lt ∙ same)
  ];
  few = omega (arith, before.few, length_push kept ((get_or entries i d).land, (get_or entries i d).point));
}
  where
    keys_more : keys_of (kept ++ ((get_or entries i d).land, (get_or entries i d).point) ∷ []) ≡ keys_of kept ++ (get_or entries i d).land ∷ []
    keys_more = map_push (λ (x : ℕ × Option Point). x.0) kept ((get_or entries i d).land, (get_or entries i d).point)

-- a further record of a LAND
pub listing_old : (entries : List LandmarkEntry) (i : ℕ) (d : LandmarkEntry) (kept : List (ℕ × Option Point)) (told : Option (Option Point)) → i < length entries → told ≡ lookup (nat_eq (get_or entries i d).land) kept → is_some told ≡ true → Listing entries i kept → Listing entries (i + 1) kept
listing_old entries i d kept told lt is some before =
    let was = any_there kept (get_or entries i d).land told is some in
    record {
      so_far = sym (at_drop_more (firsts_after (λ (e : LandmarkEntry). e.land) (map first_of kept)) entries i d lt ∙ rw was.0 refl) ∙ before.so_far;
      all = λ j x low. elim (cases_lt j i) [
        | inl earlier ↦ before.all j x earlier
        | inr last ↦ let same : j ≡ i = omega arith in rw (same, get_or_default entries i x d lt) was.1
      ];
      no_other = before.no_other;
      few = before.few;
    }

-- all records are listed
pub listed : (entries : List LandmarkEntry) (i : ℕ) (f : IndexMap ℕ (Option Point) RandomState) → length entries ≤ i → IsUnique nat_eq f → Listing entries i f.entries → ListsLandmarks entries f
listed entries i f whole unique before = record {
  firsts_are = sym (at_drop_all (firsts_after (λ (e : LandmarkEntry). e.land) (map first_of f.entries)) entries i whole) ∙ before.so_far;
  unique = unique;
  all = λ n has. all entries n has (λ j d lt. before.all j d (omega arith));
  no_other = before.no_other;
  few = before.few;
}
  where
    all : (es : List LandmarkEntry) (n : ℕ) → Contains (lands es) n → ((j : ℕ) (d : LandmarkEntry) → j < length es → Contains (keys_of f.entries) (get_or es j d).land) → Contains (keys_of f.entries) n
    all [] n has each = absurd (omega (arith, has.1))
    all (e ∷ es) n has each =
        let lt : has.0 < length (e ∷ es) = omega (arith, has.1, length-map (e ∷ es) (λ (x : LandmarkEntry). x.land)) in
        let at = get_or-map (λ (x : LandmarkEntry). x.land) (e ∷ es) has.0 e n lt in
        let same : (get_or (e ∷ es) has.0 e).land ≡ n = sym at ∙ has.2 in
        rw (← same) (each has.0 e lt)

-- one link more
pub links_more : (ks : List PolyKey) (ns : List ℕ) (links : List LinkEntry) (made : List Link) (i : ℕ) (d : LinkEntry) (m : Link) → length made ≡ i → i < length links → IsLink ks ns (get_or links i d) m → AreLinks ks ns links made → AreLinks ks ns links (made ++ m ∷ [])
links_more ks ns links made i d m count lt is before = record {
  count = omega (arith, length_push made m);
  each = λ j link e low. elim (cases_lt j (length made)) [
    | inl earlier ↦ rw (get_or_append_left made (m ∷ []) e j earlier) (before.each j link e earlier)
    | inr last ↦
        let at : j ≡ length made = omega (arith, length_push made m) in
        let at_i : length made ≡ i = count in
        rw (at, get_or-append_seam made m [] e) (rw (at_i, get_or_default links i link d lt) is)
  ];
}

-- a link that names what is not there
pub link_unknown : (ks : List PolyKey) (ns : List ℕ) (links : List LinkEntry) (i : ℕ) (d : LinkEntry) → i < length links → IsLinkUnknown ks ns (get_or links i d) → Any (IsLinkUnknown ks ns) links
link_unknown ks ns links i d lt why = (i, get_or links i d, lt, get_or_default links i (get_or links i d) d lt, why)

-- a filter by tests that agree
filter_agree : {X : Type 0} (p q : X → Bool) → ((x : X) → p x ≡ q x) → (xs : List X) → filter p xs ≡ filter q xs
filter_agree p q same [] = refl
filter_agree p q same (x ∷ xs) = go (p x) (q x) (same x) (filter_agree p q same xs)
  where
    go : (a b : Bool) → a ≡ b → filter p xs ≡ filter q xs → cond a (x ∷ filter p xs) (filter p xs) ≡ cond b (x ∷ filter q xs) (filter q xs)
    go a true e rest = rw e (ap (λ ys. x ∷ ys) rest)
    go a false e rest = rw e rest

-- links that a stable sort by landmark leaves
pub by_landmark : (old new : List Link) → IsPermutation old new → IsNonDecreasingBy (λ (m : Link). m.landmark) new → IsStableByKey (λ (m : Link). m.landmark) nat_cmp old new → AreByLandmark old new
by_landmark old new moved rising stable = record {
  rising = rising;
  moved = moved;
  same = λ l.
      let x : Link = record { landmark = l; polygon = 0 } in
      filter_agree _ _ (λ m. tied m.landmark l) new ∙ stable x ∙ sym (filter_agree _ _ (λ m. tied m.landmark l) old);
}
  where
    tied : (a b : ℕ) → eqb a b ≡ (not (is_lt (nat_cmp b a)) && not (is_lt (nat_cmp a b)))
    tied a b = grind (arith, nat_tests)
