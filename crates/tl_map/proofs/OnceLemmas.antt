use Rattle.std.proofs.Common.{◌≡◌, ◌≢◌, ℕ, zero, suc, ◌<◌, Bool, true, false, eqb, ◌||◌, inl, inr, Option, List, [], ◌∷◌, ◌++◌, length, map, filter, get_or, All, Contains, refl, sym, ap, ◌∙◌, arith}
use Rattle.std.specs.List.{list_any}
use Rattle.std.proofs.lemmas.Bool.{cases_Bool, eq-eqb}
use Rattle.std.proofs.lemmas.List.{length-map, get_or-map}
use Rattle.std.proofs.lemmas.List.Elements.{All-push, All-map, All-filter, All-weaker}
use Rattle.tl_record_key.specs.declared.key.PolyKey.{PolyKey}
use Rattle.tl_map_rules.specs.declared.entry.LandmarkEntry.{LandmarkEntry}
use Rattle.tl_map_rules.specs.declared.entry.LinkEntry.{LinkEntry}
use Rattle.tl_geom.specs.declared.point.Point.{Point}
use Rattle.tl_map_county.specs.declared.landmarks.LandmarkRow.{LandmarkRow}
use Rattle.tl_map_county.specs.declared.landmarks.LinkedLandmarks.{LinkedLandmarks}
use Rattle.tl_map_rules.specs.MapOf.{same_key, place_of, firsts, firsts_after, linked_to}
use Rattle.tl_map_county.specs.TheMap.{MapLandmark}
use Rattle.tl_map_county.specs.Landmarks.{AreOnce, ArePolygonsOf}
use Rattle.tl_map_county.specs.Rows.{HasPolygonsOf, polygons_at, landmarks_in}
use Rattle.tl_map.specs.Keeping.Landmarks.{landmark_from, AreLinked}
use Rattle.tl_map_rules.proofs.KeyLemmas.{same_key-refl}

-- one number more that isn't there yet
once_push : (kept : List ℕ) (x : ℕ) → AreOnce kept → list_any (λ y. eqb y x) kept ≡ false → AreOnce (kept ++ x ∷ [])
once_push [] x once fresh = ((λ k d lt. absurd (omega arith)), tt)
once_push (y ∷ ys) x once fresh =
    let both = neither (eqb y x) (list_any (λ z. eqb z x) ys) fresh in
    (All-push (λ z. z ≢ y) ys x once.0 (λ same. absurd (let e = eq-eqb y x (sym same) in let f : true ≡ false = sym e ∙ both.0 in cc)), once_push ys x once.1 both.1)
  where
    neither : (a b : Bool) → (a || b) ≡ false → (a ≡ false) × (b ≡ false)
    neither true b e = absurd (let h : true ≡ false = e in cc)
    neither false b e = (refl, e)

-- the first of each number stand once, and are numbers of the list
firsts_once : (P : ℕ → Type 0) (kept xs : List ℕ) → AreOnce kept → All P kept → All P xs → AreOnce (firsts_after (λ p. p) kept xs) × All P (firsts_after (λ p. p) kept xs)
firsts_once P kept [] once held all = (once, held)
firsts_once P kept (x ∷ xs) once held all =
    let rest : All P xs = λ k d lt. all (suc k) d (omega arith) in
    elim (cases_Bool (list_any (λ y. eqb y x) kept)) [
      | inl there ↦ rw there (firsts_once P kept xs once held rest)
      | inr fresh ↦ rw fresh (firsts_once P (kept ++ x ∷ []) xs (once_push kept x once fresh) (All-push P kept x held (all 0 x (omega arith))) rest)
    ]

-- the place of a key that is one of the keys
pub place_below : (ks : List PolyKey) (k : PolyKey) → Contains ks k → place_of ks k < length ks
place_below [] k has = absurd (omega (arith, has.1))
place_below (l ∷ ls) k has = elim (cases_Bool (same_key l k)) [
  | inl same ↦ rw same (omega arith)
  | inr other ↦ rw other (let h = place_below ls k (later has.0 has.1 has.2 other) in omega (arith, h))
]
  where
    later : (i : ℕ) → i < length (l ∷ ls) → get_or (l ∷ ls) i k ≡ k → same_key l k ≡ false → Contains ls k
    later zero lt at other = absurd (let here : l ≡ k = at in let one = same_key-refl k in let two : same_key k k ≡ false = rw here at other in let e : true ≡ false = sym one ∙ two in cc)
    later (suc i) lt at other = (i, omega arith, at)

-- the polygons that links with known keys link to a LAND
linked_once : (ks : List PolyKey) (links : List LinkEntry) (n : ℕ) → All (λ (l : LinkEntry). Contains ks l.key) links → ArePolygonsOf (length ks) (linked_to ks links n)
linked_once ks links n known =
    let chosen = All-filter (λ (l : LinkEntry). eqb l.land n) (λ (l : LinkEntry). Contains ks l.key) links known in
    let below = All-map (λ p. p < length ks) (λ (l : LinkEntry). place_of ks l.key) (filter (λ (l : LinkEntry). eqb l.land n) links)
    (All-weaker (λ (l : LinkEntry). Contains ks l.key) (λ (l : LinkEntry). place_of ks l.key < length ks) (λ l h. place_below ks l.key h) (filter (λ (l : LinkEntry). eqb l.land n) links) chosen) in
    let both = firsts_once (λ p. p < length ks) [] (map (λ (l : LinkEntry). place_of ks l.key) (filter (λ (l : LinkEntry). eqb l.land n) links)) tt (λ k d lt. absurd (omega arith)) below in
    record { below = both.1; once = both.0 }

-- the landmarks of rows have the rows' polygons
polygons_of : (linked : List ℕ) (es : List (ℕ × Option Point)) (rows : List LandmarkRow) → length rows ≡ length es → map (λ (m : MapLandmark). m.polygons) (landmarks_in linked es rows) ≡ map (polygons_at linked) rows
polygons_of linked [] [] same = refl
polygons_of linked [] (row ∷ rows) same = absurd (omega arith)
polygons_of linked (e ∷ es) [] same = absurd (omega arith)
polygons_of linked (e ∷ es) (row ∷ rows) same = ap (λ ps. polygons_at linked row ∷ ps) (polygons_of linked es rows (omega arith))

-- the polygons of each linked landmark are polygons of the map, each once
pub rows_once : (ks : List PolyKey) (entries : List LandmarkEntry) (links : List LinkEntry) (l : LinkedLandmarks) → AreLinked ks entries links l → All (HasPolygonsOf (length ks) l.linked.items) l.rows.items
rows_once ks entries links l linked k d lt =
    let known : All (λ (x : LinkEntry). Contains ks x.key) links = λ i e within. (linked.known i e within).1 in
    let all : All (λ (m : MapLandmark). ArePolygonsOf (length ks) m.polygons) (map (landmark_from ks links) (firsts (λ (e : LandmarkEntry). e.land) entries)) =
    All-map (λ (m : MapLandmark). ArePolygonsOf (length ks) m.polygons) (landmark_from ks links) (firsts (λ (e : LandmarkEntry). e.land) entries) (λ i e within. linked_once ks links _ known) in
    let here = All-map (ArePolygonsOf (length ks)) (λ (m : MapLandmark). m.polygons) (landmarks_in l.linked.items l.points.items l.rows.items) (rw (← linked.are) at all) in
    let rows : All (ArePolygonsOf (length ks)) (map (polygons_at l.linked.items) l.rows.items) = rw (polygons_of l.linked.items l.points.items l.rows.items linked.beside) at here in
    let within : k < length (map (polygons_at l.linked.items) l.rows.items) = let h = length-map l.rows.items (polygons_at l.linked.items) in omega arith in
    rw (get_or-map (polygons_at l.linked.items) l.rows.items k d [] lt) at (rows k [] within)
