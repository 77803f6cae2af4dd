use Rattle.std.proofs.Common.{◌≡◌, ℕ, zero, suc, ◌+◌, ◌<◌, eqb, inl, inr, Option, Some, List, [], ◌∷◌, length, map, filter, take, get_or, ◌++◌, All, refl, ap, ◌∙◌, arith}
use Rattle.std.specs.Prelude.{slice_get, nat_eq, Any, Result, Ok, Err, MatchResult}
use Rattle.std.proofs.lemmas.List.{length-map}
use Rattle.std.proofs.lemmas.Bool.{cases_eq, eq-eqb, ne_eqb}
use Rattle.std.proofs.lemmas.Option.{slice_get_within}
use Rattle.std.proofs.lemmas.List.Sorted.{All-permutation}
use Rattle.tl_record_key.specs.declared.key.PolyKey.{PolyKey}
use Rattle.tl_map_rules.specs.declared.entry.LandmarkEntry.{LandmarkEntry}
use Rattle.tl_map_rules.specs.declared.entry.LinkEntry.{LinkEntry}
use Rattle.tl_map.specs.declared.landmarks.Link.{Link}
use Rattle.std.specs.declared.hash.RandomState.{RandomState}
use Rattle.std.specs.Map.{keys_of}
use Rattle.indexmap.specs.IndexMap.{IndexMap, keys, index_of}
use Rattle.tl_geom.specs.declared.point.Point.{Point}
use Rattle.tl_map_county.specs.declared.landmarks.LandmarkRow.{LandmarkRow}
use Rattle.tl_map_county.specs.Rows.{polygons_at, landmarks_in}
use Rattle.tl_map_county.specs.declared.landmarks.LinkedLandmarks.{LinkedLandmarks}
use Rattle.tl_map_rules.specs.MapOf.{firsts, place_of, linked_to}
use Rattle.tl_map.specs.Keeping.Index.{Numbers}
use Rattle.tl_map.specs.Keeping.Landmarks.{first_of, ListsLandmarks, IsLink, AreAllLinks, IsLinkUnknown, AreUnlinked, links_to, AreByLandmark, polygons_to, AreRows, landmark_from, AreLinked}
use Rattle.tl_map_county.proofs.PlaceLemmas.{contained}

-- the links of the l-th LAND, by numbers and by keys
to_links : (ks : List PolyKey) (ns : List ℕ) (found : ℕ → Option ℕ) (links : List LinkEntry) (made : List Link) (l n : ℕ) → Numbers ns found → slice_get ns l ≡ Some n → length made ≡ length links → ((j : ℕ) (link : LinkEntry) (m : Link) → j < length made → IsLink ks ns (get_or links j link) (get_or made j m)) → map (λ (m : Link). m.polygon) (links_to l made) ≡ map (λ (k : LinkEntry). place_of ks k.key) (filter (λ (k : LinkEntry). eqb k.land n) links)
to_links ks ns found [] [] l n numbers at same each = refl
to_links ks ns found [] (m ∷ made) l n numbers at same each = absurd (omega arith)
to_links ks ns found (k ∷ links) [] l n numbers at same each = absurd (omega arith)
to_links ks ns found (k ∷ links) (m ∷ made) l n numbers at same each =
    let this = each 0 k m (omega arith) in
    let rest = to_links ks ns found links made l n numbers at (omega arith) (λ j link e lt. each (suc j) link e (omega arith)) in
    elim (cases_eq m.landmark l) [
      | inl here ↦
          let land : k.land ≡ n = let h = rw here at this.landmark in cc in
          rw (eq-eqb m.landmark l here, eq-eqb k.land n land) (λ i. this.polygon i ∷ rest i)
      | inr other ↦
          let land : k.land ≡ n → ⊥ = λ e.
          let one = numbers.each m.landmark k.land this.landmark in
          let two : found k.land ≡ Some l = rw e (numbers.each l n at) in
          other (cc) in
          rw (ne_eqb m.landmark l other, ne_eqb k.land n land) rest
    ]

-- the landmarks of rows are those of the links
listed_is : (ks : List PolyKey) (ns : List ℕ) (found : ℕ → Option ℕ) (links : List LinkEntry) (old new : List Link) (linked : List ℕ) (es : List (ℕ × Option Point)) (rows : List LandmarkRow) (l : ℕ) → Numbers ns found → AreAllLinks ks ns links old → AreByLandmark old new → length rows ≡ length es → ((k : ℕ) (d : LandmarkRow) → k < length rows → polygons_at linked (get_or rows k d) ≡ polygons_to (l + k) new) → ((j : ℕ) (n : ℕ) → slice_get (keys_of es) j ≡ Some n → slice_get ns (l + j) ≡ Some n) → landmarks_in linked es rows ≡ map (landmark_from ks links) (map first_of es)
listed_is ks ns found links old new linked [] rows l numbers all sorted same are at = refl
listed_is ks ns found links old new linked (e ∷ es) [] l numbers all sorted same are at = absurd (omega arith)
listed_is ks ns found links old new linked (e ∷ es) (row ∷ rows) l numbers all sorted same are at =
    let none : l + 0 ≡ l = omega arith in
    let here : slice_get ns l ≡ Some e.0 = rw none at (at 0 e.0 refl) in
    let row_is : polygons_at linked row ≡ polygons_to l new = rw none at (are 0 row (omega arith)) in
    let this : polygons_at linked row ≡ linked_to ks links e.0 =
    row_is ∙ ap (λ ps. firsts (λ p. p) ps) (ap (map (λ (m : Link). m.polygon)) (sorted.same l) ∙ to_links ks ns found links old l e.0 numbers here all.1 all.0.each) in
    let rest = listed_is ks ns found links old new linked es rows (l + 1) numbers all sorted (omega arith) (λ k d lt. let more : l + 1 + k ≡ l + suc k = omega arith in rw more (are (suc k) d (omega arith))) (λ j n h. let more : l + 1 + j ≡ l + suc j = omega arith in rw more (at (suc j) n h)) in
    λ i. record { land = e.0; point = e.1; polygons = this i } ∷ rest i

-- each link has a polygon
pub links_inside : (ks : List PolyKey) (ns : List ℕ) (links : List LinkEntry) (old new : List Link) (count : ℕ) → length ks ≡ count → AreAllLinks ks ns links old → AreByLandmark old new → All (λ m. m.polygon < count) new
links_inside ks ns links old new count same all sorted =
    All-permutation (λ m. m.polygon < count) old new sorted.moved (λ k d lt. let x : LinkEntry = record { key = record { cenid = []; polyid = 0 }; land = 0 } in let h = slice_get_within ks (get_or old k d).polygon _ (all.0.each k x d lt).known in omega (arith, h, same))

-- the landmarks with their links
-- what follows from each of two ways that a call may end
pub either_way : {A E : Type 0} (r : Result A E) (P Q : A → Type 0) (F G : E → Type 0) → ((a : A) → P a → Q a) → ((e : E) → F e → G e) → MatchResult r P F → MatchResult r Q G
either_way (Ok a) P Q F G f g h = f a h
either_way (Err e) P Q F G f g h = g e h

pub linked_all : (ks : List PolyKey) (entries : List LandmarkEntry) (links : List LinkEntry) (old new : List Link) (f : IndexMap ℕ (Option Point) RandomState) (l : LinkedLandmarks) → l.points.items ≡ f.entries → ListsLandmarks entries f → Numbers (keys f) (index_of nat_eq f)
    → AreAllLinks ks (keys f) links old → AreByLandmark old new → AreRows new (length f.entries) l.linked.items l.rows.items → AreLinked ks entries links l
linked_all ks entries links old new f l same lists numbers all sorted rows = record {
  are = rw (same, ← lists.firsts_are) (listed_is ks (keys f) _ links old new l.linked.items f.entries l.rows.items 0 numbers all sorted rows.count (λ k d lt. let none : 0 + k ≡ k = omega arith in rw none (rows.are k d lt)) (λ j n h. let none : 0 + j ≡ j = omega arith in rw none h));
  beside = rw same rows.count;
  within = rows.within;
  known = λ k d lt.
      let m : Link = record { landmark = 0; polygon = 0 } in
      let this = all.0.each k d m (omega (arith, all.1)) in
      (lists.no_other (get_or links k d).land (contained (keys f) (get_or old k m).landmark _ this.landmark), contained ks (get_or old k m).polygon _ this.known);
  few = omega (arith, lists.few, ap length lists.firsts_are, length-map f.entries first_of);
}

-- a link that names what is not there keeps the landmarks from being linked
pub unlinked : (ks : List PolyKey) (entries : List LandmarkEntry) (f : IndexMap ℕ (Option Point) RandomState) (links : List LinkEntry) → ListsLandmarks entries f → Any (IsLinkUnknown ks (keys f)) links → AreUnlinked ks entries links
unlinked ks entries f links lists any = inr (
  any.0,
  any.1,
  any.2,
  any.3,
  elim any.4 [ inl landmark ↦ inl (λ has. landmark (lists.all any.1.land has)) | inr polygon ↦ inr polygon ],
)

-- a beginning of a list, with one element more
pub take_more : {X : Type 0} (xs : List X) (i : ℕ) (x : X) → i < length xs → take (i + 1) xs ≡ take i xs ++ get_or xs i x ∷ []
take_more [] i x lt = absurd (omega arith)
take_more (y ∷ ys) zero x lt = refl
take_more (y ∷ ys) (suc i) x lt =
    let n : suc i + 1 ≡ suc (i + 1) = omega arith in
    rw n (ap (λ zs. y ∷ zs) (take_more ys i x (omega arith)))
