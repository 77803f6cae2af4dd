use Rattle.std.proofs.Common.{◌≡◌, ◌≢◌, ℕ, ◌+◌, ◌-◌, ◌<◌, ◌≤◌, eqb, inl, inr, List, [], ◌∷◌, ◌++◌, length, take, drop, get_or, All, sym, ap, ◌∙◌, arith}
use Rattle.std.specs.List.Sorted.{IsNonDecreasingBy}
use Rattle.std.proofs.lemmas.Bool.{cases_lt, eq-eqb, ne_eqb}
use Rattle.std.proofs.lemmas.List.{drop-append-le, take-append-le, drop_at, take_all, length-append, length-drop, length_push, get_or-take, get_or-drop, get_or_append_left, length-take-le}
use Rattle.std.proofs.Math.Seq.{get_or-append_seam}
use Rattle.std.proofs.lemmas.List.Elements.{All-push, All-weaker}
use Rattle.tl_map.specs.declared.landmarks.Link.{Link}
use Rattle.tl_map_county.specs.declared.landmarks.LandmarkRow.{LandmarkRow}
use Rattle.tl_map.specs.Keeping.Landmarks.{links_to, polygons_to, AreRows}
use Rattle.tl_map_county.specs.Rows.{IsRow, polygons_at}
use Rattle.tl_map_rules.proofs.PartLemmas.{filter_part}

-- the links of landmark l stand from s to e
pub run_of : (links : List Link) (s e l : ℕ) → s ≤ e → e ≤ length links → ((k : ℕ) (d : Link) → k < s → (get_or links k d).landmark < l) → ((k : ℕ) (d : Link) → s ≤ k → k < e → (get_or links k d).landmark ≡ l) → ((k : ℕ) (d : Link) → e ≤ k → k < length links → l < (get_or links k d).landmark) → links_to l links ≡ take (e - s) (drop s links)
run_of links s e l le within before between after =
    filter_part (λ (m : Link). eqb m.landmark l) links s e le within
    (λ k d h. ne_eqb _ _ (λ same. omega (arith, before k d h)))
    (λ k d low high. eq-eqb _ _ (between k d low high))
    (λ k d low high. ne_eqb _ _ (λ same. omega (arith, after k d low high)))

-- the links from e on are of later landmarks
pub above_links : (links : List Link) (s e l : ℕ) → s ≤ e → IsNonDecreasingBy (λ (m : Link). m.landmark) links → ((k : ℕ) (d : Link) → s ≤ k → k < length links → l ≤ (get_or links k d).landmark) → ((d : Link) → e < length links → (get_or links e d).landmark ≢ l) → (k : ℕ) (d : Link) → e ≤ k → k < length links → l < (get_or links k d).landmark
above_links links s e l le rising ahead stops k d low high =
    omega (arith, ahead e d le (omega arith), stops d (omega arith), rising e k d low high)

-- one row more
pub row_more : (links : List Link) (l : ℕ) (linked more : List ℕ) (rows : List LandmarkRow) (first count : ℕ) → length rows ≡ l → first ≡ length linked → count ≡ length more → more ≡ polygons_to l links → AreRows links l linked rows → AreRows links (l + 1) (linked ++ more) (rows ++ record { first = first; count = count } ∷ [])
row_more links l linked more rows first count number at long is before = record {
  count = omega (arith, number, length_push rows row);
  within = All-push (IsRow (linked ++ more)) rows row (All-weaker (IsRow linked) (IsRow (linked ++ more)) (λ r h. omega (arith, length-append linked more, h)) rows before.within) (omega (arith, length-append linked more));
  are = λ k d lt. elim (cases_lt k (length rows)) [
    | inl earlier ↦
        rw (get_or_append_left rows (row ∷ []) d k earlier) (stays (get_or rows k d) (before.within k d earlier) ∙ before.are k d earlier)
    | inr last ↦
        let here : k ≡ length rows = omega (arith, length_push rows row) in
        rw (here, get_or-append_seam rows row [] d, number) this
  ];
}
  where
    row : LandmarkRow
    row = record { first = first; count = count }

    this : polygons_at (linked ++ more) row ≡ polygons_to l links
    this = ap (take count) (drop_at linked more first (sym at)) ∙ take_all count more (omega arith) ∙ is

    stays : (r : LandmarkRow) → r.first + r.count ≤ length linked → polygons_at (linked ++ more) r ≡ polygons_at linked r
    stays r here =
        ap (take r.count) (drop-append-le r.first linked more (omega arith)) ∙ take-append-le r.count (drop r.first linked) more (omega (arith, length-drop r.first linked))

-- what holds of all items holds of those of a part
pub part_inside : {X : Type 0} (P : X → Type 0) (xs : List X) (s n : ℕ) → All P xs → s + n ≤ length xs → All P (take n (drop s xs))
part_inside P xs s n inside within k d lt =
    let low : k < n = omega (arith, length-take-le n (drop s xs) (omega (arith, length-drop s xs))) in
    rw (get_or-take n (drop s xs) k d low, get_or-drop s xs k d) (inside (s + k) d (omega arith))
