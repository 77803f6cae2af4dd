-- The lines of landmarks, one by one.
use Rattle.std.proofs.Common.{◌≡◌, ℕ, zero, suc, ◌+◌, ◌<◌, List, [], ◌∷◌, ◌++◌, length, take, slice_get, get_or, Some, refl, sym, ap, ◌∙◌, append_assoc, append-nil, add-one}
use Rattle.std.proofs.Math.Seq.{take-suc}
use Rattle.tl_map_county.specs.declared.polygons.Polygon.{Polygon}
use Rattle.tl_map_county.specs.TheMap.{MapLandmark}
use Rattle.tigertopo_program.specs.Print.Printing.{polygon_text, polygons_text, landmark_text, landmark_lines}

module _ (polygons : List Polygon) where
  polygons_text-append : (xs ys : List ℕ) → polygons_text polygons (xs ++ ys) ≡ polygons_text polygons xs ++ polygons_text polygons ys
  polygons_text-append [] ys = refl
  polygons_text-append (x ∷ xs) ys =
      ap (λ l. polygon_text polygons x ++ l) (polygons_text-append xs ys)
      ∙ sym (append_assoc (polygon_text polygons x) (polygons_text polygons xs) (polygons_text polygons ys))

  -- one polygon more
  pub polygons_text-next : (numbers : List ℕ) (i : ℕ) → i < length numbers
      → polygons_text polygons (take (i + 1) numbers) ≡ polygons_text polygons (take i numbers) ++ polygon_text polygons (get_or numbers i 0)
  polygons_text-next numbers i within = rw (add-one, take-suc numbers i 0, polygons_text-append, append-nil) refl

  landmark_lines-suc : (list : List MapLandmark) (i : ℕ) (landmark : MapLandmark) → slice_get list i ≡ Some landmark
      → landmark_lines polygons (take (suc i) list) ≡ landmark_lines polygons (take i list) ++ landmark_text polygons landmark
  landmark_lines-suc [] i landmark here = cc
  landmark_lines-suc (first ∷ rest) zero landmark here =
      let same : first ≡ landmark = cc in
      rw (append-nil, ← same) refl
  landmark_lines-suc (first ∷ rest) (suc i) landmark here =
      ap (λ l. landmark_text polygons first ++ l) (landmark_lines-suc rest i landmark here)
      ∙ sym (append_assoc (landmark_text polygons first) (landmark_lines polygons (take i rest)) _)

  -- one landmark more
  pub landmark_lines-next : (list : List MapLandmark) (i : ℕ) (landmark : MapLandmark) → slice_get list i ≡ Some landmark
      → landmark_lines polygons (take (i + 1) list) ≡ landmark_lines polygons (take i list) ++ landmark_text polygons landmark
  landmark_lines-next list i landmark here = rw add-one (landmark_lines-suc list i landmark here)
