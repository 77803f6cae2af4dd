-- Features, one behind the other.
use Rattle.std.proofs.Common.{◌≡◌, Option, ℕ, suc, ◌+◌, ◌<◌, ◌≤◌, List, [], ◌∷◌, ◌++◌, length-append, append_assoc, refl, sym, ap, ◌∙◌, add-one, add-zero, take, get_or, slice_get, length, Some, arith}
use Rattle.std.proofs.lemmas.List.{take_more, length-take-le}
use Rattle.std.proofs.lemmas.List.Sums.{length-filter, count_by-le-length}
use Rattle.std.proofs.lemmas.List.Elements.{filter-append}
use Rattle.std.proofs.lemmas.Option.{slice_get-get_or}
use Rattle.std.specs.Prelude.{is_some}
use Rattle.tl_map_county.specs.declared.polygons.Polygon.{Polygon}
use Rattle.tigertopo_pictures.specs.Geojson.Features.{lead, features_below}
use Rattle.tl_geom.specs.declared.point.Point.{Point}
use Rattle.tl_map_county.specs.declared.sides.Side.{Side}
use Rattle.tl_map_county.specs.TheMap.{TheMap, MapLandmark, IsChain}
use Rattle.tigertopo_pictures.specs.Geojson.Features.{chain_text, chain_feature, linked_lands, linked_polygons, features_of, landmark_feature, with_points, landmark_features}
use Rattle.std.specs.List.{flat_map}

-- one feature more, before which `before` stand
pub one_feature_more : (k n before : ℕ) (feature : ℕ → List ℕ) → k + n ≡ before
    → features_below k feature n ++ lead before ++ feature n ≡ features_below k feature (n + 1)
one_feature_more k n before feature same = rw (add-one, ← same) refl

-- the feature of a chain that was looked up
pub feature_of_chain : (file : Option (List ℕ)) (m : TheMap) (c tlid : ℕ) (points : List Point) (left right : Side) → IsChain (slice_get m.chains c) tlid points left right
    → chain_text file m.polygons tlid points left right ≡ chain_feature file m c
feature_of_chain file m c tlid points left right is = rw (is.is, is.tlid_is, is.points_are, is.left_is, is.right_is) refl

-- each link has a LAND and a polygon
links_of : (land : ℕ) (polygons : List ℕ) → length (flat_map (λ p. land ∷ []) polygons) ≡ length (flat_map (λ p. Some p ∷ []) polygons)
links_of land [] = refl
links_of land (p ∷ rest) = ap suc (links_of land rest)

pub links_beside : (landmarks : List MapLandmark) → length (linked_lands landmarks) ≡ length (linked_polygons landmarks)
links_beside [] = refl
links_beside (landmark ∷ rest) =
    length-append (flat_map (λ p. landmark.land ∷ []) landmark.polygons) (linked_lands rest)
    ∙ (rw (links_of landmark.land landmark.polygons, links_beside rest) (sym (length-append (flat_map (λ p. Some p ∷ []) landmark.polygons) (linked_polygons rest))))

-- features behind others
pub features_both : {X : Type 0} (k : ℕ) (feature : X → List ℕ) (xs ys : List X) → features_of k feature (xs ++ ys) ≡ features_of k feature xs ++ features_of (k + length xs) feature ys
features_both k feature [] ys = rw add-zero refl
features_both k feature (x ∷ rest) ys =
    let next : k + suc (length rest) ≡ suc k + length rest = omega arith in
    rw (next, features_both (suc k) feature rest ys) (simp append_assoc)

-- one landmark more
landmarks_taken : (landmarks : List MapLandmark) (i : ℕ) (x : MapLandmark) → i < length landmarks → slice_get landmarks i ≡ Some x
    → with_points (take (i + 1) landmarks) ≡ with_points (take i landmarks) ++ with_points (x ∷ [])
landmarks_taken landmarks i x within here =
    let same : get_or landmarks i x ≡ x = cc (slice_get-get_or landmarks i x within, here) in
    ap with_points (take_more landmarks i x within ∙ ap (λ y. take i landmarks ++ y ∷ []) same) ∙ filter-append (λ (landmark : MapLandmark). is_some landmark.point) (take i landmarks) (x ∷ [])

pub one_landmark_more : (file : Option (List ℕ)) (k told : ℕ) (polygons : List Polygon) (landmarks : List MapLandmark) (i : ℕ) (x : MapLandmark) → i < length landmarks → slice_get landmarks i ≡ Some x
    → told ≡ k + length (with_points (take i landmarks))
    → landmark_features file k polygons (take i landmarks) ++ landmark_features file told polygons (x ∷ []) ≡ landmark_features file k polygons (take (i + 1) landmarks)
one_landmark_more file k told polygons landmarks i x within here counted =
    rw (landmarks_taken landmarks i x within here, counted) (sym (features_both k (landmark_feature file polygons) (with_points (take i landmarks)) (with_points (x ∷ []))))

pub one_counted_more : (k told : ℕ) (landmarks : List MapLandmark) (i : ℕ) (x : MapLandmark) → i < length landmarks → slice_get landmarks i ≡ Some x
    → told ≡ k + length (with_points (take i landmarks)) → told + length (with_points (x ∷ [])) ≡ k + length (with_points (take (i + 1) landmarks))
one_counted_more k told landmarks i x within here counted =
    rw (landmarks_taken landmarks i x within here) (omega (arith, counted, length-append (with_points (take i landmarks)) (with_points (x ∷ []))))

-- there are at most as many as were looked at
pub few_pointed : (landmarks : List MapLandmark) (i : ℕ) → i < length landmarks → length (with_points (take i landmarks)) ≤ i
few_pointed landmarks i within =
    let pointed = λ (landmark : MapLandmark). is_some landmark.point in
    omega (arith, length-filter pointed (take i landmarks), count_by-le-length pointed (take i landmarks), length-take-le i landmarks (omega (arith, within)))
