-- Sums of the counts of a landmark's polygons, and what lies at the point of a polygon of a sound map.
use Rattle.std.proofs.Common.{◌≡◌, ◌≢◌, ℕ, zero, suc, ◌<◌, ◌⊎◌, inl, inr, ℤ, pos, ◌-ℤ◌, Bool, true, false, cond, eqb, Some, List, [], ◌∷◌, length, get_or, map, All, Contains, sum_by, sym, ap, subst, ◌∙◌, refl, arith}
use Rattle.std.specs.Prelude.{slice_get}
use Rattle.std.specs.List.Sorted.{IsStrictlyIncreasing}
use Rattle.std.proofs.lemmas.Bool.{eqb-true, eq-eqb, cases_order}
use Rattle.std.proofs.lemmas.Int.{ints}
use Rattle.std.proofs.lemmas.Option.{slice_get_within}
use Rattle.std.proofs.lemmas.List.Sums.{sum_by-cons}
use Rattle.tl_geom.specs.declared.point.Point.{Point}
use Rattle.tl_map_county.specs.declared.polygons.Polygon.{Polygon}
use Rattle.tl_map_county.specs.TheMap.{TheMap, MapChain, MapLandmark}
use Rattle.tl_map_county.specs.Landmarks.{AreOnce, ArePolygonsOf}
use Rattle.tl_check_planar.specs.Keeping.Apart.{one_found}
use Rattle.tl_check_inside.specs.declared.place.Place.{Place}
use Rattle.tl_check_inside.specs.declared.place.Place.TheVariants.{OnChain, In}
use Rattle.tl_check_inside.specs.Inside.{flanks_at, is_polygon, is_among, total, IsPolygonCount, IsLandmarkCount}
use Rattle.tl_check_inside.specs.Places.{IsPlaceOf, AreCounted, IsCountOf}
use Rattle.tl_check_inside.specs.Placed.{IsPlacedIn}
use Rattle.tl_check_inside.specs.Alone.{IsLinked, AreLinked, IsAlone}
use Rattle.tl_check_inside.specs.Keeping.Tallies.{near_count, far_count}
use Rattle.tl_check_inside.proofs.Counting.{one_count}
use Rattle.tl_check_inside.proofs.Summing.{among_sum}

first_of : (p : ℕ) (ps : List ℕ) → Contains (p ∷ ps) p
first_of p ps = (0, omega arith, refl)

later : (x p : ℕ) (ps : List ℕ) → Contains ps x → Contains (p ∷ ps) x
later x p ps h = (suc h.0, (let lt = h.1 in omega (arith, lt)), h.2)

-- the sum of differences is the difference of sums
differences : (near far : ℕ → ℕ) (counts : ℕ → ℤ) (ps : List ℕ) → ((p : ℕ) → Contains ps p → counts p ≡ pos (near p) -ℤ pos (far p)) → total counts ps ≡ pos (sum_by near ps) -ℤ pos (sum_by far ps)
differences near far counts [] h = refl
differences near far counts (p ∷ ps) h =
    let rest = differences near far counts ps (λ x c. h x (later x p ps c)) in
    let here = h p (first_of p ps) in
    let nears = sum_by-cons near p ps in
    let fars = sum_by-cons far p ps in
    omega (arith, ints, rest, here, nears, fars)

pub is_total : (chains : List MapChain) (q : Point) (ps : List ℕ) (n : ℤ) (counts : ℕ → ℤ) → AreOnce ps → IsLandmarkCount chains q ps n → ((p : ℕ) → Contains ps p → IsPolygonCount chains q p (counts p)) → n ≡ total counts ps
is_total chains q ps n counts once c each =
    c.counted
    ∙ ap (λ k. pos k -ℤ pos (far_count (map (flanks_at chains) c.crossed) (is_among ps))) (among_sum (λ f. f.near) ps (map (flanks_at chains) c.crossed) once)
    ∙ ap (λ k. pos (sum_by (λ p. near_count (map (flanks_at chains) c.crossed) (is_polygon p)) ps) -ℤ pos k) (among_sum (λ f. f.far) ps (map (flanks_at chains) c.crossed) once)
    ∙ sym (differences (λ p. near_count (map (flanks_at chains) c.crossed) (is_polygon p)) (λ p. far_count (map (flanks_at chains) c.crossed) (is_polygon p)) counts ps (λ p has.
    one_count chains q (is_polygon p) (counts p) _ (each p has) (record { crossed = c.crossed; are = c.are; counted = refl })))

-- ---- one polygon alone

abbrev only : ℕ → ℕ → ℤ
only p x = pos (cond (eqb x p) 1 0)

contains_or : (p : ℕ) (ps : List ℕ) → Contains ps p ⊎ ((x : ℕ) → Contains ps x → x ≢ p)
contains_or p [] = inr (λ x h. absurd (let no : h.0 < 0 = h.1 in omega (arith, no)))
contains_or p (x ∷ ps) = go (cases_order x p) (contains_or p ps)
  where
    go : (x ≡ p) ⊎ ((x < p) ⊎ (p < x)) → Contains ps p ⊎ ((y : ℕ) → Contains ps y → y ≢ p) → Contains (x ∷ ps) p ⊎ ((y : ℕ) → Contains (x ∷ ps) y → y ≢ p)
    go (inl same) rest = inl (0, omega arith, same)
    go (inr other) (inl has) = inl (later p x ps has)
    go (inr other) (inr none) = inr (λ y h e. at y h.0 h.1 h.2 e)
      where
        apart : x ≢ p
        apart e = elim other [ inl lt ↦ omega (arith, lt, e) | inr gt ↦ omega (arith, gt, e) ]

        at : (y k : ℕ) → k < length (x ∷ ps) → get_or (x ∷ ps) k y ≡ y → y ≡ p → ⊥
        at y zero lt is e = apart (is ∙ e)
        at y (suc k) lt is e = none y (k, omega (arith, lt), is) e

only-same : (p x : ℕ) → x ≡ p → only p x ≡ pos 1
only-same p x e = ap (λ b. pos (cond b 1 0)) (eq-eqb x p e)

only-other : (p x : ℕ) → x ≢ p → only p x ≡ pos 0
only-other p x ne = go (eqb x p) refl
  where
    go : (b : Bool) → eqb x p ≡ b → pos (cond b 1 0) ≡ pos 0
    go true e = absurd (ne (eqb-true x p e))
    go false e = refl

none_total : (p : ℕ) (ps : List ℕ) → ((x : ℕ) → Contains ps x → x ≢ p) → total (only p) ps ≡ pos 0
none_total p [] h = refl
none_total p (x ∷ ps) h =
    let rest = none_total p ps (λ y c. h y (later y x ps c)) in
    let here = only-other p x (h x (first_of x ps)) in
    omega (arith, ints, rest, here)

apart_from : (x : ℕ) (ps : List ℕ) → All (λ y. y ≢ x) ps → (y : ℕ) → Contains ps y → y ≢ x
apart_from x ps h y c = subst (λ z. z ≢ x) c.2 (h c.0 y c.1)

one_total : (p : ℕ) (ps : List ℕ) → AreOnce ps → Contains ps p → total (only p) ps ≡ pos 1
one_total p [] once h = absurd (let no : h.0 < 0 = h.1 in omega (arith, no))
one_total p (x ∷ ps) once h = elim (cases_order x p) [
  | inl same ↦
      let rest = none_total p ps (λ y c. subst (λ z. y ≢ z) same (apart_from x ps once.0 y c)) in
      let here = only-same p x same in
      omega (arith, ints, rest, here)
  | inr other ↦
      let apart : x ≢ p = λ e. elim other [ inl lt ↦ omega (arith, lt, e) | inr gt ↦ omega (arith, gt, e) ] in
      let rest = one_total p ps once.1 (behind p x ps apart h.0 h.1 h.2) in
      let here = only-other p x apart in
      omega (arith, ints, rest, here)
]
  where
    behind : (p x : ℕ) (ps : List ℕ) → x ≢ p → (k : ℕ) → k < length (x ∷ ps) → get_or (x ∷ ps) k p ≡ p → Contains ps p
    behind p x ps apart zero lt is = absurd (apart is)
    behind p x ps apart (suc k) lt is = (k, omega (arith, lt), is)

only_one : (p : ℕ) (xs : List ℕ) → IsStrictlyIncreasing xs → All (λ x. x ≡ p) xs → Contains xs p → xs ≡ p ∷ []
only_one p [] up all has = absurd (let no : has.0 < 0 = has.1 in omega (arith, no))
only_one p (x ∷ []) up all has = ap (λ y. y ∷ []) (all 0 x (omega arith))
only_one p (x ∷ y ∷ xs) up all has =
    absurd (let rises : x < y = up 0 (omega arith) in let one : x ≡ p = all 0 x (omega arith) in let other : y ≡ p = all 1 x (omega arith) in omega (arith, rises, one, other))

zero_one : pos 0 ≢ pos 1
zero_one e = omega (arith, ints, e)

module _ (m : TheMap) (p : ℕ) (polygon : Polygon) (of : (l : ℕ) (landmark : MapLandmark) → slice_get m.landmarks l ≡ Some landmark → ArePolygonsOf (length m.polygons) landmark.polygons) (is : slice_get m.polygons p ≡ Some polygon) (placed : IsPlacedIn m polygon.point p) where
  count_is : (x : ℕ) → x < length m.polygons → IsPolygonCount m.chains polygon.point x (only p x)
  count_is x lt = elim (cases_order x p) [
    | inl same ↦ subst (IsPolygonCount m.chains polygon.point x) (sym (only-same p x same)) (subst (λ y. IsPolygonCount m.chains polygon.point y (pos 1)) (sym same) placed.inside)
    | inr other ↦
        let apart : x ≢ p = λ e. elim other [ inl lt ↦ omega (arith, lt, e) | inr gt ↦ omega (arith, gt, e) ] in
        subst (IsPolygonCount m.chains polygon.point x) (sym (only-other p x apart)) (placed.clear x lt apart)
  ]

  landmark_is : (l : ℕ) (landmark : MapLandmark) (n : ℤ) → slice_get m.landmarks l ≡ Some landmark → IsLandmarkCount m.chains polygon.point landmark.polygons n → n ≡ total (only p) landmark.polygons
  landmark_is l landmark n at c =
      let all = of l landmark at in
      is_total m.chains polygon.point landmark.polygons n (only p) all.once c (λ x has. count_is x (subst (λ y. y < length m.polygons) has.2 (all.below has.0 x has.1)))

  polygons_are : (listed : List ℕ) → AreCounted (length m.polygons) (IsPolygonCount m.chains polygon.point) listed → listed ≡ p ∷ []
  polygons_are listed a = only_one p listed a.rising each itself
    where
      each : All (λ x. x ≡ p) listed
      each k d lt = elim (cases_order (get_or listed k d) p) [
        | inl same ↦ same
        | inr other ↦
            let h = a.each k d lt in
            let apart : get_or listed k d ≢ p = λ e. elim other [ inl lt ↦ omega (arith, lt, e) | inr gt ↦ omega (arith, gt, e) ] in
            absurd (h.1.2 (one_count m.chains polygon.point (is_polygon (get_or listed k d)) h.1.0 (pos 0) h.1.1 (placed.clear (get_or listed k d) h.0 apart)))
      ]

      itself : Contains listed p
      itself = elim (a.others p (slice_get_within m.polygons p polygon is)) [
        | inl has ↦ has
        | inr none ↦ absurd (zero_one (one_count m.chains polygon.point (is_polygon p) (pos 0) (pos 1) none placed.inside))
      ]

  landmarks_are : (listed : List ℕ) → AreCounted (length m.landmarks) (IsCountOf m polygon.point) listed → AreLinked m p listed
  landmarks_are listed a = record { rising = a.rising; each = each; others = others }
    where
      linked_by : (l : ℕ) (n : ℤ) → IsCountOf m polygon.point l n → n ≢ pos 0 → IsLinked m p l
      linked_by l n c some = elim (contains_or p c.landmark.polygons) [
        | inl has ↦ record { landmark = c.landmark; is = c.is; has = has }
        | inr none ↦ absurd (some (landmark_is l c.landmark n c.is c.count ∙ none_total p c.landmark.polygons none))
      ]

      each : All (IsLinked m p) listed
      each k d lt = let h = a.each k d lt in linked_by (get_or listed k d) h.1.0 h.1.1 h.1.2

      others : (l : ℕ) → IsLinked m p l → Contains listed l
      others l linked = elim (a.others l (slice_get_within m.landmarks l linked.landmark linked.is)) [
        | inl has ↦ has
        | inr none ↦
            let same : none.landmark ≡ linked.landmark = one_found none.landmark linked.landmark (slice_get m.landmarks l) none.is linked.is in
            let has : Contains none.landmark.polygons p = subst (λ (z : MapLandmark). Contains z.polygons p) (sym same) linked.has in
            absurd (zero_one (landmark_is l none.landmark (pos 0) none.is none.count ∙ one_total p none.landmark.polygons (of l none.landmark none.is).once has))
      ]

  pub alone : (place : Place) → IsPlaceOf m polygon.point place → IsAlone m p place
  alone (OnChain c) h = placed.off c h.held
  alone (In polygons landmarks) h = (polygons_are polygons.items h.1, landmarks_are landmarks.items h.2)
