-- The count of a landmark is the sum of those of its polygons, each of which stands once.
use Rattle.std.proofs.Common.{◌≡◌, ◌≢◌, ℕ, ◌+◌, pos, ◌-ℤ◌, Bool, true, false, cond, eqb, List, [], ◌∷◌, length, All, sum_by, count_by, sym, ap, subst, ◌∙◌, refl, arith}
use Rattle.std.specs.Prelude.{slice_index}
use Rattle.std.specs.List.{list_any}
use Rattle.std.proofs.lemmas.Bool.{eqb-true}
use Rattle.std.proofs.lemmas.List.Sums.{sum_by-cons}
use Rattle.std.proofs.lemmas.List.Elements.{All-head, All-tail}
use Rattle.tl_geom.specs.declared.point.Point.{Point}
use Rattle.tl_map_county.specs.declared.sides.Side.{Side}
use Rattle.tl_map_county.specs.declared.sides.Side.TheVariants.{Outside, Polygon}
use Rattle.tl_map_county.specs.TheMap.{MapChain}
use Rattle.tl_map_county.specs.Landmarks.{AreOnce, ArePolygonsOf}
use Rattle.tl_check_inside.specs.declared.flanks.Flanks.{Flanks}
use Rattle.tl_check_inside.specs.Inside.{balance, is_polygon, is_among, IsLandmarkCount}
use Rattle.tl_check_inside.specs.Keeping.Tallies.{near_count, far_count, AreTallies, TellCounts}
use Rattle.tl_check_inside.specs.Keeping.Sums.{sum_at}

not_in : (other : ℕ) (ps : List ℕ) → All (λ y. y ≢ other) ps → list_any (λ p. eqb other p) ps ≡ false
not_in other [] h = refl
not_in other (p ∷ ps) h = go (eqb other p) refl (not_in other ps (All-tail (λ y. y ≢ other) p ps h))
  where
    go : (b : Bool) → eqb other p ≡ b → list_any (λ q. eqb other q) ps ≡ false → list_any (λ q. eqb other q) (p ∷ ps) ≡ false
    go true e rest = absurd (All-head (λ y. y ≢ other) p ps h (sym (eqb-true other p e)))
    go false e rest = rw e rest

-- a side is one of the polygons of a list if it is the first, or one of the others
one_side : (p : ℕ) (ps : List ℕ) (s : Side) → All (λ y. y ≢ p) ps → cond (is_among (p ∷ ps) s) 1 0 ≡ cond (is_polygon p s) 1 0 + cond (is_among ps s) 1 0
one_side p ps Outside h = refl
one_side p ps (Polygon other) h = go (eqb other p) refl
  where
    go : (b : Bool) → eqb other p ≡ b → cond (is_among (p ∷ ps) (Polygon other)) 1 0 ≡ cond (is_polygon p (Polygon other)) 1 0 + cond (is_among ps (Polygon other)) 1 0
    go true e = let out = not_in other ps (subst (λ k. All (λ y. y ≢ k) ps) (sym (eqb-true other p e)) h) in rw (e, out) (omega arith)
    go false e = rw e (omega arith)

in_none : (s : Side) → ◌≡◌ {A = ℕ} (cond (is_among [] s) 1 0) 0
in_none Outside = refl
in_none (Polygon other) = refl

module _ (side : Flanks → Side) where
  none_among : (fs : List Flanks) → count_by (λ f. is_among [] (side f)) fs ≡ 0
  none_among [] = refl
  none_among (f ∷ fs) =
      let more = sum_by-cons (λ f. cond (is_among [] (side f)) 1 0) f fs in
      let rest = none_among fs in
      let here = in_none (side f) in
      omega (arith, more, rest, here)

  one_more : (p : ℕ) (ps : List ℕ) (fs : List Flanks) → All (λ y. y ≢ p) ps → count_by (λ f. is_among (p ∷ ps) (side f)) fs ≡ count_by (λ f. is_polygon p (side f)) fs + count_by (λ f. is_among ps (side f)) fs
  one_more p ps [] h = refl
  one_more p ps (f ∷ fs) h =
      let rest = one_more p ps fs h in
      let here = one_side p ps (side f) h in
      let both = sum_by-cons (λ f. cond (is_among (p ∷ ps) (side f)) 1 0) f fs in
      let first = sum_by-cons (λ f. cond (is_polygon p (side f)) 1 0) f fs in
      let others = sum_by-cons (λ f. cond (is_among ps (side f)) 1 0) f fs in
      omega (arith, rest, here, both, first, others)

  pub among_sum : (ps : List ℕ) (fs : List Flanks) → AreOnce ps → count_by (λ f. is_among ps (side f)) fs ≡ sum_by (λ p. count_by (λ f. is_polygon p (side f)) fs) ps
  among_sum [] fs h = none_among fs
  among_sum (p ∷ ps) fs h =
      let rest = among_sum ps fs h.1 in
      let step = one_more p ps fs h.0 in
      let sum = sum_by-cons (λ p. count_by (λ f. is_polygon p (side f)) fs) p ps in
      omega (arith, rest, step, sum)

same_sums : (f g : ℕ → ℕ) (ps : List ℕ) → All (λ p. f p ≡ g p) ps → sum_by f ps ≡ sum_by g ps
same_sums f g [] h = refl
same_sums f g (p ∷ ps) h =
    let here = All-head (λ p. f p ≡ g p) p ps h in
    let rest = same_sums f g ps (All-tail (λ p. f p ≡ g p) p ps h) in
    let one = sum_by-cons f p ps in
    let other = sum_by-cons g p ps in
    omega (arith, here, rest, one, other)

-- the count of a landmark with these polygons, by how often each is near and far
pub landmark_count : (chains : List MapChain) (q : Point) (crossed : List Flanks) (near far ps : List ℕ) (n : ℕ) → TellCounts chains q crossed → AreTallies crossed near far → length near ≡ n → length far ≡ n → ArePolygonsOf n ps → IsLandmarkCount chains q ps (pos (sum_at near ps) -ℤ pos (sum_at far ps))
landmark_count chains q crossed near far ps n tell t nears fars of = subst (IsLandmarkCount chains q ps) (sym is) (tell (is_among ps) refl)
  where
    near_is : sum_at near ps ≡ near_count crossed (is_among ps)
    near_is =
        same_sums (slice_index near) (λ p. near_count crossed (is_polygon p)) ps (λ k d lt. let below = of.below k d lt in t.nears _ (omega (arith, below, nears)))
        ∙ sym (among_sum (λ f. f.near) ps crossed of.once)

    far_is : sum_at far ps ≡ far_count crossed (is_among ps)
    far_is =
        same_sums (slice_index far) (λ p. far_count crossed (is_polygon p)) ps (λ k d lt. let below = of.below k d lt in t.fars _ (omega (arith, below, fars)))
        ∙ sym (among_sum (λ f. f.far) ps crossed of.once)

    is : pos (sum_at near ps) -ℤ pos (sum_at far ps) ≡ balance (is_among ps) crossed
    is =
        ap (λ k. pos k -ℤ pos (sum_at far ps)) near_is
        ∙ ap (λ k. pos (near_count crossed (is_among ps)) -ℤ pos k) far_is
