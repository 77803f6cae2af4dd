-- The polygons and the landmarks of a point on no chain.
use Rattle.std.proofs.Common.{◌≡◌, ◌≢◌, ℕ, ◌<◌, ℤ, pos, ◌-ℤ◌, Bool, true, false, not, eqb, Option, Some, None, Result, Ok, Err, IfOk, List, [], length, get_or, sym, subst, ap, ◌∙◌, refl, arith}
use Rattle.std.specs.Prelude.{slice_get, slice_index}
use Rattle.std.proofs.lemmas.Bool.{eqb-true, eq-eqb, false≢true}
use Rattle.std.proofs.lemmas.Int.{ints}
use Rattle.std.proofs.lemmas.Option.{slice_get-get_or}
use Rattle.tl_geom.specs.declared.point.Point.{Point}
use Rattle.tl_map_county.specs.TheMap.{TheMap, MapLandmark}
use Rattle.tl_map_county.specs.Landmarks.{ArePolygonsOf}
use Rattle.tl_check_inside.specs.declared.flanks.Flanks.{Flanks}
use Rattle.tl_check_inside.specs.Inside.{IsPolygonCount}
use Rattle.tl_check_inside.specs.Places.{AreCounted, IsCountOf}
use Rattle.tl_check_inside.specs.Keeping.Listed.{passing, differ_at}
use Rattle.tl_check_inside.specs.Keeping.Sums.{sum_at, polygons_of, sums_differ}
use Rattle.tl_check_inside.specs.Keeping.Tallies.{AreTallies, TellCounts}
use Rattle.tl_check_inside.proofs.Counting.{counted}
use Rattle.tl_check_inside.proofs.Passing.{counted_by}
use Rattle.tl_check_inside.proofs.Summing.{landmark_count}

differ : (m n : ℕ) → not (eqb m n) ≡ true → m ≢ n
differ m n e same = go (eqb m n) (eq-eqb m n same) e
  where
    go : (b : Bool) → b ≡ true → not b ≡ true → ⊥
    go true t f = false≢true f
    go false t f = false≢true t

alike : (m n : ℕ) → not (eqb m n) ≡ false → m ≡ n
alike m n e = go (eqb m n) refl e
  where
    go : (b : Bool) → eqb m n ≡ b → not b ≡ false → m ≡ n
    go true t f = eqb-true m n t
    go false t f = absurd (false≢true (sym f))

apart : (m n : ℕ) → m ≢ n → pos m -ℤ pos n ≢ pos 0
apart m n ne e = ne (omega (arith, ints, e))

together : (m n : ℕ) → m ≡ n → pos m -ℤ pos n ≡ pos 0
together m n e = omega (arith, ints, e)

module _ (m : TheMap) (q : Point) (crossed : List Flanks) (near far : List ℕ) (tell : TellCounts m.chains q crossed) (t : AreTallies crossed near far) (nears : length near ≡ length m.polygons) (fars : length far ≡ length m.polygons) where
  pub polygons_at : AreCounted (length m.polygons) (IsPolygonCount m.chains q) (passing (differ_at near far) (length m.polygons))
  polygons_at =
      counted_by (differ_at near far) (IsPolygonCount m.chains q) (length m.polygons)
      (λ p lt e. (pos (slice_index near p) -ℤ pos (slice_index far p), count p lt, apart (slice_index near p) (slice_index far p) (differ (slice_index near p) (slice_index far p) e)))
      (λ p lt e. subst (IsPolygonCount m.chains q p) (together (slice_index near p) (slice_index far p) (alike (slice_index near p) (slice_index far p) e)) (count p lt))
    where
      count : (p : ℕ) → p < length m.polygons → IsPolygonCount m.chains q p (pos (slice_index near p) -ℤ pos (slice_index far p))
      count p lt = counted m.chains q crossed near far tell t p (omega (arith, lt, nears)) (omega (arith, lt, fars))

  module _ (of : (l : ℕ) (landmark : MapLandmark) → slice_get m.landmarks l ≡ Some landmark → ArePolygonsOf (length m.polygons) landmark.polygons) where
    pub landmarks_at : AreCounted (length m.landmarks) (IsCountOf m q) (passing (sums_differ m.landmarks near far) (length m.landmarks))
    landmarks_at =
        counted_by (sums_differ m.landmarks near far) (IsCountOf m q) (length m.landmarks)
        (λ l lt e. (value l, count l lt, apart (sum_at near (ps l)) (sum_at far (ps l)) (differ (sum_at near (ps l)) (sum_at far (ps l)) e)))
        (λ l lt e. subst (IsCountOf m q l) (together (sum_at near (ps l)) (sum_at far (ps l)) (alike (sum_at near (ps l)) (sum_at far (ps l)) e)) (count l lt))
      where
        ps : ℕ → List ℕ
        ps l = polygons_of (slice_get m.landmarks l)

        value : ℕ → ℤ
        value l = pos (sum_at near (ps l)) -ℤ pos (sum_at far (ps l))

        count : (l : ℕ) → l < length m.landmarks → IsCountOf m q l (value l)
        count l lt =
            let landmark : MapLandmark = get_or m.landmarks l (record { land = 0; point = None; polygons = [] }) in
            let is : slice_get m.landmarks l ≡ Some landmark = slice_get-get_or m.landmarks l (record { land = 0; point = None; polygons = [] }) lt in
            record {
              landmark = landmark;
              is = is;
              count =
                  rw is (landmark_count m.chains q crossed near far landmark.polygons (length m.polygons) tell t nears fars (of l landmark is));
            }

pub if_ok : {X E : Type 0} {P Q : X → Type 0} (r : Result X E) → ((x : X) → P x → Q x) → IfOk r P → IfOk r Q
if_ok (Ok x) f h = f x h
if_ok (Err e) f h = tt

not_alike : (m n : ℕ) → m ≢ n → not (eqb m n) ≡ true
not_alike m n ne = go (eqb m n) refl
  where
    go : (b : Bool) → eqb m n ≡ b → not b ≡ true
    go true t = absurd (ne (eqb-true m n t))
    go false t = refl

-- what the sums of a landmark say of its number
module _ (landmarks : List MapLandmark) (near far : List ℕ) (l one other : ℕ) (landmark : MapLandmark) (is : slice_get landmarks l ≡ Some landmark) (one_is : one ≡ sum_at near landmark.polygons) (other_is : other ≡ sum_at far landmark.polygons) where
  found : sums_differ landmarks near far l ≡ not (eqb (sum_at near landmark.polygons) (sum_at far landmark.polygons))
  found = ap (λ (o : Option MapLandmark). not (eqb (sum_at near (polygons_of o)) (sum_at far (polygons_of o)))) is

  pub sums_apart : one ≢ other → sums_differ landmarks near far l ≡ true
  sums_apart ne = found ∙ not_alike (sum_at near landmark.polygons) (sum_at far landmark.polygons) (λ e. ne (one_is ∙ e ∙ sym other_is))

  pub sums_together : one ≡ other → sums_differ landmarks near far l ≡ false
  sums_together e = found ∙ ap not (eq-eqb (sum_at near landmark.polygons) (sum_at far landmark.polygons) (sym one_is ∙ e ∙ other_is))
