-- A ring has one side on the left of all its darts, so it counts for that side alone.
use Rattle.std.proofs.Common.{◌≡◌, ℕ, zero, suc, ◌<◌, ℤ, pos, Bool, true, false, cond, List, length, ap, refl, ◌∙◌, arith}
use Rattle.std.specs.Prelude.{slice_index}
use Rattle.std.specs.Option.{option_map_or}
use Rattle.tl_geom.specs.declared.point.Point.{Point}
use Rattle.tl_map_county.specs.declared.sides.Side.{Side}
use Rattle.tl_map_county.specs.TheMap.{MapChain}
use Rattle.tl_map_county.specs.Darts.{reverse_dart, dart_left}
use Rattle.tl_check_sides.specs.Sides.{SidesAgree, Follows, IsRing}
use Rattle.tl_check_sides.proofs.Boundaries.{back_again}
use Rattle.tl_check_faces.specs.Crossings.Rings.{dart_crossings, winding, has_left, ring_count}
use Rattle.tl_check_faces.proofs.CrossingsLemmas.Adding.{total_same, total_none}

-- what a dart adds to the count of such sides
abbrev pub dart_adds : List MapChain → Point → (Side → Bool) → ℕ → ℤ
dart_adds chains q S d = cond (has_left chains S d) (dart_crossings chains q d) (pos 0)

module _ (chains : List MapChain) (agree : SidesAgree chains) where
  -- along a step the left side stays
  stays : (d e : ℕ) → Follows chains d e → dart_left chains e ≡ dart_left chains d
  stays d e f = agree e (reverse_dart d) f.next ∙ ap (dart_left chains) (back_again d)

  module _ (ring : List ℕ) (is : IsRing chains ring) where
    pub one_left : (k : ℕ) → k < length ring → dart_left chains (slice_index ring k) ≡ dart_left chains (slice_index ring 0)
    one_left zero lt = refl
    one_left (suc k) lt = stays (slice_index ring k) (slice_index ring (suc k)) (is.follows (suc k) lt) ∙ one_left k (omega (arith, lt))

    pub counts_whole : (q : Point) (S : Side → Bool) → ring_count chains q S ring ≡ cond (has_left chains S (slice_index ring 0)) (winding chains q ring) (pos 0)
    counts_whole q S = go (has_left chains S (slice_index ring 0)) refl
      where
        alike : (k : ℕ) → k < length ring → has_left chains S (slice_index ring k) ≡ has_left chains S (slice_index ring 0)
        alike k lt = ap (λ o. option_map_or S o false) (one_left k lt)

        go : (b : Bool) → has_left chains S (slice_index ring 0) ≡ b → ring_count chains q S ring ≡ cond b (winding chains q ring) (pos 0)
        go true e = total_same (dart_adds chains q S) (dart_crossings chains q) ring (λ k lt. ap (λ b. cond b (dart_crossings chains q (slice_index ring k)) (pos 0)) (alike k lt ∙ e))
        go false e =
            total_same (dart_adds chains q S) (λ d. pos 0) ring (λ k lt. ap (λ b. cond b (dart_crossings chains q (slice_index ring k)) (pos 0)) (alike k lt ∙ e))
            ∙ total_none ring
