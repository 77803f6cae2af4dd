-- Sums over steps and darts.
use Rattle.std.proofs.Common.{◌≡◌, ℕ, zero, suc, ◌+◌, ◌-◌, ◌/◌, ◌%◌, ◌<◌, ◌≤◌, inl, inr, List, [], ◌∷◌, ◌++◌, length, get_or, set, Some, None, Option, slice_get, refl, sym, ap, subst, ◌∙◌, below_more, arith, add-one, ℤ, pos, ◌+ℤ◌, unsigned_abs}
use Rattle.std.proofs.lemmas.Int.{ints}
use Rattle.std.specs.Prelude.{◌==◌}
use Rattle.std.proofs.Math.IntN.{+ℤ_idr}
use Rattle.std.proofs.lemmas.Bool.Decides.{eqb_tells}
use Rattle.std.proofs.Math.Seq.{get_or-append_seam}
use Rattle.std.proofs.lemmas.List.{get_or-set_same, get_or-set_other, get_or_append_left}
use Rattle.tl_geom.specs.declared.point.Point.{Point}
use Rattle.tl_geom.specs.Plane.{cross}
use Rattle.tl_map_county.specs.declared.sides.Side.{Side}
use Rattle.tl_map_county.specs.declared.sides.Side.TheVariants.{Outside, Polygon}
use Rattle.tl_map_county.specs.TheMap.{MapChain, IsChain}
use Rattle.tl_map_county.specs.Darts.{directed}
use Rattle.tl_map_county.specs.Segments.{segments_before}
use Rattle.tl_check_planar.proofs.Numbering.{before_later}
use Rattle.tigertopo_pictures.specs.Geojson.Areas.{sum_below, step_cross_at, share}
use Rattle.tigertopo_pictures.specs.Walks.{dart_points}

pub abs_plus : (a b : ℤ) → unsigned_abs (a +ℤ b) ≤ unsigned_abs a + unsigned_abs b
abs_plus a b = omega (arith, ints)

-- one step more
pub step_more : (points : List Point) (i : ℕ) (p q : Point) → 1 ≤ i → slice_get points (i - 1) ≡ Some p → slice_get points i ≡ Some q
    → sum_below (step_cross_at points) (i - 1) +ℤ cross p.x p.y q.x q.y ≡ sum_below (step_cross_at points) (i + 1 - 1)
step_more points zero p q some from to = absurd (omega arith)
step_more points (suc k) p q some from to =
    let here : suc k - 1 ≡ k = omega arith in
    let next : suc k + 1 - 1 ≡ suc k = omega arith in
    let first : slice_get points k ≡ Some p = rw here at from in
    let second : slice_get points (k + 1) ≡ Some q = rw add-one to in
    rw (here, next, first, second) refl

-- what a side adds to each area
pub added : (areas : List ℤ) (q p : ℕ) (sum : ℤ) → q < length areas → get_or (set areas q (get_or areas q (pos 0) +ℤ sum)) p (pos 0) ≡ get_or areas p (pos 0) +ℤ share p (Some (Polygon q)) sum
added areas q p sum within = elim (eqb_tells q p) [
  | inl same ↦ rw (same.0, ← same.1, get_or-set_same areas q (get_or areas q (pos 0) +ℤ sum) (pos 0) within) refl
  | inr other ↦ rw (other.0, get_or-set_other areas q p (get_or areas q (pos 0) +ℤ sum) (pos 0) (λ e. other.1 (sym e)), +ℤ_idr (get_or areas p (pos 0))) refl
]

-- what one adds to no area that is there
pub none_added : (areas : List ℤ) (q p : ℕ) (sum : ℤ) → length areas ≤ q → p < length areas → get_or areas p (pos 0) ≡ get_or areas p (pos 0) +ℤ share p (Some (Polygon q)) sum
none_added areas q p sum beyond within = elim (eqb_tells q p) [
  | inl same ↦ absurd (omega (arith, same.1, beyond, within))
  | inr other ↦ rw (other.0, +ℤ_idr (get_or areas p (pos 0))) refl
]

pub share_bound : (p : ℕ) (side : Option Side) (sum : ℤ) (n : ℕ) → unsigned_abs sum ≤ n → unsigned_abs (share p side sum) ≤ n
share_bound p None sum n few = omega arith
share_bound p (Some Outside) sum n few = omega arith
share_bound p (Some (Polygon q)) sum n few = elim (eqb_tells q p) [
  | inl same ↦ rw same.0 few
  | inr other ↦ rw other.0 (omega arith)
]

-- one area more
pub one_area_more : (areas : List ℤ) (n : ℕ) (a : ℤ) (made : ℕ → ℤ) → length areas ≡ n → ((k : ℕ) → k < n → get_or areas k (pos 0) ≡ made k) → a ≡ made n → (k : ℕ) → k < n + 1 → get_or (areas ++ a ∷ []) k (pos 0) ≡ made k
one_area_more areas n a made long each here =
    below_more (λ k. get_or (areas ++ a ∷ []) k (pos 0) ≡ made k) n
    (λ k less. get_or_append_left areas (a ∷ []) (pos 0) k (omega (arith, long, less)) ∙ each k less)
    (subst (λ m. get_or (areas ++ a ∷ []) m (pos 0) ≡ made n) long (get_or-append_seam areas a [] (pos 0) ∙ here))

-- the points of a dart by its chain
pub points_are : (chains : List MapChain) (d tlid : ℕ) (points : List Point) (left right : Side) → IsChain (slice_get chains (d / 2)) tlid points left right → dart_points chains d ≡ directed (d % 2 == 0) points
points_are chains d tlid points left right is = rw (is.is, is.points_are) refl

-- a chain has at most as many segments as all have together
pub few_steps : (chains : List MapChain) (c tlid : ℕ) (points : List Point) (left right : Side) → IsChain (slice_get chains c) tlid points left right → c < length chains
    → length points - 1 ≤ segments_before chains (length chains)
few_steps chains c tlid points left right is within =
    let long : length points ≡ length is.chain.points = ap length is.points_are in
    omega (arith, before_later chains c (length chains) is.chain is.is within, long)
