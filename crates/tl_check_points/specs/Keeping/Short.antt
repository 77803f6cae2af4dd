-- Polygons that are near as often as far, once their counts are taken back.
use Rattle.std.specs.Prelude.{◌≡◌, ℕ, ◌+◌, ◌<◌, ◌≤◌, true, List, length, slice_index, drop}
use Rattle.tl_map_county.specs.declared.sides.Side.{Side}
use Rattle.tl_check_inside.specs.declared.flanks.Flanks.{Flanks}
use Rattle.tl_check_inside.specs.Inside.{is_polygon}
use Rattle.tl_check_inside.specs.Keeping.Tallies.{near_count, far_count}

-- what is listed and counted of polygon p is as much more often near than far as these flanks have it
abbrev pub KeepsBalance : (flanks short : List Flanks) (near far : List ℕ) (p : ℕ) → Type 0
KeepsBalance flanks short near far p =
    near_count short (is_polygon p) + slice_index near p + far_count flanks (is_polygon p)
    ≡ far_count short (is_polygon p) + slice_index far p + near_count flanks (is_polygon p)

-- so it is of each polygon; and of those that are still counted each is on a side of one of the flanks from place k on
pub record AreSettled (flanks short : List Flanks) (near far : List ℕ) (k : ℕ) : Type 0 where
  pub left : (p : ℕ) → p < length near → KeepsBalance flanks short near far p
  pub rest : (p : ℕ) → p < length near → 0 < slice_index near p + slice_index far p →
      0 < near_count (drop k flanks) (is_polygon p) + far_count (drop k flanks) (is_polygon p)

-- the polygon on the side is listed and no more counted, and all others are as they were
pub record IsSettled (side : Side) (old new : List Flanks) (near near_after far far_after : List ℕ) : Type 0 where
  pub same : (p : ℕ) → near_count new (is_polygon p) + slice_index near_after p + (far_count old (is_polygon p) + slice_index far p)
      ≡ far_count new (is_polygon p) + slice_index far_after p + (near_count old (is_polygon p) + slice_index near p)
  pub none : (p : ℕ) → is_polygon p side ≡ true → slice_index near_after p + slice_index far_after p ≡ 0
  pub less : (p : ℕ) → slice_index near_after p + slice_index far_after p ≤ slice_index near p + slice_index far p
