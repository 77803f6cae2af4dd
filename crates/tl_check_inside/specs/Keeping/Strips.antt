-- Points that are looked at together: those of one strip, by one search for what lies in it.
use Rattle.std.specs.Prelude.{◌≡◌, ℕ, ◌<◌, ◌≤ℤ◌, pos, Some, List, length, map, All, slice_get}
use Rattle.tl_geom.specs.declared.point.Point.{Point}
use Rattle.tl_geom.specs.declared.rect.Rect.{Rect}
use Rattle.tl_geom.specs.Rectangle.{Covers, ray_rect}
use Rattle.tl_map_county.specs.declared.polygons.Polygon.{Polygon}
use Rattle.tl_map_county.specs.TheMap.{TheMap, MapChain}
use Rattle.tl_map_county.specs.Segments.{segments_before}
use Rattle.tl_tree_index.specs.Hits.{times}
use Rattle.tl_check_inside.specs.declared.strips.Site.{Site}
use Rattle.tl_check_inside.specs.Inside.{IsCrossed}
use Rattle.tl_check_inside.specs.Placed.{IsPlacedIn}
use Rattle.tl_check_inside.specs.Keeping.Probing.{IsHolding}

-- the strip holds the ray of the point
pub record IsInStrip (strip : Rect) (q : Point) : Type 0 where
  pub covers : Covers strip (ray_rect q)
  pub reach : q.x ≤ℤ pos 2147483647

-- it is that of a polygon
pub record IsSiteOf (m : TheMap) (site : Site) : Type 0 where
  pub polygon : Polygon
  pub is : slice_get m.polygons site.polygon ≡ Some polygon
  pub point : site.point ≡ polygon.point

-- the numbers of the polygons
abbrev pub numbers : List Site → List ℕ
numbers sites = map (λ (site : Site). site.polygon) sites

-- the polygon's point lies where it has to
abbrev pub IsPlacedSite : TheMap → Site → Type 0
IsPlacedSite m site = (polygon : Polygon) → slice_get m.polygons site.polygon ≡ Some polygon → IsPlacedIn m polygon.point site.polygon

-- each segment that holds the point, or that its ray crosses, stands in the list once
pub record AreEnough (chains : List MapChain) (q : Point) (hits : List ℕ) : Type 0 where
  pub known : All (λ s. s < segments_before chains (length chains)) hits
  pub held : (s : ℕ) → IsHolding chains q s → times s hits ≡ 1
  pub crossed : (s : ℕ) → IsCrossed chains q s → times s hits ≡ 1
