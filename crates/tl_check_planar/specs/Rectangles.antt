-- The rectangles of the segments of a map's chains, by the segments' numbers.
use Rattle.std.specs.Prelude.{ℕ, List, [], ◌∷◌, ◌++◌, slice_index_or}
use Rattle.std.specs.Int.{int_max, int_min}
use Rattle.tl_geom.specs.declared.point.Point.{Point}
use Rattle.tl_geom.specs.declared.rect.Rect.{Rect}
use Rattle.tl_geom.specs.Rectangle.{nothing}
use Rattle.tl_map_county.specs.TheMap.{MapChain}

-- the least rectangle that holds two points, and so the segment between them
abbrev pub rect_between : (p q : Point) → Rect
rect_between p q =
    record { xmin = int_min p.x q.x; ymin = int_min p.y q.y; xmax = int_max p.x q.x; ymax = int_max p.y q.y }

-- those of the segments from a point by the others, in order
abbrev pub rects_from : Point → List Point → List Rect
rects_from p [] = []
rects_from p (q ∷ points) = rect_between p q ∷ rects_from q points

-- those of the segments of a chain with these points
abbrev pub rects_along : List Point → List Rect
rects_along [] = []
rects_along (p ∷ points) = rects_from p points

-- those of the segments of all chains
abbrev pub rects_of : List MapChain → List Rect
rects_of [] = []
rects_of (c ∷ chains) = rects_along c.points ++ rects_of chains

-- that of segment s, or an empty one where there is none
abbrev pub segment_rect : List MapChain → ℕ → Rect
segment_rect chains s = slice_index_or (rects_of chains) s nothing
