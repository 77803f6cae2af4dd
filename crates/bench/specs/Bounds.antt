-- The rectangles of segments.
use Rattle.std.specs.Prelude.{ℕ, zero, suc, List, [], ◌∷◌}
use Rattle.tl_geom.specs.declared.rect.Rect.{Rect}
use Rattle.tl_geom.specs.declared.segment.Segment.{Segment}
use Rattle.tl_geom.specs.Rectangle.{rect_of, nothing}

-- that of segment i, or an empty one where there is none
abbrev pub rect_at : List Segment → ℕ → Rect
rect_at [] i = nothing
rect_at (s ∷ others) zero = rect_of s
rect_at (s ∷ others) (suc i) = rect_at others i
