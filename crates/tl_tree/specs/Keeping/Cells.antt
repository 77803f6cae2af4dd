-- Pairs of the items of two leaves, in rows of eight cells: one row for each item of the first one.
use Rattle.std.specs.Prelude.{◌≡◌, ℕ, ◌+◌, ◌*◌, ◌<◌, ◌↔◌, List, length, get_or}
use Rattle.std.specs.Int.{bit_at}
use Rattle.tl_geom.specs.declared.rect.Rect.{Rect}
use Rattle.tl_geom.specs.declared.rect8.Rect8.{Rect8}
use Rattle.tl_geom.specs.EightRectangles.{lane}
use Rattle.tl_geom.specs.Rectangle.{AreMeeting}

-- the marked cells of the rows from k on are those of an item and a lane that meets its bounds
abbrev pub AreLaneCells : (ℕ → Rect) → List ℕ → Rect8 → ℕ → ℕ → Type 0
AreLaneCells bounds xs eight k cells =
    (i j : ℕ) → i + k < length xs → j < 8 →
    (bit_at cells (8 * i + j) ≡ 1) ↔ AreMeeting (lane eight j) (bounds (get_or xs (i + k) 0))

-- the marked cells are those of two items whose bounds meet
abbrev pub AreCellsOf : (ℕ → Rect) → List ℕ → List ℕ → ℕ → Type 0
AreCellsOf bounds xs ys cells =
    (i j : ℕ) → i < length xs → j < 8 → j < length ys →
    (bit_at cells (8 * i + j) ≡ 1) ↔ AreMeeting (bounds (get_or ys j 0)) (bounds (get_or xs i 0))
