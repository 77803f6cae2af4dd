-- What a search keeps of eight rectangles at once: marks of those that may meet another one, and beyond the eighth all.
use Rattle.std.specs.Prelude.{◌≡◌, ℕ, ◌<◌, List, [], ◌∷◌, length, get_or}
use Rattle.std.specs.Int.{bit_at}
use Rattle.tl_geom.specs.declared.rect.Rect.{Rect}
use Rattle.tl_geom.specs.declared.rect8.Rect8.{Rect8}
use Rattle.tl_geom.specs.EightRectangles.{lane}
use Rattle.tl_geom.specs.Rectangle.{AreMeeting, nothing}
use Rattle.tl_tree_index.specs.Trees.{Forest, none, leaf, inner}

-- each of the first eight numbers of which P is true is marked
abbrev pub Includes : ℕ → (ℕ → Type 0) → Type 0
Includes marks P = (k : ℕ) → k < 8 → P k → bit_at marks k ≡ 1

-- item k of the list has bounds that meet a rectangle
pub record MeetsAt (bounds : ℕ → Rect) (r : Rect) (xs : List ℕ) (k : ℕ) : Type 0 where
  pub within : k < length xs
  pub meets : AreMeeting (bounds (get_or xs k 0)) r

-- the lanes are the bounds of the first eight items of the list
abbrev pub AreBoundsOf : (ℕ → Rect) → List ℕ → Rect8 → Type 0
AreBoundsOf bounds xs eight = (k : ℕ) → k < 8 → k < length xs → lane eight k ≡ bounds (get_or xs k 0)

-- the rectangles of the roots
abbrev pub roots : Forest → List Rect
roots none = []
roots (leaf r xs others) = r ∷ roots others
roots (inner r children others) = r ∷ roots others

-- the rectangle of root k meets a rectangle
pub record RootMeets (f : Forest) (r : Rect) (k : ℕ) : Type 0 where
  pub within : k < length (roots f)
  pub meets : AreMeeting (get_or (roots f) k nothing) r
