-- Kept on the way: what lies on the sides of chains, in two lists.
use Rattle.std.specs.Prelude.{◌≡◌, ◌==◌, ℕ, None, if◌then◌else◌, List, [], ◌∷◌}
use Rattle.std.specs.Int.{w64, from_le_bytes}
use Rattle.tl_map_county.specs.declared.sides.Side.{Side}
use Rattle.tl_map_county.specs.declared.sides.Side.TheVariants.{Outside, Polygon}
use Rattle.tl_map_county.specs.declared.sides.ChainSides.{ChainSides}
use Rattle.tl_map_county.specs.declared.kept.SidePair.{SidePair}
use Rattle.tl_map_county.specs.declared.kept.EndCells.{EndCells}
use Rattle.tl_map_county.specs.declared.kept.TheConstants.{OUTSIDE}
use Rattle.tl_map_county.specs.Kept.{given}

-- what lies on a side that the number stands for
abbrev pub side_at : ℕ → Side
side_at n = if n == OUTSIDE then Outside else Polygon n

-- the numbers stand for what lies on the sides
pub record IsPairOf (s : ChainSides) (p : SidePair) : Type 0 where
  pub left : side_at p.left ≡ s.left
  pub right : side_at p.right ≡ s.right

-- the sides of a chain of which ids are kept
abbrev pub with_cells : EndCells → SidePair → ChainSides
with_cells c p = record {
  left = side_at p.left;
  right = side_at p.right;
  start_cell = given c.has_start (from_le_bytes w64 c.start);
  end_cell = given c.has_end (from_le_bytes w64 c.end);
}

-- the sides of a chain of which no ids are kept
abbrev pub without_cells : SidePair → ChainSides
without_cells p = record { left = side_at p.left; right = side_at p.right; start_cell = None; end_cell = None }

-- the sides of chains, of the first of which ids are kept
abbrev pub sides_kept : List EndCells → List SidePair → List ChainSides
sides_kept cs [] = []
sides_kept [] (p ∷ ps) = without_cells p ∷ sides_kept [] ps
sides_kept (c ∷ cs) (p ∷ ps) = with_cells c p ∷ sides_kept cs ps
