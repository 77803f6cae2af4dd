use Rattle.std.proofs.Common.{◌-◌, ◌*◌, ◌^◌, ◌<◌, length}
use Rattle.tl_tree.specs.Keeping.Cells.{AreLaneCells}
use Rattle.tl_tree.proofs.cells.cells_of.Given as goal

-- the cells of the rows so far
abbrev pub invariant-loop-k : goal.invariant-loop-k
invariant-loop-k g l = record {
  marked : AreLaneCells (g.I.Items.bounds_of l.items) l.some l.bounds l.k l.cells;
  room : l.cells < 2 ^ (8 * (length l.some - l.k));
}
