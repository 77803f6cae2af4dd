use Rattle.std.proofs.Common.{None, ◌≡◌, ℕ, ◌+◌, ◌-◌, ◌≤◌}
use Rattle.std.specs.Int.{bit_at}
use Rattle.tl_tree_index.specs.Pairs.{meeting, cross_sum, AllCross, AreToldApart}
use Rattle.tl_tree.specs.Keeping.Walking.{Enough}
use Rattle.tl_tree.proofs.CellRows.{rest, RestAll}
use Rattle.tl_tree.proofs.search.test_cells.Given as goal

-- what is left covers what was met so far, and so far nothing conflicted; the marks are those of the cells that are left
abbrev pub invariant-loop-later : goal.invariant-loop-later
invariant-loop-later g l =
    let meet = meeting (g.I.Items.bounds_of l.items) in
    let free = AreToldApart (g.I.Items.tells l.items) in
    record {
      left : l.progress.left + cross_sum meet l.some l.others ≡ l.fn.progress.left + rest meet l.some l.others l.place;
      spent : Enough (g.I.Items.count l.items) (g.I.Items.bounds_of l.items) (g.I.Items.tells l.items) (λ f. l.fn.progress.left + rest f l.some l.others l.place ≤ l.progress.left + cross_sum f l.some l.others);
      free : RestAll free l.some l.others l.place → AllCross free l.some l.others;
      nothing_found : l.progress.found ≡ None;
      within : l.place ≤ 64;
      marks : (k : ℕ) → bit_at l.later k ≡ bit_at l.cells (l.place + k);
    }

-- the cells that are left
abbrev pub decreases-loop-later : goal.decreases-loop-later
decreases-loop-later g l = 64 - l.place
