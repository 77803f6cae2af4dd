use Rattle.std.proofs.Common.{None, ◌≡◌, ℕ, ◌+◌, ◌-◌, ◌≤◌}
use Rattle.std.specs.Int.{bit_at}
use Rattle.tl_tree_index.specs.Pairs.{meeting, AreToldApart}
use Rattle.tl_tree.specs.Keeping.Walking.{Enough}
use Rattle.tl_tree.proofs.OwnPairs.{own_sums, AllOwns}
use Rattle.tl_tree.proofs.own_pairs.test_own_pairs.Given as goal

-- what was met so far is spent, and so far nothing conflicted; the marks are those of the cells that are left
abbrev pub invariant-loop-later : goal.invariant-loop-later
invariant-loop-later g l =
    record {
      left : l.progress.left + own_sums (meeting (g.I.Items.bounds_of l.items)) l.some l.place ≡ l.fn.progress.left;
      spent : Enough (g.I.Items.count l.items) (g.I.Items.bounds_of l.items) (g.I.Items.tells l.items) (λ f. l.fn.progress.left ≤ l.progress.left + own_sums f l.some l.place);
      free : AllOwns (AreToldApart (g.I.Items.tells l.items)) l.some l.place;
      nothing_found : l.progress.found ≡ None;
      within : l.place ≤ 28;
      marks : (k : ℕ) → bit_at l.later k ≡ bit_at l.cells (l.place + k);
    }

-- the cells that are left
abbrev pub decreases-loop-later : goal.decreases-loop-later
decreases-loop-later g l = 28 - l.place
