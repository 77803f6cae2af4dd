use Rattle.std.proofs.Common.{None, ◌≡◌, ◌+◌, ◌≤◌}
use Rattle.tl_tree_index.specs.Pairs.{meeting, row_sum, AreToldApart, AllRow, indices}
use Rattle.tl_tree.specs.Keeping.Walking.{Enough}
use Rattle.tl_tree.proofs.plain_list.test_below.Given as goal

-- what is left and what was met are the budget, and so far nothing conflicted
abbrev pub invariant-loop-i : goal.invariant-loop-i
invariant-loop-i g l =
    record {
      left : l.progress.left + row_sum (meeting (g.I.Items.bounds_of l.items)) l.j (indices l.i) ≡ l.fn.progress.left;
      spent : Enough (g.I.Items.count l.items) (g.I.Items.bounds_of l.items) (g.I.Items.tells l.items) (λ f. l.fn.progress.left ≤ l.progress.left + row_sum f l.j (indices l.i));
      free : AllRow (AreToldApart (g.I.Items.tells l.items)) l.j (indices l.i);
      nothing_found : l.progress.found ≡ None;
    }
