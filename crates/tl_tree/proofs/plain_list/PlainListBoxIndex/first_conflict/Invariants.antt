use Rattle.std.proofs.Common.{None, ◌≡◌, ◌+◌, ◌≤◌}
use Rattle.tl_tree_index.specs.Pairs.{meeting, pair_sum, AreToldApart, AllPairs, indices}
use Rattle.tl_tree.specs.Keeping.Walking.{Enough}
use Rattle.tl_tree.proofs.plain_list.PlainListBoxIndex.first_conflict.Given as goal

-- what is left and what was met are the budget, and so far nothing conflicted
abbrev pub invariant-loop-j : goal.invariant-loop-j
invariant-loop-j g l =
    record {
      left : l.progress.left + pair_sum (meeting (g.I.Items.bounds_of l.items)) (indices l.j) ≡ l.budget;
      spent : Enough (g.I.Items.count l.items) (g.I.Items.bounds_of l.items) (g.I.Items.tells l.items) (λ f. l.budget ≤ l.progress.left + pair_sum f (indices l.j));
      free : AllPairs (AreToldApart (g.I.Items.tells l.items)) (indices l.j);
      nothing_found : l.progress.found ≡ None;
    }
