use Rattle.std.proofs.Common.{None, ◌≡◌, ◌+◌, ◌≤◌, drop}
use Rattle.tl_tree_index.specs.Pairs.{meeting, AreToldApart, row_sum, AllRow}
use Rattle.tl_tree.specs.Keeping.Walking.{Enough}
use Rattle.tl_tree.proofs.search.test_each.Given as goal

-- what is left covers what was met so far, and so far nothing conflicted
abbrev pub invariant-loop-j : goal.invariant-loop-j
invariant-loop-j g l =
    let meet = row_sum (meeting (g.I.Items.bounds_of l.items)) l.i in
    let free = AllRow (AreToldApart (g.I.Items.tells l.items)) l.i in
    record {
      left : l.progress.left + meet l.others ≡ l.fn.progress.left + meet (drop l.j-index l.others);
      spent : Enough (g.I.Items.count l.items) (g.I.Items.bounds_of l.items) (g.I.Items.tells l.items) (λ f. l.fn.progress.left + row_sum f l.i (drop l.j-index l.others) ≤ l.progress.left + row_sum f l.i l.others);
      free : free (drop l.j-index l.others) → free l.others;
      nothing_found : l.progress.found ≡ None;
    }
