use Rattle.std.proofs.Common.{None, ◌≡◌, ◌+◌, ◌≤◌, drop}
use Rattle.tl_tree_index.specs.Pairs.{meeting, AreToldApart, pair_sum, AllPairs}
use Rattle.tl_tree.specs.Keeping.Walking.{Enough}
use Rattle.tl_tree.proofs.search.test_all_pairs.Given as goal

-- what is left covers what was met so far, and so far nothing conflicted
abbrev pub invariant-loop-k : goal.invariant-loop-k
invariant-loop-k g l =
    let meet = pair_sum (meeting (g.I.Items.bounds_of l.items)) in
    let free = AllPairs (AreToldApart (g.I.Items.tells l.items)) in
    record {
      left : l.progress.left + meet l.some ≡ l.fn.progress.left + meet (drop l.k l.some);
      spent : Enough (g.I.Items.count l.items) (g.I.Items.bounds_of l.items) (g.I.Items.tells l.items) (λ f. l.fn.progress.left + pair_sum f (drop l.k l.some) ≤ l.progress.left + pair_sum f l.some);
      free : free (drop l.k l.some) → free l.some;
      nothing_found : l.progress.found ≡ None;
    }
