use Rattle.std.proofs.Common.{None, ◌≡◌, ◌+◌, ◌≤◌, ℕ, List, drop}
use Rattle.tl_tree_index.specs.Pairs.{meeting, AreToldApart, cross_sum, AllCross}
use Rattle.tl_tree.specs.Keeping.Walking.{Enough}
use Rattle.tl_tree.proofs.search.test_all.Given as goal

-- what is left covers what was met so far, and so far nothing conflicted
abbrev pub invariant-loop-i : goal.invariant-loop-i
invariant-loop-i g l =
    let meet = λ (xs : List ℕ). cross_sum (meeting (g.I.Items.bounds_of l.items)) xs l.others in
    let free = λ (xs : List ℕ). AllCross (AreToldApart (g.I.Items.tells l.items)) xs l.others in
    record {
      left : l.progress.left + meet l.some ≡ l.fn.progress.left + meet (drop l.i-index l.some);
      spent : Enough (g.I.Items.count l.items) (g.I.Items.bounds_of l.items) (g.I.Items.tells l.items) (λ f. l.fn.progress.left + cross_sum f (drop l.i-index l.some) l.others ≤ l.progress.left + cross_sum f l.some l.others);
      free : free (drop l.i-index l.some) → free l.some;
      nothing_found : l.progress.found ≡ None;
    }
