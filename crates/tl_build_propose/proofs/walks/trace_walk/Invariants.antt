use Rattle.std.proofs.Common.{◌≡◌, ◌<◌, length}
use Rattle.std.specs.List.{count_by}
use Rattle.std.specs.Prelude.{not}
use Rattle.tl_tree_index.specs.Keeping.Marked.{mark_at}
use Rattle.tl_check_sides.specs.Keeping.Marked.{AddMarks}
use Rattle.tl_build_propose.proofs.WalkLemmas.{GoesSoFar}
use Rattle.tl_build_propose.proofs.walks.trace_walk.Given as goal

-- the darts of the walk are taken, and unless the first is the next of them, it is taken too
abbrev pub invariant-loop-taken : goal.invariant-loop-taken
invariant-loop-taken l =
    record {
      dart : l.dart < length l.following;
      taken : AddMarks l.fn.taken l.walk.items l.taken;
      goes : GoesSoFar l.following l.fn.taken l.taken l.walk.items l.first l.dart;
      begun : (l.dart ≡ l.first → ⊥) → mark_at l.taken l.first ≡ 1;
    }

abbrev pub decreases-loop-taken : goal.decreases-loop-taken
decreases-loop-taken l = count_by not l.taken
