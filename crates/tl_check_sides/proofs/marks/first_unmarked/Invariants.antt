use Rattle.std.proofs.Common.{◌≡◌, ℕ, ◌<◌}
use Rattle.tl_tree_index.specs.Keeping.Marked.{mark_at}
use Rattle.tl_check_sides.proofs.marks.first_unmarked.Given as goal

-- the darts so far are marked
abbrev pub invariant-loop-dart : goal.invariant-loop-dart
invariant-loop-dart l = (d : ℕ) → d < l.dart → mark_at l.marks d ≡ 1
