use Rattle.std.proofs.Common.{take}
use Rattle.tl_check_sides.specs.Keeping.Marked.{AddMarks}
use Rattle.tl_check_sides.proofs.marks.mark_darts.Given as goal

-- the darts so far are marked
abbrev pub invariant-loop-dart : goal.invariant-loop-dart
invariant-loop-dart l = AddMarks l.initial.marks (take l.dart-index l.darts) l.marks
