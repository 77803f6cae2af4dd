use Rattle.std.proofs.Common.{◌≡◌, ◌≤◌, ◌*◌, ◌++◌, drop, length}
use Rattle.tigertopo_program.specs.Print.Printing.{points_text}
use Rattle.tigertopo_program.proofs.print.chains.put_points.Given as goal

abbrev pub invariant-loop-left : goal.invariant-loop-left
invariant-loop-left l = record {
  below : l.left ≤ length l.points;
  room : 24 * l.left ≤ l.start;
  within : l.start ≤ l.initial.start;
  text : drop l.start l.text ≡ points_text (drop l.left l.points) ++ drop l.initial.start l.initial.text;
}

abbrev pub decreases-loop-left : goal.decreases-loop-left
decreases-loop-left l = l.left
