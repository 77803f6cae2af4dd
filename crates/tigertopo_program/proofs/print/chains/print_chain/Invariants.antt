use Rattle.std.proofs.Common.{◌≤◌, ◌-◌, take, length}
use Rattle.tigertopo_program.specs.Print.Printing.{points_text}
use Rattle.tigertopo_program.proofs.print.chains.print_chain.Given as goal

abbrev pub invariant-loop-printed : goal.invariant-loop-printed
invariant-loop-printed g l = record {
  within : l.printed ≤ length l.points;
  prints : g.P.Page.adds l.initial.page l.page (points_text (take l.printed l.points));
}

abbrev pub decreases-loop-printed : goal.decreases-loop-printed
decreases-loop-printed g l = length l.points - l.printed
