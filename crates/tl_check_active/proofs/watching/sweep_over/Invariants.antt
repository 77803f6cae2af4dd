use Rattle.std.proofs.Common.{◌-◌, ◌≤◌, length}
use Rattle.tl_check_active.specs.Blocks.Lined.{list_of}
use Rattle.tl_check_active.proofs.watching.sweep_over.Given as goal

-- what the watcher keeps
abbrev pub invariant-loop-from : goal.invariant-loop-from
invariant-loop-from g l = record {
  within : l.from ≤ length l.events;
  keeps : g.W.Watcher.keeps l.watcher l.notes l.map l.events l.from (list_of l.line);
}

abbrev pub decreases-loop-from : goal.decreases-loop-from
decreases-loop-from g l = length l.events - l.from
