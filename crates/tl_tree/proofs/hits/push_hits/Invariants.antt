use Rattle.std.proofs.Common.{◌+◌, take}
use Rattle.tl_tree.specs.Keeping.Marking.{Includes, MeetsAt}
use Rattle.tl_tree.specs.Keeping.Walking.{Collects}
use Rattle.tl_tree.proofs.hits.push_hits.Given as goal

-- the hits among the items so far are appended, and the marks are those of the others
abbrev pub invariant-loop-i : goal.invariant-loop-i
invariant-loop-i g l = record {
  found : Collects (g.P.Probe.hit l.probe l.items) (take l.i-index l.some) l.initial.out.items l.out.items;
  marks : Includes l.marks (λ k. MeetsAt (g.I.Items.bounds_of l.items) l.fn.region l.some (k + l.i-index));
}
