use Rattle.tl_tree_index.specs.Hits.{Adds}
use Rattle.tl_tree.proofs.plain_list.PlainListBoxIndex.collect_hits.Given as goal

-- the hits among the items so far are appended
abbrev pub invariant-loop-i : goal.invariant-loop-i
invariant-loop-i g l = Adds l.i (g.P.Probe.hit l.probe l.items) l.initial.out.items l.out.items
