use Rattle.std.proofs.Common.{take}
use Rattle.tl_cert.proofs.WriteLemmas.{nodes_text}
use Rattle.tl_cert.proofs.write.write_nodes.Given as goal

abbrev pub invariant-loop-node : goal.invariant-loop-node
invariant-loop-node g l =
    g.P.Page.adds l.initial.page l.page (nodes_text l.version (take l.node-index l.nodes))
