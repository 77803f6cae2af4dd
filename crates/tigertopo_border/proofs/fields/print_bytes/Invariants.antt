use Rattle.std.proofs.Common.{replicate}
use Rattle.tigertopo_border.proofs.fields.print_bytes.Given as goal

abbrev pub invariant-loop : goal.invariant-loop
invariant-loop g l =
    g.P.Page.adds l.initial.page l.page (replicate l.counter l.byte)
