use Rattle.std.proofs.Common.{take}
use Rattle.tigertopo_program.specs.Print.Printing.{chains_text}
use Rattle.tigertopo_program.proofs.print.chains.print_chains.Given as goal

abbrev pub invariant-loop-chain : goal.invariant-loop-chain
invariant-loop-chain g l =
    g.P.Page.adds l.initial.page l.page (chains_text (take l.chain l.chains.chains))
