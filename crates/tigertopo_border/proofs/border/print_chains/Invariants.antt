use Rattle.std.proofs.Common.{take}
use Rattle.std.specs.List.{flat_map}
use Rattle.tigertopo_border.specs.Spelling.{records_text}
use Rattle.tigertopo_border.specs.Border.{records_of_chain}
use Rattle.tigertopo_border.proofs.border.print_chains.Given as goal

abbrev pub invariant-loop-number : goal.invariant-loop-number
invariant-loop-number g l =
    g.P.Page.adds l.initial.page l.page (records_text (flat_map (records_of_chain l.name) (take l.number l.map.chains)))
