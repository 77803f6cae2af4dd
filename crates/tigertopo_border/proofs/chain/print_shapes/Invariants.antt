use Rattle.tigertopo_border.specs.Spelling.{records_text}
use Rattle.tigertopo_border.specs.Border.{inner, shapes_below}
use Rattle.tigertopo_border.proofs.chain.print_shapes.Given as goal

abbrev pub invariant-loop-number : goal.invariant-loop-number
invariant-loop-number g l =
    g.P.Page.adds l.initial.page l.page (records_text (shapes_below l.tlid (inner l.points) l.number))
