use Rattle.std.proofs.Common.{take}
use Rattle.tigertopo_program.specs.Print.Printing.{polygons_text}
use Rattle.tigertopo_program.proofs.print.landmarks.print_polygons.Given as goal

abbrev pub invariant-loop-number : goal.invariant-loop-number
invariant-loop-number g l =
    g.P.Page.adds l.initial.page l.page (polygons_text l.map.polygons (take l.number-index l.numbers))
