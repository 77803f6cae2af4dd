use Rattle.std.proofs.Common.{take}
use Rattle.tigertopo_program.specs.Print.Places.{lands_text}
use Rattle.tigertopo_program.proofs.print.places.print_lands.Given as goal

abbrev pub invariant-loop-number : goal.invariant-loop-number
invariant-loop-number g l =
    g.P.Page.adds l.initial.page l.page (lands_text l.map.landmarks (take l.number-index l.numbers))
