use Rattle.std.proofs.Common.{◌-◌}
use Rattle.tigertopo_faults.specs.Places.Degrees.{digits_below}
use Rattle.tigertopo_pictures.proofs.PieceLemmas.{PrintsUpTo}
use Rattle.tigertopo_faults.proofs.places.degrees.print_digits.Given as goal

abbrev pub invariant-loop-done : goal.invariant-loop-done
invariant-loop-done g l =
    PrintsUpTo g.P.Page.adds l.initial.page l.page (digits_below l.places l.number) (digits_below (l.places - l.done) l.number)
