use Rattle.std.proofs.Common.{drop}
use Rattle.tigertopo_pictures.proofs.PieceLemmas.{PrintsUpTo}
use Rattle.tigertopo_pictures.specs.Svg.Texts.{faults_part}
use Rattle.tigertopo_pictures.proofs.svg.marks.print_faults.Given as goal

abbrev pub invariant-loop-number : goal.invariant-loop-number
invariant-loop-number g l =
    PrintsUpTo g.P.Page.adds l.initial.page l.page
    (faults_part l.frame l.faults l.places) (faults_part l.frame (drop l.number l.faults) (drop l.number l.places))
