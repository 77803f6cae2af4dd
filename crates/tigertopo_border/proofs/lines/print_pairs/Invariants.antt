use Rattle.std.specs.List.{flat_map}
use Rattle.tigertopo_border.specs.Spelling.{pair_fields}
use Rattle.tigertopo_border.specs.Border.{inner, pairs_from}
use Rattle.tigertopo_border.proofs.lines.print_pairs.Given as goal

abbrev pub invariant-loop-place : goal.invariant-loop-place
invariant-loop-place g l =
    g.P.Page.adds l.initial.page l.page (flat_map pair_fields (pairs_from (inner l.points) l.first l.place))
