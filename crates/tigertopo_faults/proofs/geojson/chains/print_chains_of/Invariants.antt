use Rattle.std.proofs.Common.{take}
use Rattle.std.specs.List.{flat_map}
use Rattle.tigertopo_faults.specs.Geojson.Texts.{named_chain}
use Rattle.tigertopo_faults.proofs.geojson.chains.print_chains_of.Given as goal

abbrev pub invariant-loop-number : goal.invariant-loop-number
invariant-loop-number g l =
    g.P.Page.adds l.initial.page l.page
    (flat_map (named_chain l.map.polygons l.tlids) (take l.number l.map.chains))
