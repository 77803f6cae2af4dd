use Rattle.std.proofs.Common.{map, string_bytes}
use Rattle.std.specs.Prelude.{option_copied}
use Rattle.tigertopo_pictures.specs.Geojson.Features.{features_below}
use Rattle.tigertopo_faults.specs.Records.SpokenOf.{chains_of}
use Rattle.tigertopo_faults.specs.Records.Keeping.{held}
use Rattle.tigertopo_faults.specs.Geojson.Texts.{fault_feature}
use Rattle.tigertopo_faults.proofs.geojson.fault.print_features.Given as goal

abbrev pub invariant-loop-number : goal.invariant-loop-number
invariant-loop-number g l =
    g.P.Page.adds l.initial.page l.page
    (features_below 0 (fault_feature (map string_bytes l.names) l.counts (chains_of (option_copied l.drawn)) (held l.lines) l.places l.faults) l.number)
