use Rattle.std.proofs.Common.{take, map, string_bytes}
use Rattle.std.specs.List.{flat_map}
use Rattle.tigertopo_faults.specs.Geojson.Records.{record_text}
use Rattle.tigertopo_faults.proofs.GeojsonLemmas.ListLemmas.{behind_comma}
use Rattle.tigertopo_faults.proofs.geojson.record.print_more.Given as goal

abbrev pub invariant-loop-line : goal.invariant-loop-line
invariant-loop-line g l =
    g.P.Page.adds l.initial.page l.page
    (flat_map (behind_comma (record_text (map string_bytes l.names) l.counts)) (take l.line-index l.lines))
