use Rattle.std.proofs.Common.{drop, map, string_bytes}
use Rattle.std.specs.Prelude.{option_copied}
use Rattle.tigertopo_faults.specs.Records.SpokenOf.{chains_of}
use Rattle.tigertopo_faults.specs.Records.Keeping.{held}
use Rattle.tigertopo_faults.specs.Lines.Texts.{placed_faults_text}
use Rattle.tigertopo_pictures.proofs.PieceLemmas.{PrintsUpTo}
use Rattle.tigertopo_faults.proofs.lines.text.print_faults.Given as goal

abbrev pub invariant-loop-number : goal.invariant-loop-number
invariant-loop-number g l =
    PrintsUpTo g.P.Page.adds l.initial.page l.page
    (placed_faults_text (map string_bytes l.names) l.counts (chains_of (option_copied l.drawn)) (held l.lines) l.places 0 l.faults)
    (placed_faults_text (map string_bytes l.names) l.counts (chains_of (option_copied l.drawn)) (held l.lines) l.places l.number (drop l.number l.faults))
