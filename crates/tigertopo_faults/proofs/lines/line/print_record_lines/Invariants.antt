use Rattle.std.proofs.Common.{drop, map, string_bytes}
use Rattle.tigertopo_faults.specs.Lines.Texts.{record_lines_text}
use Rattle.tigertopo_pictures.proofs.PieceLemmas.{PrintsUpTo}
use Rattle.tigertopo_faults.proofs.lines.line.print_record_lines.Given as goal

abbrev pub invariant-loop-line : goal.invariant-loop-line
invariant-loop-line g l =
    PrintsUpTo g.P.Page.adds l.initial.page l.page (record_lines_text (map string_bytes l.names) l.counts l.at l.lines)
    (record_lines_text (map string_bytes l.names) l.counts l.at (drop l.line-index l.lines))
