use Rattle.std.proofs.Common.{drop, map, string_bytes}
use Rattle.tigertopo_faults.specs.Hint.Advice.{asking}
use Rattle.tigertopo_faults.specs.Hint.Unread.{files_text}
use Rattle.tigertopo_pictures.proofs.PieceLemmas.{PrintsUpTo}
use Rattle.tigertopo_faults.proofs.hint.unread.print_files.Given as goal

abbrev pub invariant-loop-at : goal.invariant-loop-at
invariant-loop-at g l =
    PrintsUpTo g.P.Page.adds l.initial.page l.page (files_text (asking l.by) 0 (map string_bytes l.names) l.held) (files_text (asking l.by) l.at (map string_bytes (drop l.at l.names)) (drop l.at l.held))
