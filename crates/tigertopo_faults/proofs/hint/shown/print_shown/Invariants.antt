use Rattle.std.proofs.Common.{drop}
use Rattle.tigertopo_faults.specs.Hint.Shown.{shown_bytes}
use Rattle.tigertopo_pictures.proofs.PieceLemmas.{PrintsUpTo}
use Rattle.tigertopo_faults.proofs.hint.shown.print_shown.Given as goal

abbrev pub invariant-loop-byte : goal.invariant-loop-byte
invariant-loop-byte g l =
    PrintsUpTo g.P.Page.adds l.initial.page l.page (shown_bytes l.bytes) (shown_bytes (drop l.byte-index l.bytes))
