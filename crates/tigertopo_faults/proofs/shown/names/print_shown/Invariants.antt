use Rattle.std.proofs.Common.{drop}
use Rattle.tigertopo_words.specs.Names.{shown_between, shown_name, told_behind}
use Rattle.tigertopo_pictures.proofs.PieceLemmas.{PrintsUpTo}
use Rattle.tigertopo_faults.proofs.shown.names.print_shown.Given as goal

abbrev pub invariant-loop-at : goal.invariant-loop-at
invariant-loop-at g l =
    PrintsUpTo g.P.Page.adds l.initial.page l.page (shown_name l.bytes) (told_behind shown_between l.before (drop l.at l.bytes))
