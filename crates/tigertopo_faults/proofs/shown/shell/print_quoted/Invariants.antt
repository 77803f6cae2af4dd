use Rattle.std.proofs.Common.{drop}
use Rattle.tigertopo_words.specs.Names.{told_behind}
use Rattle.tigertopo_words.specs.Shell.{quoted_byte}
use Rattle.tigertopo_pictures.proofs.PieceLemmas.{PrintsUpTo}
use Rattle.tigertopo_faults.proofs.shown.shell.print_quoted.Given as goal

abbrev pub invariant-loop-at : goal.invariant-loop-at
invariant-loop-at g l =
    PrintsUpTo g.P.Page.adds l.initial.page l.page (told_behind quoted_byte 0 l.bytes) (told_behind quoted_byte l.before (drop l.at l.bytes))
