use Rattle.std.proofs.Common.{drop, map, string_bytes}
use Rattle.tigertopo_faults.specs.Hint.Advice.{words_instead}
use Rattle.tigertopo_pictures.proofs.PieceLemmas.{PrintsUpTo}
use Rattle.tigertopo_faults.proofs.hint.advice.print_rest.Given as goal

abbrev pub invariant-loop-word : goal.invariant-loop-word
invariant-loop-word g l =
    PrintsUpTo g.P.Page.adds l.initial.page l.page (words_instead l.name (map string_bytes l.words)) (words_instead l.name (map string_bytes (drop l.word-index l.words)))
