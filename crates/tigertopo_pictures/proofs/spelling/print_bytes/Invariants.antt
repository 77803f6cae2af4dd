use Rattle.std.proofs.Common.{drop}
use Rattle.std.specs.Prelude.{flat_map}
use Rattle.tigertopo_pictures.proofs.PieceLemmas.{PrintsUpTo}
use Rattle.tigertopo_pictures.proofs.spelling.print_bytes.Given as goal

abbrev pub invariant-loop-byte : goal.invariant-loop-byte
invariant-loop-byte g l =
    PrintsUpTo g.P.Page.adds l.initial.page l.page (flat_map g.E.Spelling.spelt l.bytes) (flat_map g.E.Spelling.spelt (drop l.byte-index l.bytes))
