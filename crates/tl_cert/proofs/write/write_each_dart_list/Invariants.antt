use Rattle.std.proofs.Common.{◌∷◌, [], take}
use Rattle.tl_cert.proofs.WriteLemmas.{lists_text}
use Rattle.tl_cert.proofs.write.write_each_dart_list.Given as goal

abbrev pub invariant-loop-darts : goal.invariant-loop-darts
invariant-loop-darts g l =
    g.P.Page.adds l.initial.page l.page (lists_text (l.letter ∷ []) (take l.darts-index l.lists))
