use Rattle.std.proofs.Common.{take}
use Rattle.tl_list_text.specs.Texts.{told_refusal, lines}
use Rattle.tl_list_text.proofs.print.print_refusal_lines.Given as goal

abbrev pub invariant-loop-refusal : goal.invariant-loop-refusal
invariant-loop-refusal g l =
    g.P.Page.adds l.initial.page l.page (lines told_refusal (take l.refusal-index l.list))
