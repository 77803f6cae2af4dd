use Rattle.std.proofs.Common.{take}
use Rattle.tl_check_verdict.specs.Messages.{map_fault_text}
use Rattle.tl_list_text.specs.Texts.{lines}
use Rattle.tl_list_text.proofs.print.print_fault_lines.Given as goal

abbrev pub invariant-loop-fault : goal.invariant-loop-fault
invariant-loop-fault g l =
    g.P.Page.adds l.initial.page l.page (lines map_fault_text (take l.fault-index l.list))
