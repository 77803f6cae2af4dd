use Rattle.std.proofs.Common.{sym, ap}
use Rattle.tl_cert_output.specs.Writing.{line_of}
use Rattle.tl_cert_output.proofs.PageLemmas.{both, as_text}
use Rattle.tl_check_verdict.specs.Messages.{map_fault_text}
use Rattle.tl_list_text.proofs.PrintLemmas.{lines-next}
use Rattle.tl_list_text.proofs.print.print_fault_lines.Goals as goal

pub loop-fault-preserved : goal.loop-fault-preserved
loop-fault-preserved g c =
    let page = g.met.P.Page.adding in
    as_text page (both page c.loop-fault.invariant (as_text page c.print_fault.ensures (ap (λ fault. line_of (map_fault_text fault)) c.fault-item.is)))
    (sym (lines-next map_fault_text c.args.list.now c.loop-fault.fault-index _ c.loop-fault-test.true))
