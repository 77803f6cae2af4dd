use Rattle.std.proofs.Common.{sym}
use Rattle.tl_cert_output.proofs.PageLemmas.{both, as_text}
use Rattle.tl_list_text.specs.Texts.{told_refusal}
use Rattle.tl_list_text.proofs.PrintLemmas.{lines-next}
use Rattle.tl_list_text.proofs.print.print_refusal_lines.Goals as goal

pub loop-refusal-preserved : goal.loop-refusal-preserved
loop-refusal-preserved g c =
    let page = g.met.P.Page.adding in
    as_text page (both page c.loop-refusal.invariant c.print_refusal.ensures)
    (sym (lines-next told_refusal c.args.list.now c.loop-refusal.refusal-index _ c.loop-refusal-test.true))
