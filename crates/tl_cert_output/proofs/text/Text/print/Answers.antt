use Rattle.std.proofs.Common.{subst, rules}
use Rattle.tl_cert_output.specs.Texts.{PrintsText}
use Rattle.tl_cert_output.proofs.PrinterLemmas.{ends_text}
use Rattle.tl_cert_output.proofs.text.Text.print.Goals as goal

pub returns : goal.returns
returns g c =
    let text = g.Self.Text.text c.args.self.now in
    let done = ends_text c.finish.result c.new-printer.ensures.empty c.in_ok-add_text.ensures.prints c.finish.ensures.prints c.finish.ensures.stop in
    subst (λ out. PrintsText g.S.Sink.contents g.S.Sink.failure_count c.args.out.now out text c.finish.result) (search rules) done
