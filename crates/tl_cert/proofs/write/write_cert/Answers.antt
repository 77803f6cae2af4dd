use Rattle.std.proofs.Common.{Ok, Err, subst, rules}
use Rattle.tl_cert_output.specs.Writing.{Writes, WritesSome}
use Rattle.tl_cert_output.proofs.PrinterLemmas.{ends_text, some_text}
use Rattle.tl_cert.specs.Text.{certificate_text}
use Rattle.tl_cert.proofs.write.write_cert.Goals as goal

pub returns-in-Ok-clause-writes : goal.returns-in-Ok-clause-writes
returns-in-Ok-clause-writes g c =
    subst (λ out. Writes g.W.Sink.contents g.W.Sink.failure_count c.args.out.now out (certificate_text c.args.certificate.now)) (search rules)
    (ends_text {T = Unit {0}} (Ok tt) c.new-printer.ensures.empty c.print_whole.ensures.prints c.in-Ok.ensures.prints c.in-Ok.ensures.stop)

pub returns-in-Err-clause-writes : goal.returns-in-Err-clause-writes
returns-in-Err-clause-writes g c =
    subst (λ out. WritesSome g.W.Sink.contents g.W.Sink.failure_count c.args.out.now out (certificate_text c.args.certificate.now)) (search rules)
    (some_text (Unit {0}) c.in-Err.field-0 c.in-Err.ensures.stop
    (ends_text {T = Unit {0}} (Err c.in-Err.field-0) c.new-printer.ensures.empty c.print_whole.ensures.prints c.in-Err.ensures.prints c.in-Err.ensures.stop))
