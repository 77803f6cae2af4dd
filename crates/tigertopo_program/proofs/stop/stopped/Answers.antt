use Rattle.std.proofs.Common.{subst, rules}
use Rattle.tl_cert_output.specs.Writing.{line_of}
use Rattle.tl_cert_output.specs.Stops.{stop_text}
use Rattle.tl_cert_output.specs.Streams.{Tries, stream}
use Rattle.tl_cert_output.proofs.PrinterLemmas.{ends_text}
use Rattle.tigertopo_program.proofs.TellingLemmas.{tries_text}
use Rattle.tigertopo_program.proofs.stop.stopped.Goals as goal

pub returns-clause-told : goal.returns-clause-told
returns-clause-told g c =
    let text = line_of (stop_text c.args.stop.now) in
    let done = ends_text c.finish.result c.new-printer.ensures.empty c.print_whole.ensures.prints c.finish.ensures.prints c.finish.ensures.stop in
    subst (λ err. Tries (stream g.E.Sink.contents g.E.Sink.failure_count c.args.err.now err) text) (search rules)
    (tries_text g.E.Sink.contents g.E.Sink.failure_count c.args.err.now _ text c.finish.result done c.finish.ensures.stop)
