use Rattle.tl_cert_output.specs.Streams.{stream}
use Rattle.tigertopo_program.proofs.TellingLemmas.{text_stops}
use Rattle.tigertopo_program.proofs.telling.write_text.Goals as goal

pub returns-in-Err : goal.returns-in-Err
returns-in-Err g c =
    text_stops g.W.Sink.contents g.W.Sink.failure_count c.args.out.now c.print.new.out (stream g.E.Sink.contents g.E.Sink.failure_count c.args.err.now c.stopped.new.err) c.stopped.result c.args.status
    (g.T.Text.text c.args.text.now) c.in-Err.stop (rw c.in-Err.is at c.print.ensures) c.stopped.ensures.status c.stopped.ensures.told
