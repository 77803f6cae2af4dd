use Rattle.tigertopo_program.proofs.TellingLemmas.{tries}
use Rattle.tigertopo_program.proofs.stop.try_to_write.Goals as goal

pub returns : goal.returns
returns g c = tries g.E.Sink.contents g.E.Sink.failure_count c.args.err.now c.write_all.new.out c.args.text.now c.write_all.result c.write_all.ensures.passes c.write_all.ensures.failures
