use Rattle.tigertopo_program.proofs.run.tell_and_hint.Goals as goal

pub returns : goal.returns
returns g c = (c.tell-status.new.err, c.tell-status.ensures, (c.hint.result, c.hint.ensures))
