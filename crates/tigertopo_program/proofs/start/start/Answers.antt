use Rattle.std.proofs.Common.{inl, inr, refl}
use Rattle.tigertopo_program.proofs.start.start.Goals as goal

pub returns-in-Ok : goal.returns-in-Ok
returns-in-Ok g c = (c.run.ensures.0, c.run.ensures.1, inl (c.in-Ok.command, c.in-Ok.ensures.asked, c.run.ensures.2))

pub returns-in-Err : goal.returns-in-Err
returns-in-Err g c = (
  c.args.files.now,
  c.say_stop.new.err,
  inr (
    record { stop = c.in-Err.stop; so = c.in-Err.ensures.stops; no_escape = c.in-Err.ensures.texts; told = c.say_stop.ensures; untouched = record { stays = refl; logged = λ known. refl } },
    record { same = refl; untouched = record { stays = refl; logged = λ known. refl } },
  ),
)
