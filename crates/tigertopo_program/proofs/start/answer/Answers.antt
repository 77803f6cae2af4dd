use Rattle.std.proofs.Common.{inl, inr, refl}
use Rattle.tigertopo_program.proofs.start.answer.Goals as goal

pub returns-in-Err : goal.returns-in-Err
returns-in-Err g c = (
  c.args.files.now,
  c.say_stop.new.err,
  rw c.in-Err.is (c.say_stop.ensures, record { stays = refl; logged = λ known. refl }, record { same = refl; untouched = record { stays = refl; logged = λ known. refl } }),
)

pub returns-in_default : goal.returns-in_default
returns-in_default g c = (
  c.args.files.now,
  c.stopped.new.err,
  rw c.in-Ok.is (inr (
    (c.stopped.ensures.status, c.stopped.ensures.told, refl),
    record { stays = refl; logged = λ known. refl },
    record { same = refl; untouched = record { stays = refl; logged = λ known. refl } },
  )),
)

pub returns : goal.returns
returns g c = let starts = rw c.as_slice.ensures.value at c.start.ensures in (starts.0, starts.1, rw c.in-Ok.is (inl starts.2))
