use Rattle.std.proofs.Common.{◌≡◌, inl, inr, true, Err, map, string_bytes, refl}
use Rattle.tl_cert_output.specs.declared.stop.Stop.TheVariants.{Memory}
use Rattle.tigertopo_words.specs.Asked.{made_of}
use Rattle.tigertopo_files.specs.World.{world}
use Rattle.tigertopo_program.specs.Commands.{inputs_of, kind_of}
use Rattle.tigertopo_program.specs.Running.{watched}
use Rattle.tigertopo_program.proofs.CommandLemmas.{may_make, on_err, on_ok, refused_name}
use Rattle.tigertopo_program.proofs.run.run.Goals as goal

pub returns-then-is_err : goal.returns-then-is_err
returns-then-is_err g c = (
  c.watch.new.files,
  c.tell_and_hint.ensures.0,
  inl (record {
    answer = Err Memory;
    answered = inl (record { stop = Memory; is = refl; may = tt; untouched = record { stays = c.watch.ensures.stays; logged = λ known. on_err (g.F.FileSystem.log c.watch.new.files ≡ g.F.FileSystem.log c.args.files.now) c.watch.result _ c.is_err.ensures.value c.if-is_err.true c.watch.ensures.unwatched } });
    aside = c.is_aside-aside.result;
    told = c.tell_and_hint.ensures.1;
    unknown = c.is_aside-aside.ensures;
    hinted = c.tell_and_hint.ensures.2;
  }),
)

pub returns-in-Free : goal.returns-in-Free
returns-in-Free g c =
    let mid = world g.F.FileSystem.under g.F.FileSystem.log g.F.FileSystem.knows c.watch.new.files c.perform-answer.new.files in
    let log = on_ok (g.F.FileSystem.knows ≡ true → g.F.FileSystem.log c.watch.new.files ≡ watched c.args.command.now (g.F.FileSystem.log c.args.files.now)) c.watch.result _ c.is_err.ensures.value c.if-is_err.false c.watch.ensures.watched in (
      c.perform-answer.new.files,
      c.tell_and_hint-in-Free.ensures.0,
      inl (record {
        answer = c.perform-answer.result;
        answered = inr (mid, record { before = c.watch.ensures.stays; after = refl; logged = refl; knows = refl; log = log }, inr (record { does = c.perform-answer.ensures; free = may_make c.args.command.now.asked (map string_bytes c.args.command.now.files.items) (g.F.FileSystem.under c.watch.new.files) (rw c.in-Free.is at c.in-Ok.ensures.room) }));
        aside = c.is_aside-aside.result;
        told = c.tell_and_hint-in-Free.ensures.1;
        unknown = c.is_aside-aside.ensures;
        hinted = c.tell_and_hint-in-Free.ensures.2;
      }),
    )

pub returns-in_default : goal.returns-in_default
returns-in_default g c =
    let mid = world g.F.FileSystem.under g.F.FileSystem.log g.F.FileSystem.knows c.watch.new.files c.watch.new.files in
    let log = on_ok (g.F.FileSystem.knows ≡ true → g.F.FileSystem.log c.watch.new.files ≡ watched c.args.command.now (g.F.FileSystem.log c.args.files.now)) c.watch.result _ c.is_err.ensures.value c.if-is_err.false c.watch.ensures.watched in
    let refused = refused_name (g.F.FileSystem.under c.watch.new.files) (made_of c.args.command.now.asked) (inputs_of c.args.command.now) (kind_of c.args.command.now.asked) c.in-Ok.room c.in_default.not-Free c.in-Ok.ensures.room in (
      c.watch.new.files,
      c.say_refusal.new.err,
      inr (
        mid,
        record { before = c.watch.ensures.stays; after = refl; logged = refl; knows = refl; log = log },
        record {
          name = refused.0;
          made = refused.1;
          refuses = record { room = c.in-Ok.room; taken = c.in_default.not-Free; so = refused.2; is = c.say_refusal.ensures.status; told = rw c.kind_of.ensures at c.say_refusal.ensures.said; same = refl };
          untouched = record { stays = refl; logged = λ known. refl };
        },
        record { same = refl; untouched = record { stays = refl; logged = λ known. refl } },
      ),
    )

pub returns-in-Err : goal.returns-in-Err
returns-in-Err g c =
    let mid = world g.F.FileSystem.under g.F.FileSystem.log g.F.FileSystem.knows c.watch.new.files c.watch.new.files in
    let log = on_ok (g.F.FileSystem.knows ≡ true → g.F.FileSystem.log c.watch.new.files ≡ watched c.args.command.now (g.F.FileSystem.log c.args.files.now)) c.watch.result _ c.is_err.ensures.value c.if-is_err.false c.watch.ensures.watched in (
      c.watch.new.files,
      c.tell_and_hint-in-Err.ensures.0,
      inl (record {
        answer = Err c.in-Err.stop;
        answered = inr (
          mid,
          record { before = c.watch.ensures.stays; after = refl; logged = refl; knows = refl; log = log },
          inl (record { stop = c.in-Err.stop; is = refl; may = c.in-Err.ensures.stops; untouched = record { stays = refl; logged = λ known. refl } }),
        );
        aside = c.is_aside-aside.result;
        told = c.tell_and_hint-in-Err.ensures.1;
        unknown = c.is_aside-aside.ensures;
        hinted = c.tell_and_hint-in-Err.ensures.2;
      }),
    )
