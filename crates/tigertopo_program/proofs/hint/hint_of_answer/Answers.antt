use Rattle.std.proofs.Common.{◌≡◌, ◌∙◌, ℕ, List, true, false, Result, Ok, Err, OnOk, OnErr, IfErr, refl, sym, map, string_bytes}
use Rattle.tl_cert_output.specs.declared.stop.Stop.{Stop}
use Rattle.tl_cert_output.specs.Stops.{StopsFor}
use Rattle.tl_cert_output.specs.Streams.{Tries, stream}
use Rattle.tigertopo_files.specs.World.{world}
use Rattle.tigertopo_words.specs.declared.asked.Command.{Command}
use Rattle.tigertopo_faults.specs.Hint.Again.{FailsAgain}
use Rattle.tigertopo_faults.specs.Hint.Telling.{TellsUnread}
use Rattle.tigertopo_program.specs.Hinting.{Behind, behind, SaysBehindStatus, asker_of, is_answer, record_names}
use Rattle.tigertopo_program.proofs.hint.hint_of_answer.Goals as goal

-- what was said behind an answer
said_of : (b : Behind) (words : List (List ℕ)) (command : Command) (status : ℕ) (result : Result (Unit {0}) Stop) → is_answer status ≡ true
    → OnOk result (b.files.knows ≡ true → TellsUnread (asker_of words command) b.files.before (record_names command) (Tries b.err)) → OnErr result b.err.same
    → IfErr result (StopsFor (FailsAgain b.files (record_names command))) → SaysBehindStatus b words command status result
said_of b words command status (Ok done) is told silent stops = rw is told
said_of b words command status (Err why) is told silent stops = (silent, stops)

pub returns-then-is_answer : goal.returns-then-is_answer
returns-then-is_answer g c =
    let w = world g.F.FileSystem.under g.F.FileSystem.log g.F.FileSystem.knows c.args.files.now c.say_unread.new.files in
    let b = behind w (stream g.E.Sink.contents g.E.Sink.failure_count c.args.err.now c.say_unread.new.err) in record {
      said = said_of b (map string_bytes c.args.words.now) c.args.command.now c.args.status c.say_unread.result (sym c.is_answer.ensures ∙ c.if-is_answer.true)
          (rw c.as_slice.ensures.value at c.say_unread.ensures.hint) c.say_unread.ensures.silent (rw c.as_slice.ensures.value at c.say_unread.ensures.stops);
      stays = c.say_unread.ensures.stays;
      logged = c.say_unread.ensures.logged;
    }

pub returns : goal.returns
returns g c =
    let none : is_answer c.args.status ≡ false = sym c.is_answer.ensures ∙ c.if-is_answer.false in
    record { said = rw none refl; stays = refl; logged = λ known. refl }
