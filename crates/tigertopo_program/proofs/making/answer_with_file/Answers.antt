use Rattle.std.proofs.Common.{Some, [], Ok, string_bytes, refl}
use Rattle.tigertopo_files.specs.Files.{StandsUnder}
use Rattle.tigertopo_files.specs.World.{world}
use Rattle.tigertopo_files.proofs.WorldLemmas.{does_make, does_fail, does_answer}
use Rattle.tigertopo_program.specs.Answers.{AnswersBeside}
use Rattle.tigertopo_program.specs.Records.{StopsNever}
use Rattle.tigertopo_program.proofs.making.answer_with_file.Goals as goal

pub returns-in_err-make_file : goal.returns-in_err-make_file
returns-in_err-make_file g c =
    let w = world g.F.FileSystem.under g.F.FileSystem.log g.F.FileSystem.knows c.args.files.now c.make_file.new.files in
    let name = string_bytes c.args.made.now in
    let text = g.T.Text.text c.args.text.now in
    does_fail w [] (Some name) (λ done. StandsUnder w.after name text) StopsNever c.in_err-make_file.field-0.0
    (does_make {T = Unit {0}} w.before w.after w.log w.logged w.knows name text StopsNever _ (rw c.as_str.ensures.value at c.in_err-make_file.ensures.made) c.in_err-make_file.ensures.logged)
    _ c.from_residual.result c.from_residual.ensures.1

pub returns : goal.returns
returns g c =
    let w = world g.F.FileSystem.under g.F.FileSystem.log g.F.FileSystem.knows c.args.files.now c.make_file.new.files in
    let name = string_bytes c.args.made.now in
    let text = g.T.Text.text c.args.text.now in
    let made = rw c.as_str.ensures.value at c.in_ok-make_file.ensures.made in
    does_answer w [] (Some name) (λ (done : Unit {0}). StandsUnder w.after name text) StopsNever tt
    (does_make {T = Unit {0}} w.before w.after w.log w.logged w.knows name text StopsNever (Ok tt) made c.in_ok-make_file.ensures.logged)
    (AnswersBeside w name text c.args.answer) c.args.answer (record { is = refl; kept = made.1 })
