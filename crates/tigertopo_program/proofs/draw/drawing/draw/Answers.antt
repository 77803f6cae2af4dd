use Rattle.std.proofs.Common.{Some, map, string_bytes}
use Rattle.tl_record.specs.Layout.{layout_with}
use Rattle.tigertopo_files.specs.World.{world}
use Rattle.tigertopo_files.proofs.WorldLemmas.{does_then}
use Rattle.tigertopo_files.specs.Reading.{text_under}
use Rattle.tigertopo_program.specs.Answers.{IsSaid}
use Rattle.tigertopo_program.specs.Records.{StopsNever, StopsRecords}
use Rattle.tigertopo_program.specs.Draw.Drawing.{DrawAnswers, IsDrawnOf, Wanted}
use Rattle.tigertopo_program.specs.Draw.Subjects.{IsSubjectOf}
use Rattle.tigertopo_program.proofs.DrawLemmas.DrawLemmas.{says_drawn}
use Rattle.tigertopo_program.proofs.draw.drawing.draw.Goals as goal

pub returns-in-Ok : goal.returns-in-Ok
returns-in-Ok g c =
    let w = world g.F.FileSystem.under g.F.FileSystem.log g.F.FileSystem.knows c.args.files.now c.draw_subject.new.files in
    let mid = world g.F.FileSystem.under g.F.FileSystem.log g.F.FileSystem.knows c.over_records.new.files c.draw_subject.new.files in
    let names = map string_bytes c.args.names.now in
    let known = text_under w.before names in
    let wanted : Wanted = record { name = string_bytes c.args.made.now; view = c.args.view; shows = c.args.shows_faults } in
    does_then w.before mid.before w.after w.log mid.log w.logged w.knows names (Some wanted.name) (IsSubjectOf c.args.options known wanted.shows) (StopsRecords (layout_with c.args.options) known) _
    c.in_ok-subject.ensures (IsDrawnOf mid wanted c.in-Ok.subject) (IsSaid (DrawAnswers w c.args.options known wanted)) StopsNever _ c.draw_subject.ensures
    (λ answer drawn. says_drawn w c.args.options known wanted c.in-Ok.subject (rw c.in-Ok.is at c.in_ok-subject.ensures.answered).0 answer drawn.filling drawn.filled drawn.kept drawn.is)
    (λ s never. absurd never)

pub draw_subject-requires-clause-known : goal.draw_subject-requires-clause-known
draw_subject-requires-clause-known g c = (rw c.in-Ok.is at c.in_ok-subject.ensures.answered).1
