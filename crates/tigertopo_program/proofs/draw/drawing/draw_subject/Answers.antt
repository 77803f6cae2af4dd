use Rattle.std.proofs.Common.{string_bytes}
use Rattle.tigertopo_files.specs.World.{world}
use Rattle.tl_cert_output.specs.declared.stop.Stop.TheVariants.{Memory}
use Rattle.tigertopo_program.specs.Draw.Drawing.{IsDrawnOf, Wanted}
use Rattle.tigertopo_program.proofs.ExportLemmas.ExportLemmas.{export_stopped}
use Rattle.tigertopo_program.proofs.draw.drawing.draw_subject.Goals as goal

pub returns-in_err-places : goal.returns-in_err-places
returns-in_err-places g c =
    let w = world g.F.FileSystem.under g.F.FileSystem.log g.F.FileSystem.knows c.args.files.now c.args.files.now in
    let wanted : Wanted = record { name = string_bytes c.args.made.now; view = c.args.view; shows = c.args.shows_faults } in
    export_stopped w.before w.log w.knows wanted.name (IsDrawnOf w wanted c.args.subject.now) Memory tt c.from_residual-in_err-places.result c.from_residual-in_err-places.ensures.1
