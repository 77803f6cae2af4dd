use Rattle.std.proofs.Common.{string_bytes}
use Rattle.tigertopo_files.specs.World.{world}
use Rattle.tigertopo_program.specs.Borders.{IsBorderAnswerOf, Wanted}
use Rattle.tigertopo_program.proofs.ExportLemmas.ExportLemmas.{export_stopped}
use Rattle.tigertopo_program.proofs.BorderLemmas.BorderLemmas.{border_faulty}
use Rattle.tigertopo_program.proofs.border.border_of_map.Goals as goal

pub keep-requires-clause-sound : goal.keep-requires-clause-sound
keep-requires-clause-sound g c = rw c.in-Sound.is at c.in_ok-audit_map.ensures.sound

pub returns-in-Fault : goal.returns-in-Fault
returns-in-Fault g c =
    let wanted : Wanted = record { name = string_bytes c.args.made.now; cenid = c.args.cenid } in
    rw c.fault.ensures (border_faulty (g.F.FileSystem.under c.args.files.now) (g.F.FileSystem.log c.args.files.now) g.F.FileSystem.knows wanted c.args.faces c.args.map.now c.in-Fault.fault
    (rw c.in-Fault.is at c.in_ok-audit_map.ensures.fault))

pub returns-in_err-audit_map : goal.returns-in_err-audit_map
returns-in_err-audit_map g c =
    let w = world g.F.FileSystem.under g.F.FileSystem.log g.F.FileSystem.knows c.args.files.now c.args.files.now in
    let wanted : Wanted = record { name = string_bytes c.args.made.now; cenid = c.args.cenid } in
    export_stopped w.before w.log w.knows wanted.name (IsBorderAnswerOf w wanted c.args.faces c.args.map.now) c.in_err-audit_map.field-0.0 c.in_err-audit_map.ensures.stops
    c.from_residual.result c.from_residual.ensures.1
