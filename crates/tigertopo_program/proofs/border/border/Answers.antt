use Rattle.std.proofs.Common.{Some, map, string_bytes, sym, subst}
use Rattle.tl_record.specs.Layout.{layout_with}
use Rattle.tigertopo_files.specs.Files.{IsFree}
use Rattle.tigertopo_files.specs.World.{world}
use Rattle.tigertopo_files.specs.declared.beginning.FileKind.TheVariants.{Records}
use Rattle.tigertopo_files.proofs.WorldLemmas.{does_stop}
use Rattle.tigertopo_program.specs.Answers.{IsReadMap, IsSaid}
use Rattle.tigertopo_files.specs.Reading.{text_under}
use Rattle.tigertopo_program.specs.Records.{StopsRecords}
use Rattle.tigertopo_program.specs.Borders.{BorderAnswers, Wanted}
use Rattle.tigertopo_program.proofs.BorderLemmas.BorderLemmas.{border_of_fault, border_of_read}
use Rattle.tigertopo_program.proofs.border.border.Goals as goal

pub returns-in_err-map : goal.returns-in_err-map
returns-in_err-map g c =
    let w = world g.F.FileSystem.under g.F.FileSystem.log g.F.FileSystem.knows c.args.files.now c.over_records.new.files in
    let layout = layout_with c.args.options in
    let known = text_under w.before (map string_bytes c.args.names.now) in
    let wanted : Wanted = record { name = string_bytes c.args.made.now; cenid = c.args.cenid } in
    does_stop w (map string_bytes c.args.names.now) (IsReadMap layout known) (StopsRecords layout known) (Some wanted.name) (StopsRecords layout known) c.in_err-map.field-0.0
    c.in_err-map.ensures (λ s so. so) (IsSaid (BorderAnswers w c.args.options known wanted)) c.from_residual.result c.from_residual.ensures.1

pub border_of_map-requires : goal.border_of_map-requires
border_of_map-requires g c =
    subst (λ under. IsFree under (string_bytes c.args.made.now) (map string_bytes c.args.names.now) Records) (sym c.in_ok-map.ensures.keeps) c.requires

pub returns-in-Ok : goal.returns-in-Ok
returns-in-Ok g c =
    let w = world g.F.FileSystem.under g.F.FileSystem.log g.F.FileSystem.knows c.args.files.now c.border_of_map.new.files in
    let known = text_under w.before (map string_bytes c.args.names.now) in
    let wanted : Wanted = record { name = string_bytes c.args.made.now; cenid = c.args.cenid } in
    border_of_read w.before (g.F.FileSystem.under c.over_records.new.files) w.after w.log (g.F.FileSystem.log c.over_records.new.files) w.logged w.knows (map string_bytes c.args.names.now) wanted
    c.args.options known c.in-Ok.map (rw c.in-Ok.is at c.in_ok-map.ensures) c.border_of_map.result c.border_of_map.ensures

pub returns-in-Err : goal.returns-in-Err
returns-in-Err g c =
    let w = world g.F.FileSystem.under g.F.FileSystem.log g.F.FileSystem.knows c.args.files.now c.over_records.new.files in
    let known = text_under w.before (map string_bytes c.args.names.now) in
    let wanted : Wanted = record { name = string_bytes c.args.made.now; cenid = c.args.cenid } in
    rw c.fault.ensures (border_of_fault w (map string_bytes c.args.names.now) wanted c.args.options known c.in-Err.fault (rw c.in-Err.is at c.in_ok-map.ensures))
