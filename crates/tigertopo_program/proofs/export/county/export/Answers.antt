use Rattle.std.proofs.Common.{Some, map, string_bytes, sym, subst}
use Rattle.tl_record.specs.Layout.{layout_with}
use Rattle.tigertopo_files.specs.Files.{IsFree}
use Rattle.tigertopo_files.specs.World.{world}
use Rattle.tigertopo_files.specs.declared.beginning.FileKind.TheVariants.{Collection}
use Rattle.tigertopo_files.proofs.WorldLemmas.{does_stop}
use Rattle.tigertopo_program.specs.Answers.{IsReadMap, IsSaid}
use Rattle.tigertopo_files.specs.Reading.{text_under}
use Rattle.tigertopo_program.specs.Records.{StopsRecords}
use Rattle.tigertopo_program.specs.Exports.{ExportAnswers, asked_of}
use Rattle.tigertopo_program.proofs.ExportLemmas.ExportLemmas.{export_of_fault, export_of_read}
use Rattle.tigertopo_program.proofs.export.county.export.Goals as goal

pub returns-in_err-map : goal.returns-in_err-map
returns-in_err-map g c =
    let w = world g.F.FileSystem.under g.F.FileSystem.log g.F.FileSystem.knows c.args.files.now c.over_records.new.files in
    let layout = layout_with c.args.options in
    let known = text_under w.before (map string_bytes c.args.names.now) in
    does_stop w (map string_bytes c.args.names.now) (IsReadMap layout known) (StopsRecords layout known) (Some (string_bytes c.args.made.now)) (StopsRecords layout known) c.in_err-map.field-0.0
    c.in_err-map.ensures (λ s so. so) (IsSaid (ExportAnswers w layout known (asked_of (map string_bytes c.args.names.now) (string_bytes c.args.made.now) c.args.layer))) c.from_residual.result c.from_residual.ensures.1

pub export_map-requires : goal.export_map-requires
export_map-requires g c =
    subst (λ under. IsFree under (string_bytes c.args.made.now) (map string_bytes c.args.names.now) Collection) (sym c.in_ok-map.ensures.keeps) c.requires

pub returns-in-Ok : goal.returns-in-Ok
returns-in-Ok g c =
    let w = world g.F.FileSystem.under g.F.FileSystem.log g.F.FileSystem.knows c.args.files.now c.export_map.new.files in
    let known = text_under w.before (map string_bytes c.args.names.now) in
    export_of_read w.before (g.F.FileSystem.under c.over_records.new.files) w.after w.log (g.F.FileSystem.log c.over_records.new.files) w.logged w.knows (map string_bytes c.args.names.now) (asked_of (map string_bytes c.args.names.now) (string_bytes c.args.made.now) c.args.layer)
    (layout_with c.args.options) known c.in-Ok.map (rw c.in-Ok.is at c.in_ok-map.ensures) c.export_map.result c.export_map.ensures

pub returns-in-Err : goal.returns-in-Err
returns-in-Err g c =
    let w = world g.F.FileSystem.under g.F.FileSystem.log g.F.FileSystem.knows c.args.files.now c.over_records.new.files in
    let known = text_under w.before (map string_bytes c.args.names.now) in
    rw c.fault.ensures (export_of_fault w (map string_bytes c.args.names.now) (asked_of (map string_bytes c.args.names.now) (string_bytes c.args.made.now) c.args.layer) (layout_with c.args.options) known c.in-Err.fault (rw c.in-Err.is at c.in_ok-map.ensures))
