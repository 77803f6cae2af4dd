use Rattle.std.proofs.Common.{map, string_bytes}
use Rattle.tigertopo_files.specs.World.{world}
use Rattle.tigertopo_program.specs.Exports.{IsExportedOf, asked_of}
use Rattle.tigertopo_program.proofs.ExportLemmas.ExportLemmas.{export_stopped}
use Rattle.tigertopo_program.proofs.export.county.export_map.Goals as goal

pub returns-in_err-walks : goal.returns-in_err-walks
returns-in_err-walks g c =
    let w = world g.F.FileSystem.under g.F.FileSystem.log g.F.FileSystem.knows c.args.files.now c.args.files.now in
    export_stopped w.before w.log w.knows (string_bytes c.args.made.now) (IsExportedOf w (asked_of (map string_bytes c.args.names.now) (string_bytes c.args.made.now) c.args.layer) c.args.map.now) c.in_err-walks.field-0.0 c.in_err-walks.ensures.stops c.from_residual.result c.from_residual.ensures.1
