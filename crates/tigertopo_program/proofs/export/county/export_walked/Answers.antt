use Rattle.std.proofs.Common.{Err, refl, map, string_bytes}
use Rattle.tl_cert_output.specs.declared.stop.Stop.TheVariants.{Memory}
use Rattle.tigertopo_files.specs.World.{world}
use Rattle.tigertopo_program.specs.Exports.{IsExportedOf, asked_of}
use Rattle.tigertopo_program.proofs.ExportLemmas.ExportLemmas.{export_stopped}
use Rattle.tigertopo_program.proofs.export.county.export_walked.Goals as goal

pub returns-in-Err : goal.returns-in-Err
returns-in-Err g c =
    let w = world g.F.FileSystem.under g.F.FileSystem.log g.F.FileSystem.knows c.args.files.now c.args.files.now in
    export_stopped w.before w.log w.knows (string_bytes c.args.made.now) (IsExportedOf w (asked_of (map string_bytes c.args.names.now) (string_bytes c.args.made.now) c.args.layer) c.args.map.now) Memory tt (Err Memory) refl
