use Rattle.std.proofs.Common.{[], inl, string_bytes}
use Rattle.tigertopo_files.specs.World.{world}
use Rattle.tigertopo_files.proofs.WorldLemmas.{does_so}
use Rattle.tigertopo_program.specs.Records.{StopsNever}
use Rattle.tigertopo_program.proofs.DecideLemmas.BuildLemmas.{is_built}
use Rattle.tigertopo_program.proofs.decide.building.keep.Goals as goal

pub returns : goal.returns
returns g c =
    let w = world g.F.FileSystem.under g.F.FileSystem.log g.F.FileSystem.knows c.args.files.now c.answer_with_file.new.files in
    does_so w [] _ _ _ StopsNever StopsNever
    (λ told so. inl (
      c.report-report.result,
      is_built w (string_bytes c.args.made.now) c.args.faces c.args.map.now c.args.certificate.now c.report-report.result c.look_at_certificate.ensures c.requires.sound c.requires.valid c.requires.version
          (rw c.rings_of.ensures at c.report-report.ensures) so.kept,
      so.is,
    ))
    (λ s never. never) _ c.answer_with_file.ensures
