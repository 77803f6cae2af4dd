use Rattle.std.proofs.Common.{[], map, string_bytes, ap, sym, subst, ◌∙◌}
use Rattle.tigertopo_files.specs.World.{world}
use Rattle.tigertopo_files.proofs.WorldLemmas.{does_so}
use Rattle.tigertopo_program.specs.declared.answer.Exported.{Exported as Counts}
use Rattle.tigertopo_program.specs.declared.answer.Answer.TheVariants.{Exported}
use Rattle.tigertopo_program.specs.Records.{StopsNever}
use Rattle.tigertopo_program.specs.Exports.{IsExportedOf, asked_of}
use Rattle.tigertopo_program.proofs.ExportLemmas.ExportLemmas.{exported_whole}
use Rattle.tigertopo_program.proofs.export.county.export_sound.Goals as goal

pub returns : goal.returns
returns g c =
    let w = world g.F.FileSystem.under g.F.FileSystem.log g.F.FileSystem.knows c.args.files.now c.answer_with_file.new.files in
    let asked = asked_of (map string_bytes c.args.names.now) (string_bytes c.args.made.now) c.args.layer in
    let walks = map (λ w. w.items) c.args.walks.now in
    does_so w [] _ _ _ StopsNever StopsNever
    (λ told so. subst (IsExportedOf w asked c.args.map.now) (sym (so.is ∙ ap (λ (n : Counts). Exported n) c.counts-counts.ensures))
    (exported_whole w asked c.args.map.now walks c.rings.result c.requires.sound c.requires.walks (c.rings.ensures ∙ c.requires.shapes.counted) (rw c.first_name-file.ensures at so.kept)))
    (λ s never. never) _ c.answer_with_file.ensures
