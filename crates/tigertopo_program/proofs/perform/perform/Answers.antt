use Rattle.tigertopo_files.specs.World.{world}
use Rattle.tigertopo_words.specs.declared.asked.Asked.TheVariants.{Show, Landmarks, Locate, Audit, Build, Check, Convert, Export, Draw, Border}
use Rattle.tigertopo_program.proofs.CommandLemmas.{by_asked}
use Rattle.tigertopo_program.proofs.perform.perform.Goals as goal

pub returns-in-Show : goal.returns-in-Show
returns-in-Show g c =
    by_asked c.args.command.now Show c.in-Show.is (world g.F.FileSystem.under g.F.FileSystem.log g.F.FileSystem.knows c.args.files.now c.show.new.files) c.show.result
    (rw c.as_slice-names.ensures.value at c.show.ensures)

pub returns-in-Landmarks : goal.returns-in-Landmarks
returns-in-Landmarks g c =
    by_asked c.args.command.now Landmarks c.in-Landmarks.is (world g.F.FileSystem.under g.F.FileSystem.log g.F.FileSystem.knows c.args.files.now c.landmarks.new.files) c.landmarks.result
    (rw c.as_slice-names.ensures.value at c.landmarks.ensures)

pub returns-in-Locate : goal.returns-in-Locate
returns-in-Locate g c =
    by_asked c.args.command.now (Locate c.in-Locate.point) c.in-Locate.is (world g.F.FileSystem.under g.F.FileSystem.log g.F.FileSystem.knows c.args.files.now c.locate.new.files) c.locate.result
    (rw c.as_slice-names.ensures.value at c.locate.ensures)

pub returns-in-Audit : goal.returns-in-Audit
returns-in-Audit g c =
    by_asked c.args.command.now (Audit c.in-Audit.told c.in-Audit.form c.in-Audit.made) c.in-Audit.is (world g.F.FileSystem.under g.F.FileSystem.log g.F.FileSystem.knows c.args.files.now c.audit_or_list.new.files) c.audit_or_list.result
    (rw c.as_slice-names.ensures.value at c.audit_or_list.ensures)

pub returns-in-Build : goal.returns-in-Build
returns-in-Build g c =
    by_asked c.args.command.now (Build c.in-Build.made) c.in-Build.is (world g.F.FileSystem.under g.F.FileSystem.log g.F.FileSystem.knows c.args.files.now c.build.new.files) c.build.result
    (rw c.as_slice-names.ensures.value at c.build.ensures)

pub returns-in-Check : goal.returns-in-Check
returns-in-Check g c =
    by_asked c.args.command.now (Check c.in-Check.cert c.in-Check.budget) c.in-Check.is (world g.F.FileSystem.under g.F.FileSystem.log g.F.FileSystem.knows c.args.files.now c.check.new.files) c.check.result
    (rw c.as_slice-names.ensures.value at c.check.ensures)

pub returns-in-Export : goal.returns-in-Export
returns-in-Export g c =
    by_asked c.args.command.now (Export c.in-Export.made c.in-Export.layer) c.in-Export.is (world g.F.FileSystem.under g.F.FileSystem.log g.F.FileSystem.knows c.args.files.now c.export.new.files) c.export.result
    (rw c.as_slice-names.ensures.value at c.export.ensures)

pub returns-in-Draw : goal.returns-in-Draw
returns-in-Draw g c =
    by_asked c.args.command.now (Draw c.in-Draw.made c.in-Draw.view c.in-Draw.faults) c.in-Draw.is (world g.F.FileSystem.under g.F.FileSystem.log g.F.FileSystem.knows c.args.files.now c.draw.new.files) c.draw.result
    (rw c.as_slice-names.ensures.value at c.draw.ensures)

pub returns-in-Border : goal.returns-in-Border
returns-in-Border g c =
    by_asked c.args.command.now (Border c.in-Border.name c.in-Border.made) c.in-Border.is (world g.F.FileSystem.under g.F.FileSystem.log g.F.FileSystem.knows c.args.files.now c.border.new.files) c.border.result
    (rw c.as_slice-names.ensures.value at c.border.ensures)

pub returns-in-Convert : goal.returns-in-Convert
returns-in-Convert g c =
    by_asked c.args.command.now (Convert c.in-Convert.cert c.in-Convert.made) c.in-Convert.is (world g.F.FileSystem.under g.F.FileSystem.log g.F.FileSystem.knows c.args.files.now c.convert.new.files) c.convert.result c.convert.ensures
