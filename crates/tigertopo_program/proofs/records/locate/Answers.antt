use Rattle.std.proofs.Common.{inl, None, Ok, map, string_bytes, refl}
use Rattle.tl_record.specs.Layout.{layout_with}
use Rattle.tigertopo_files.specs.World.{world}
use Rattle.tigertopo_files.proofs.WorldLemmas.{does_read, does_run_out}
use Rattle.tigertopo_program.specs.Answers.{IsReadMap, IsSaid, LocateAnswers}
use Rattle.tigertopo_files.specs.Reading.{text_under}
use Rattle.tigertopo_program.specs.Records.{StopsRecords}
use Rattle.tigertopo_program.proofs.records.locate.Goals as goal

pub returns-in_err-place-in-Ok : goal.returns-in_err-place-in-Ok
returns-in_err-place-in-Ok g c =
    let known = text_under (g.F.FileSystem.under c.args.files.now) (map string_bytes c.args.names.now) in
    does_run_out (world g.F.FileSystem.under g.F.FileSystem.log g.F.FileSystem.knows c.args.files.now c.over_records.new.files) (map string_bytes c.args.names.now)
    (IsReadMap (layout_with c.args.options) known) (StopsRecords (layout_with c.args.options) known) None (Ok c.in-Ok.map) (rw c.in-Ok.is at c.in_ok-map.ensures) _ c.from_residual-in_err-place-in-Ok.result c.from_residual-in_err-place-in-Ok.ensures.1

pub returns-in_err-text-in-Ok : goal.returns-in_err-text-in-Ok
returns-in_err-text-in-Ok g c =
    let known = text_under (g.F.FileSystem.under c.args.files.now) (map string_bytes c.args.names.now) in
    does_run_out (world g.F.FileSystem.under g.F.FileSystem.log g.F.FileSystem.knows c.args.files.now c.over_records.new.files) (map string_bytes c.args.names.now)
    (IsReadMap (layout_with c.args.options) known) (StopsRecords (layout_with c.args.options) known) None (Ok c.in-Ok.map) (rw c.in-Ok.is at c.in_ok-map.ensures) _ c.from_residual-in_err-text-in-Ok.result
    (rw c.in_err-text-in-Ok.ensures.stop at c.from_residual-in_err-text-in-Ok.ensures.1)

pub with_printed-requires : goal.with_printed-requires
with_printed-requires g c = (c.args.point, c.in_ok-place-in-Ok.ensures)

pub returns-in_ok-text-in-Ok : goal.returns-in_ok-text-in-Ok
returns-in_ok-text-in-Ok g c =
    let w = world g.F.FileSystem.under g.F.FileSystem.log g.F.FileSystem.knows c.args.files.now c.over_records.new.files in
    let known = text_under w.before (map string_bytes c.args.names.now) in
    does_read w (map string_bytes c.args.names.now) (IsReadMap (layout_with c.args.options) known) (StopsRecords (layout_with c.args.options) known) None (Ok c.in-Ok.map) (rw c.in-Ok.is at c.in_ok-map.ensures)
    (IsSaid (LocateAnswers (layout_with c.args.options) c.args.point known)) _
    (inl (record {
      map = c.in-Ok.map;
      place = c.in_ok-place-in-Ok.place;
      lies = c.in_ok-place-in-Ok.ensures;
      drawn = rw c.in-Ok.is at c.in_ok-map.ensures.answered;
      is = refl;
      line = c.in_ok-text-in-Ok.ensures.bytes;
    }))
