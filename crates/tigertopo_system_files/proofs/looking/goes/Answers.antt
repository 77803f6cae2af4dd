use Rattle.std.proofs.lemmas.Result.{err_from_is_err_and}
use Rattle.tigertopo_system_files.specs.Looking.{may_at}
use Rattle.tigertopo_system_files.specs.declared.looking.Spot.TheVariants as spot
use Rattle.tigertopo_system_files.proofs.LookLemmas.{empty_goes, whole_told}
use Rattle.tigertopo_system_files.proofs.looking.goes.Goals as goal

pub returns-in-Name : goal.returns-in-Name
returns-in-Name g c =
    rw c.in-Name.is (whole_told (may_at spot.Name c.args.kind) c.is_of_kind.result (g.L.Lookup.held c.args.files.now) (g.L.File.Read.remaining c.in_ok-file.file) c.args.name.now c.args.size c.in_ok-file.ensures c.is_of_kind.ensures)

pub returns : goal.returns
returns g c =
    rw c.in-Beside.is (whole_told (may_at spot.Beside c.args.kind) c.is_unfinished.result (g.L.Lookup.held c.args.files.now) (g.L.File.Read.remaining c.in_ok-file.file) c.args.name.now c.args.size c.in_ok-file.ensures c.is_unfinished.ensures)

pub returns-in_err-file : goal.returns-in_err-file
returns-in_err-file g c = let p = err_from_is_err_and c.from_residual.result c.from_residual.ensures.1 in rw p.1 tt

pub returns-then-size-eq0 : goal.returns-then-size-eq0
returns-then-size-eq0 g c = empty_goes c.args.spot c.args.kind (g.L.Lookup.held c.args.files.now) c.args.name.now c.args.size c.if-size-eq0.true
