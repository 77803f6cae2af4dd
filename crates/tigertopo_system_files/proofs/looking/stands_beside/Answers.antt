use Rattle.std.proofs.Common.{map, string_bytes}
use Rattle.std.proofs.lemmas.Result.{err_from_is_err_and}
use Rattle.tigertopo_system_files.specs.Looking.{may_at}
use Rattle.tigertopo_system_files.specs.declared.looking.Spot.TheVariants as spot
use Rattle.tigertopo_system_files.proofs.LookLemmas.{stands_there, none_beside}
use Rattle.tigertopo_system_files.proofs.looking.stands_beside.Goals as goal

pub returns-in_err-beside : goal.returns-in_err-beside
returns-in_err-beside g c = let p = err_from_is_err_and c.from_residual.result c.from_residual.ensures.1 in rw p.1 tt

pub returns-in-Some : goal.returns-in-Some
returns-in-Some g c =
    stands_there string_bytes c.in-Some.beside (may_at spot.Beside c.args.kind) c.stands_under.result (g.L.Lookup.held c.args.files.now) c.args.name.now
    c.as_str.result.now (map string_bytes c.args.read.now) (rw c.in-Some.is at c.in_ok-beside.ensures) c.as_str.ensures.value c.stands_under.ensures

pub returns-in-None : goal.returns-in-None
returns-in-None g c = none_beside _ (g.L.Lookup.held c.args.files.now) c.args.name.now (rw c.in-None.is at c.in_ok-beside.ensures)
