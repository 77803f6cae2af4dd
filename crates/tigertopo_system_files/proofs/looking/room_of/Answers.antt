use Rattle.std.proofs.Common.{map, string_bytes}
use Rattle.std.proofs.lemmas.Result.{err_from_is_err_and}
use Rattle.tigertopo_system_files.proofs.LookLemmas.{never, free_there}
use Rattle.tigertopo_system_files.proofs.looking.room_of.Goals as goal

pub returns-in_err-stands_under : goal.returns-in_err-stands_under
returns-in_err-stands_under g c = let p = err_from_is_err_and c.from_residual.result c.from_residual.ensures.1 in rw p.1 tt

pub returns-in_err-stands_beside-in-Free : goal.returns-in_err-stands_beside-in-Free
returns-in_err-stands_beside-in-Free g c =
    let p = err_from_is_err_and c.from_residual-in_err-stands_beside-in-Free.result c.from_residual-in_err-stands_beside-in-Free.ensures.1 in rw p.1 tt

pub returns-in-NoFile : goal.returns-in-NoFile
returns-in-NoFile g c = never _ (g.L.Lookup.held c.args.files.now) (rw c.in-NoFile.is at c.in_ok-stands_under.ensures)

pub returns-in-Free-2 : goal.returns-in-Free-2
returns-in-Free-2 g c =
    free_there (g.L.Lookup.held c.args.files.now) c.args.name.now (map string_bytes c.args.read.now) c.args.kind
    (rw c.in-Free.is at c.in_ok-stands_under.ensures) (rw c.in-Free-2.is at c.in_ok-stands_beside-in-Free.ensures)
