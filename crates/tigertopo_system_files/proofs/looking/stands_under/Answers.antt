use Rattle.std.proofs.Common.{map, string_bytes}
use Rattle.std.proofs.lemmas.Result.{err_from_is_err_and}
use Rattle.tigertopo_system_files.specs.Looking.{may_at}
use Rattle.tigertopo_system_files.proofs.LookLemmas.{nothing_stands, no_file_stands, goes_there, stays_there}
use Rattle.tigertopo_system_files.proofs.looking.stands_under.Goals as goal

pub returns-then-is_among : goal.returns-then-is_among
returns-then-is_among g c = rw c.if-is_among.true at c.is_among.ensures.among

pub returns-in_err-look : goal.returns-in_err-look
returns-in_err-look g c = let p = err_from_is_err_and c.from_residual.result c.from_residual.ensures.1 in rw p.1 tt

pub returns-in_err-goes-in-File : goal.returns-in_err-goes-in-File
returns-in_err-goes-in-File g c =
    let p = err_from_is_err_and c.from_residual-in_err-goes-in-File.result c.from_residual-in_err-goes-in-File.ensures.1 in rw p.1 tt

pub returns-in-Nothing : goal.returns-in-Nothing
returns-in-Nothing g c =
    nothing_stands (may_at c.args.spot c.args.kind) (g.L.Lookup.held c.args.files.now) c.args.name.now (map string_bytes c.args.read.now)
    (rw c.in-Nothing.is at c.in_ok-look.ensures) (rw c.if-is_among.false at c.is_among.ensures.none)

pub returns-in-NoFile : goal.returns-in-NoFile
returns-in-NoFile g c =
    no_file_stands (may_at c.args.spot c.args.kind) (g.L.Lookup.held c.args.files.now) c.args.name.now (map string_bytes c.args.read.now)
    (rw c.in-NoFile.is at c.in_ok-look.ensures)

pub returns-then-branch : goal.returns-then-branch
returns-then-branch g c =
    goes_there (may_at c.args.spot c.args.kind) (g.L.Lookup.held c.args.files.now) c.args.name.now (map string_bytes c.args.read.now) c.in-File.size
    (rw c.in-File.is at c.in_ok-look.ensures) (rw c.if-branch.true at c.in_ok-goes-in-File.ensures) (rw c.if-is_among.false at c.is_among.ensures.none)

pub returns-else-branch : goal.returns-else-branch
returns-else-branch g c =
    stays_there (may_at c.args.spot c.args.kind) (g.L.Lookup.held c.args.files.now) c.args.name.now (map string_bytes c.args.read.now) c.in-File.size
    (rw c.in-File.is at c.in_ok-look.ensures) (rw c.if-branch.false at c.in_ok-goes-in-File.ensures)
