use Rattle.std.proofs.Common.{[], ℕ, List, map, option_map, refl, string_bytes, subst}
use Rattle.tigertopo_files.specs.World.{Does, Made, world}
use Rattle.tigertopo_program.specs.Records.{StopsNever}
use Rattle.tigertopo_program.proofs.ListLemmas.{does_not, no_faults}
use Rattle.tigertopo_program.proofs.lists.collection.make_without_faults.Goals as goal

pub returns-in_err-nothing : goal.returns-in_err-nothing
returns-in_err-nothing g c = does_not _ refl (λ known. refl) _ _ StopsNever _ refl c.from_residual.result c.from_residual.ensures.1

pub returns : goal.returns
returns g c =
    let w = world g.F.FileSystem.under g.F.FileSystem.log g.F.FileSystem.knows c.args.files.now c.make_collection.new.files in
    let made = option_map string_bytes c.args.made.now in
    subst (λ (t : List ℕ). Does w [] made (λ done. Made w made t) StopsNever c.make_collection.result) (no_faults (map string_bytes c.args.names.now) c.in_ok-nothing.nothing c.args.refused.now)
    c.make_collection.ensures
