use Rattle.std.proofs.Common.{refl}
use Rattle.tigertopo_files.proofs.LendingLemmas.{does_lend_well}
use Rattle.tigertopo_memory_files.proofs.in_memory.FilesInMemoryFileSystem.read.Goals as goal

pub returns : goal.returns
returns g c =
    does_lend_well _ _ _ _ (rw c.log_names.ensures.files refl) c.read_each.result (rw c.log_names.ensures.files at c.read_each.ensures)
    (λ known. let logged = c.in_ok-log_names.ensures.logged in rw c.in_ok-all_names.ensures at logged)
