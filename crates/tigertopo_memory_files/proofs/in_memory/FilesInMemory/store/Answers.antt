use Rattle.std.proofs.Common.{ap}
use Rattle.std.specs.Prelude.{Some}
use Rattle.tigertopo_memory_files.proofs.FoundLemmas.{stored, stored_other}
use Rattle.tigertopo_memory_files.proofs.in_memory.FilesInMemory.store.Goals as goal

pub returns-clause-stored : goal.returns-clause-stored
returns-clause-stored c = ap Some (rw c.in_ok-push.ensures.items (stored c.args.self.now.files.items (record { name = c.args.name; bytes = c.args.bytes })))

pub returns-clause-others : goal.returns-clause-others
returns-clause-others c = λ other differs. ap Some (rw c.in_ok-push.ensures.items (stored_other c.args.self.now.files.items (record { name = c.args.name; bytes = c.args.bytes }) other differs))
