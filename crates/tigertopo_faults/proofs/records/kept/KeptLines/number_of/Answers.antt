use Rattle.std.proofs.Common.{sym}
use Rattle.tigertopo_faults.proofs.KeptLemmas.{derived_index}
use Rattle.tigertopo_faults.proofs.records.kept.KeptLines.number_of.Goals as goal

pub returns : goal.returns
returns c = sym (derived_index c.args.self.now.subjects.keys c.args.subject.now _ c.get_index_of.ensures.index)
