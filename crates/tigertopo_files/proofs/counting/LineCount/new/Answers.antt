use Rattle.tigertopo_files.proofs.CountingLemmas.{new_count}
use Rattle.tigertopo_files.proofs.counting.LineCount.new.Goals as goal

pub returns : goal.returns
returns c = new_count
