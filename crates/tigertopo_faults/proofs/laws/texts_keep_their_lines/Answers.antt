use Rattle.tigertopo_faults.proofs.PlaceLemmas.{joined_lines_are}
use Rattle.tigertopo_faults.proofs.laws.texts_keep_their_lines.Goals as goal

pub returns : goal.returns
returns c = joined_lines_are
