use Rattle.tigertopo_faults.proofs.PlaceLemmas.{line_stands}
use Rattle.tigertopo_faults.proofs.laws.a_line_stands_at_its_place.Goals as goal

pub returns : goal.returns
returns c = line_stands
