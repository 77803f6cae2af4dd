use Rattle.tigertopo_faults.proofs.LocationLemmas.{given}
use Rattle.tigertopo_faults.proofs.laws.a_printed_place_can_be_given.Goals as goal

pub returns : goal.returns
returns c = given
