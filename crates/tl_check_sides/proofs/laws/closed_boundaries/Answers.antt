use Rattle.tl_check_sides.proofs.Boundaries.{boundary_of}
use Rattle.tl_check_sides.proofs.laws.closed_boundaries.Goals as goal

pub returns : goal.returns
returns c = boundary_of
