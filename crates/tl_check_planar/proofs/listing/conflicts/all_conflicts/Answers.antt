use Rattle.tl_check_planar.proofs.listing.conflicts.all_conflicts.Goals as goal

pub conflicts_of-requires-clause-ordered : goal.conflicts_of-requires-clause-ordered
conflicts_of-requires-clause-ordered g c = rw c.deref.ensures.value c.in_ok-pairs.ensures.ordered
