use Rattle.tl_check_planar.specs.Listing.Keeping.Pairing.{ArePairsBefore}
use Rattle.tl_check_planar.proofs.listing.pairs.list_pairs.Given as goal

-- the pairs that are found from the items so far
abbrev pub invariant-loop-i : goal.invariant-loop-i
invariant-loop-i g l = ArePairsBefore (g.I.Items.count l.items) (g.I.Items.tells l.items) l.marks l.i l.pairs.items
