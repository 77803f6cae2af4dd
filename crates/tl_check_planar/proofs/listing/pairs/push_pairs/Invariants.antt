use Rattle.std.proofs.Common.{◌≡◌, ◌++◌, map, take}
use Rattle.tl_check_planar.specs.Listing.Keeping.Pairing.{pair_of}
use Rattle.tl_check_planar.proofs.listing.pairs.push_pairs.Given as goal

-- the pairs of the item with each of these so far
abbrev pub invariant-loop-j : goal.invariant-loop-j
invariant-loop-j l = l.pairs.items ≡ l.fn.pairs.items ++ map (pair_of l.i) (take l.j-index l.hits)
