use Rattle.std.proofs.Common.{length}
use Rattle.tl_tree.proofs.search.+search_listed.Given as goal

-- the listed trees
abbrev pub decreases-search_listed : goal.decreases-search_listed
decreases-search_listed g l = length l.near.now
