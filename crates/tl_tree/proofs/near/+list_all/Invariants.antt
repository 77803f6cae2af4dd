use Rattle.std.proofs.Common.{length}
use Rattle.tl_tree.proofs.near.+list_all.Given as goal

-- the listed trees
abbrev pub decreases-list_all : goal.decreases-list_all
decreases-list_all g l = length l.others.now
