use Rattle.std.proofs.Common.{◌≤◌, length}
use Rattle.tigertopo_pictures.proofs.GroupLemmas.{IsLinkedFrom}
use Rattle.tigertopo_pictures.proofs.groups.Groups.new.Given as goal

abbrev pub invariant-loop-item : goal.invariant-loop-item
invariant-loop-item l = (l.item ≤ length l.groups) × IsLinkedFrom l.count l.groups l.item l.first.items l.next.items

abbrev pub decreases-loop-item : goal.decreases-loop-item
decreases-loop-item l = l.item
