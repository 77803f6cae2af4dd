use Rattle.std.proofs.Common.{ℕ, List, ◌++◌, ◌-◌, length}
use Rattle.tigertopo_pictures.specs.Groups.{GoesThrough}
use Rattle.tigertopo_pictures.proofs.GroupLemmas.{IsOnTheWay}
use Rattle.tigertopo_pictures.proofs.items.print_items.Given as goal

abbrev pub invariant-loop-at : goal.invariant-loop-at
invariant-loop-at g l = (ns : List ℕ) → GoesThrough l.groups.next l.initial.at ns
    → IsOnTheWay (λ n. l.before ++ g.I.Items.text l.items n ++ l.behind) l.groups.next l.at ns
    (g.P.Page.adds l.initial.page l.page)

abbrev pub decreases-loop-at : goal.decreases-loop-at
decreases-loop-at g l = length l.groups.next - l.at
