use Rattle.std.proofs.Common.{ℕ, List, ◌-◌, length, map}
use Rattle.tigertopo_pictures.specs.Groups.{GoesThrough}
use Rattle.tigertopo_pictures.proofs.SvgLemmas.FillLemmas.{IsAroundSome}
use Rattle.tigertopo_pictures.proofs.svg.filled.around_walks.Given as goal

abbrev pub invariant-loop-at : goal.invariant-loop-at
invariant-loop-at l = (ns : List ℕ) → GoesThrough l.rings.next l.initial.at ns → IsAroundSome l.map.chains (map (λ w. w.items) l.walks) l.rings.next l.at ns l.rect

abbrev pub decreases-loop-at : goal.decreases-loop-at
decreases-loop-at l = length l.rings.next - l.at
