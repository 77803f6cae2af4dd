use Rattle.tigertopo_faults.proofs.PlaceLemmas.{GoesOn}
use Rattle.tigertopo_faults.proofs.places.place.place_of.Given as goal

abbrev pub invariant-loop-text : goal.invariant-loop-text
invariant-loop-text l = GoesOn l.counts l.fn.number l.text l.line
