use Rattle.tl_check_sides.proofs.RisingFacts.{RiseSoFar}
use Rattle.tl_check_sides.proofs.rounds.is_rising.Given as goal

-- the heading is that of the dart before the place, and the headings so far rise
abbrev pub invariant-loop-place : goal.invariant-loop-place
invariant-loop-place l = RiseSoFar l.map.chains l.round l.place l.heading
