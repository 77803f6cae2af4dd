use Rattle.tl_check_sides.proofs.LinkFacts.{LinkSoFar}
use Rattle.tl_check_sides.proofs.rounds.link.Given as goal

-- the darts so far stand behind those before them, and nothing else has changed
abbrev pub invariant-loop-place : goal.invariant-loop-place
invariant-loop-place l = LinkSoFar l.initial.next l.round l.place l.last l.next
