use Rattle.std.proofs.Common.{length, map, refl}
use Rattle.tl_check_faces.proofs.CrossingsLemmas.Apart.{apart}
use Rattle.tl_decide.proofs.first.first_fault.Goals as goal

pub find_sides_at_odds-requires-clause-apart : goal.find_sides_at_odds-requires-clause-apart
find_sides_at_odds-requires-clause-apart c = apart c.args.map.now.chains c.requires.planar c.has_proper_chains.ensures

pub first_agreeing-requires-clause-rings : goal.first_agreeing-requires-clause-rings
first_agreeing-requires-clause-rings c = (
  length (map (λ w. w.items) c.args.walks.now),
  record { agree = c.in-None.ensures; walks = map (λ w. w.items) c.args.walks.now; are = c.requires.walks; counted = refl },
)

pub first_differing-requires : goal.first_differing-requires
first_differing-requires c = c.in-Some.ensures.0
