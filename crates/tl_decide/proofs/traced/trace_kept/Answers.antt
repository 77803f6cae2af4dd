use Rattle.tl_check_faces.proofs.CrossingsLemmas.Apart.{apart}
use Rattle.tl_decide.proofs.traced.trace_kept.Goals as goal

pub find_sides_at_odds-requires-clause-apart : goal.find_sides_at_odds-requires-clause-apart
find_sides_at_odds-requires-clause-apart c = apart c.args.map.now.chains c.requires c.has_proper_chains.ensures

pub returns-in-Some : goal.returns-in-Some
returns-in-Some c = c.in-Some.ensures.1
