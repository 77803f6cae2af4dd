use Rattle.std.proofs.Common.{subst}
use Rattle.std.specs.Option.{IfSome}
use Rattle.tl_check_sides.specs.Cells.Cells.{AreCellsAtOdds}
use Rattle.tl_decide.proofs.first.first_differing.Goals as goal

pub returns-in-Some : goal.returns-in-Some
returns-in-Some c = subst (λ found. IfSome found (λ odds. AreCellsAtOdds c.args.map.now.chains odds.first odds.second odds.first_id odds.second_id)) c.in-Some.is c.in_ok-odds.ensures.at_odds
