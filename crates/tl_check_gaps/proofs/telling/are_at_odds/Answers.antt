use Rattle.tl_check_gaps.proofs.Named.{odds_by}
use Rattle.tl_check_gaps.proofs.telling.are_at_odds.Goals as goal

pub returns-in-Some-Some : goal.returns-in-Some-Some
returns-in-Some-Some c =
    odds_by c.args.map.now.chains c.args.west c.args.east c.in-Some-Some.one c.in-Some-Some.other c.in-Some-Some.ensures.named
    c.in-Some-Some.ensures'.named c.are_same.result c.are_same.ensures
