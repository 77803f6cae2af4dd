use Rattle.std.proofs.Common.{sym, subst}
use Rattle.tl_check_gaps.specs.Telling.{IsToldAt}
use Rattle.tl_check_gaps.proofs.Whole.{told_there, none_there}
use Rattle.tl_check_gaps.proofs.telling.push_between.Goals as goal

pub returns-in_ok-push : goal.returns-in_ok-push
returns-in_ok-push c = λ front back west east.
    subst (IsToldAt c.args.map.now.chains c.args.p front back c.args.gaps.now.items) (sym c.in_ok-push.ensures.items)
    (told_there c.args.map.now.chains c.args.p c.args.west c.args.east front back c.args.gaps.now.items west east
    (c.are_at_odds.ensures.0 c.if-are_at_odds.true))

pub returns-else-are_at_odds : goal.returns-else-are_at_odds
returns-else-are_at_odds c = λ front back west east.
    none_there c.args.map.now.chains c.args.p c.args.west c.args.east front back c.args.gaps.now.items west east
    (λ odd. absurd (let yes = c.are_at_odds.ensures.1 odd in let no = c.if-are_at_odds.false in cc))
