use Rattle.std.proofs.Common.{rules}
use Rattle.tl_geom.proofs.Rectangles.{first_of_join, second_of_join, least_join}
use Rattle.tl_geom.proofs.rect.Rect.join.Goals as goal

pub returns-clause-holds_first : goal.returns-clause-holds_first
returns-clause-holds_first c = first_of_join c.args.self c.args.other _ (search rules)

pub returns-clause-holds_second : goal.returns-clause-holds_second
returns-clause-holds_second c = second_of_join c.args.self c.args.other _ (search rules)

pub returns-clause-least : goal.returns-clause-least
returns-clause-least c = λ full full'. least_join c.args.self c.args.other _ full full' (search rules)
