use Rattle.std.proofs.lemmas.Bool.{iff_false}
use Rattle.tl_check_planar.proofs.Ends.{end_found, no_end_found}
use Rattle.tl_check_planar.proofs.allowed.end_of_both.Goals as goal

pub returns-then-is_end : goal.returns-then-is_end
returns-then-is_end c = λ r. end_found c.args.points.now c.args.p r (c.is_end.ensures.0 c.if-is_end.true)

pub returns-else-is_end : goal.returns-else-is_end
returns-else-is_end c = λ r. no_end_found c.args.points.now c.args.p r (iff_false c.is_end.ensures c.if-is_end.false)
