use Rattle.std.proofs.Common.{rules}
use Rattle.tl_geom.proofs.Fitting.{narrow_sum_fits, narrow_sum}
use Rattle.tl_geom.proofs.meeting.middle.Goals as goal

pub overflow_add-result : goal.overflow_add-result
overflow_add-result c = narrow_sum_fits c.args.p.x c.args.q.x c.from.result c.from-2.result (search rules) (search rules) c.from.ensures c.from-2.ensures

pub overflow_add-result-2 : goal.overflow_add-result-2
overflow_add-result-2 c = narrow_sum_fits c.args.p.y c.args.q.y c.from-3.result c.from-4.result (search rules) (search rules) c.from-3.ensures c.from-4.ensures

pub returns-clause-x : goal.returns-clause-x
returns-clause-x c = narrow_sum c.args.p.x c.args.q.x c.from.result c.from-2.result (search rules) (search rules) c.from.ensures c.from-2.ensures

pub returns-clause-y : goal.returns-clause-y
returns-clause-y c = narrow_sum c.args.p.y c.args.q.y c.from-3.result c.from-4.result (search rules) (search rules) c.from-3.ensures c.from-4.ensures
