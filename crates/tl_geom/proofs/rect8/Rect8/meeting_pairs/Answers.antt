use Rattle.tl_geom.proofs.Turns.{pairs-at}
use Rattle.tl_geom.proofs.rect8.Rect8.meeting_pairs.Goals as goal

pub returns-clause-pairs : goal.returns-clause-pairs
returns-clause-pairs c =
    pairs-at c.args.self.now c.turned-by_one.result c.turned-by_two.result c.turned-by_three.result c.turned-by_four.result
    c.meets_each.result c.meets_each-2.result c.meets_each-3.result c.meets_each-4.result c.in_rows.result
    c.meets_each.type_inv c.meets_each-2.type_inv c.meets_each-3.type_inv c.in_rows.ensures.rows
    c.turned-by_one.ensures c.turned-by_two.ensures c.turned-by_three.ensures c.turned-by_four.ensures
    c.meets_each.ensures c.meets_each-2.ensures c.meets_each-3.ensures c.meets_each-4.ensures
