use Rattle.tl_map.proofs.JoinedLemmas.ApartLemmas.{not_apart, is_apart}
use Rattle.tl_map.proofs.joined.join.apart_of.Goals as goal

pub returns-then-are_two : goal.returns-then-are_two
returns-then-are_two c = rw c.in-Shape.is (not_apart c.args.records.now c.in-Shape.tlid c.in-Shape.rtsq c.in-Shape.pairs c.are_two.result c.are_two.ensures c.if-are_two.true)

pub returns-else-are_two : goal.returns-else-are_two
returns-else-are_two c = rw c.in-Shape.is (is_apart c.args.records.now c.in-Shape.tlid c.in-Shape.rtsq c.in-Shape.pairs c.are_two.result c.are_two.ensures c.if-are_two.false)
