use Rattle.std.proofs.Common.{◌≡◌, ◌↔◌, ◌%◌, arith}
use Rattle.std.specs.Int.{bit_at}
use Rattle.tl_geom.specs.EightRectangles.{lane}
use Rattle.tl_geom.specs.Rectangle.{AreMeeting}
use Rattle.tl_tree.specs.Keeping.OwnPairs.{partner}
use Rattle.tl_tree.proofs.leaf.test_pairs.Goals as goal

pub test_own_pairs-requires-clause-cells : goal.test_own_pairs-requires-clause-cells
test_own_pairs-requires-clause-cells g c = λ p lt there.
    let e = c.args.bounds.now in
    let f : (bit_at c.meeting_pairs.result p ≡ 1) ↔ AreMeeting (lane e (p % 8)) (lane e (partner p)) = c.meeting_pairs.ensures.pairs p lt in
    rw (c.requires.bounds (p % 8) (omega arith) there.first, c.requires.bounds (partner p) (omega arith) there.second) at f

pub test_all_pairs-requires-clause-some : goal.test_all_pairs-requires-clause-some
test_all_pairs-requires-clause-some g c = c.requires.some

pub test_all_pairs-requires-clause-nothing_found : goal.test_all_pairs-requires-clause-nothing_found
test_all_pairs-requires-clause-nothing_found g c = c.requires.nothing_found

pub returns-then-some-gt8 : goal.returns-then-some-gt8
returns-then-some-gt8 g c = c.test_all_pairs.ensures

pub test_own_pairs-requires-clause-some : goal.test_own_pairs-requires-clause-some
test_own_pairs-requires-clause-some g c = c.requires.some

pub test_own_pairs-requires-clause-few : goal.test_own_pairs-requires-clause-few
test_own_pairs-requires-clause-few g c = c.if-some-gt8.false

pub test_own_pairs-requires-clause-nothing_found : goal.test_own_pairs-requires-clause-nothing_found
test_own_pairs-requires-clause-nothing_found g c = c.requires.nothing_found

pub returns : goal.returns
returns g c = c.test_own_pairs.ensures
