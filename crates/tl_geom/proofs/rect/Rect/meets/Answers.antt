use Rattle.std.proofs.Common.{arith}
use Rattle.std.proofs.lemmas.Int.{ints, clamps}
use Rattle.tl_geom.proofs.Conditions.{second_test, failed_test}
use Rattle.tl_geom.proofs.Rectangles.{meeting_by, by_meeting}
use Rattle.tl_geom.proofs.rect.Rect.meets.Goals as goal

pub returns-then-overlap : goal.returns-then-overlap
returns-then-overlap c =
    second_test _ _ c.if-overlap.true c.overlap.ensures c.overlap-then-overlap.ensures
    (λ x y. meeting_by c.args.self c.args.other (omega (arith, ints, clamps, x)) (omega (arith, ints, clamps, y))) (λ m. let k : _ = by_meeting c.args.self c.args.other m in omega (arith, ints, clamps, k.1))

pub returns-else-overlap : goal.returns-else-overlap
returns-else-overlap c =
    failed_test _ c.if-overlap.false c.overlap.ensures (λ m. let k : _ = by_meeting c.args.self c.args.other m in omega (arith, ints, clamps, k.0))
