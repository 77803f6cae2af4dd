use Rattle.std.proofs.Common.{◌<◌, length, slice_index_or}
use Rattle.tl_check_sides.proofs.MarkLemmas.{is-unknown, is-twice, none-added, add-more, all-added, not-fewer}
use Rattle.tl_check_sides.proofs.marks.mark_darts.Goals as goal

pub loop-dart-init : goal.loop-dart-init
loop-dart-init c = none-added c.args.marks.now

pub returns-then-place-marks-clause-count : goal.returns-then-place-marks-clause-count
returns-then-place-marks-clause-count c = not-fewer _ _ _ c.loop-dart.invariant

pub returns-then-marks-place-clause-count : goal.returns-then-marks-place-clause-count
returns-then-marks-place-clause-count c = not-fewer _ _ _ c.loop-dart.invariant

pub returns-clause-marked : goal.returns-clause-marked
returns-clause-marked c = all-added c.args.marks.now c.args.darts.now c.loop-dart.dart-index c.loop-dart.marks c.loop-dart.invariant c.loop-dart-test.false

pub returns-clause-count : goal.returns-clause-count
returns-clause-count c = not-fewer _ _ _ c.loop-dart.invariant

pub returns-then-place-marks-clause-fault : goal.returns-then-place-marks-clause-fault
returns-then-place-marks-clause-fault c = is-unknown c.args.marks.now c.args.darts.now c.loop-dart.dart-index c.loop-dart.marks c.loop-dart.invariant c.loop-dart-test.true c.if-place-marks.true

pub returns-then-marks-place-clause-fault : goal.returns-then-marks-place-clause-fault
returns-then-marks-place-clause-fault c = is-twice c.args.marks.now c.args.darts.now c.loop-dart.dart-index c.loop-dart.marks c.loop-dart.invariant c.loop-dart-test.true c.if-marks-place.true

pub loop-dart-preserved : goal.loop-dart-preserved
loop-dart-preserved c =
    let here : slice_index_or c.args.darts.now c.loop-dart.dart-index 0 < length c.loop-dart.marks = c.if-place-marks.false in
    add-more c.args.marks.now c.args.darts.now c.loop-dart.dart-index c.loop-dart.marks c.loop-dart.invariant c.loop-dart-test.true here c.if-marks-place.false

pub returns-then-place-marks-clause-marked : goal.returns-then-place-marks-clause-marked
returns-then-place-marks-clause-marked c = tt

pub returns-then-marks-place-clause-marked : goal.returns-then-marks-place-clause-marked
returns-then-marks-place-clause-marked c = tt

pub returns-then-place-marks-clause-long : goal.returns-then-place-marks-clause-long
returns-then-place-marks-clause-long c = c.loop-dart.invariant.long

pub returns-then-marks-place-clause-long : goal.returns-then-marks-place-clause-long
returns-then-marks-place-clause-long c = c.loop-dart.invariant.long

pub returns-clause-long : goal.returns-clause-long
returns-clause-long c = c.loop-dart.invariant.long

pub returns-clause-fault : goal.returns-clause-fault
returns-clause-fault c = tt
