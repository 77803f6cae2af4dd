use Rattle.std.proofs.Common.{arith}
use Rattle.tl_check_points.proofs.Going.{begun, within, less_up, less_down, up, down, come}
use Rattle.tl_check_points.proofs.ways.go.Goals as goal

pub loop-one-init : goal.loop-one-init
loop-one-init c = begun _ c.args.gaps.now c.args.from c.args.to c.args.journal.now.items c.requires.told c.requires.known c.requires.among

pub bounds-gaps-one : goal.bounds-gaps-one
bounds-gaps-one c = within _ c.args.gaps.now c.loop-one.one c.loop-one.invariant.first (omega arith) c.loop-one.invariant.is_first

pub loop-one-smaller-then-one-other : goal.loop-one-smaller-then-one-other
loop-one-smaller-then-one-other c =
    less_up _ c.args.gaps.now c.loop-one.one c.loop-one.other _ c.loop-one.invariant.first (omega arith) c.loop-one.invariant.is_first

pub loop-one-preserved-then-one-other : goal.loop-one-preserved-then-one-other
loop-one-preserved-then-one-other c =
    up _ c.args.gaps.now c.args.to c.loop-one.one c.loop-one.other c.loop-one.journal.items c.push.new.self.items _ c.loop-one.invariant c.turned.result
    (omega arith) c.turned.ensures.near c.turned.ensures.far c.in_ok-push.ensures.items

pub bounds-gaps-other : goal.bounds-gaps-other
bounds-gaps-other c =
    within _ c.args.gaps.now c.loop-one.other c.loop-one.invariant.second (omega (arith, c.loop-one-test.true, c.if-one-other.false)) c.loop-one.invariant.is_second

pub loop-one-smaller : goal.loop-one-smaller
loop-one-smaller c =
    less_down _ c.args.gaps.now c.loop-one.one c.loop-one.other _ c.loop-one.invariant.second (omega (arith, c.loop-one-test.true, c.if-one-other.false))
    c.loop-one.invariant.is_second

pub loop-one-preserved : goal.loop-one-preserved
loop-one-preserved c =
    down _ c.args.gaps.now c.args.to c.loop-one.one c.loop-one.other c.loop-one.journal.items c.push-else-one-other.new.self.items _ c.loop-one.invariant
    (omega (arith, c.loop-one-test.true, c.if-one-other.false)) c.in_ok-push-2.ensures.items

pub returns-clause-told : goal.returns-clause-told
returns-clause-told c =
    come _ c.args.gaps.now c.args.to c.loop-one.one c.loop-one.other c.loop-one.journal.items c.loop-one-test.false c.loop-one.invariant
