use Rattle.std.proofs.Common.{refl, subst, arith}
use Rattle.std.proofs.lemmas.Int.{ints}
use Rattle.std.specs.Prelude.{IfSome}
use Rattle.tl_check_active.specs.Blocks.Lined.{list_of}
use Rattle.tl_check_active.specs.Passed.{HasPassed}
use Rattle.tl_check_active.specs.Ranges.{IsInRange}
use Rattle.tl_check_gaps.specs.Keeping.Passing.{IsRecounted}
use Rattle.tl_check_sweep.proofs.Arriving.{arrived}
use Rattle.tl_check_sweep.proofs.UnderWay.{further}
use Rattle.tl_check_sweep.proofs.sweeping.DecidingWatcher.pass.Goals as goal

pub step-requires : goal.step-requires
step-requires c =
    let range : IsInRange c.point-p.result = record { west = omega (arith, ints); east = omega (arith, ints) } in
    let under = c.requires.keeps in
    record {
      before = arrived c.args.map.now.chains c.args.events.now c.args.from c.args._to (list_of c.args.line.now) _ _ under.given.are under.given.rising
          under.given.ranges under.given.proper under.swept c.requires.gathered c.point-p.result c.point-p.ensures under.below range;
    }

pub returns-clause-passed : goal.returns-clause-passed
returns-clause-passed c = λ h.
    let chains = c.args.map.now.chains in
    let old = c.args.notes.now in
    let line = c.step.new.line in
    let outs = c.step.new.outs.items in
    let ins = c.step.new.ins.items in
    let passed = subst
    (λ p. IfSome p (HasPassed chains (list_of c.args.line.now) c.step.new.line c.args.outs.now.items c.step.new.outs.items c.args.ins.now.items c.step.new.ins.items))
    c.in-Some.is c.in_ok-both.ensures.passed in
    let noted = subst (λ l. IsRecounted chains c.point-p.result passed.west c.step.new.outs.items l c.step.new.line.back old.gaps c.note.new.gaps old.watch c.note.new.watch)
    c.deref-2.ensures.value
    (subst (λ l. IsRecounted chains c.point-p.result passed.west l c.deref-2.result.now c.step.new.line.back old.gaps c.note.new.gaps old.watch c.note.new.watch)
    c.deref.ensures.value (c.in_ok-note.ensures passed.west c.step.new.line.back passed.west_is passed.east_is)) in
    further c.args.self.now.asked c.args.map.now c.args.events.now c.args.from c.args._to (list_of c.args.line.now) line c.args.outs.now.items outs
    c.args.ins.now.items ins c.in-Some.both c.point-p.result c.point-p.ensures old
    (record { gaps = c.note.new.gaps; spots = old.spots; watch = c.note.new.watch; found = c.step.new.found }) c.requires.keeps c.requires.gathered passed noted refl
