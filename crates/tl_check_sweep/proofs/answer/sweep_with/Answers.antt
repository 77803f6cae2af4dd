use Rattle.std.proofs.Common.{◌≡◌, false, true, subst}
use Rattle.std.specs.Prelude.{slice_index_or}
use Rattle.tl_check_planar.specs.ByHeight.Heights.{widest}
use Rattle.tl_check_planar.proofs.ByHeight.Planarity.{planar}
use Rattle.tl_check_gaps.specs.Keeping.Watched.{AreTrueGaps}
use Rattle.tl_check_sweep.proofs.Answered.{all_near}
use Rattle.tl_check_sweep.proofs.UnderWay.{sets_out, all_tested, all_watched}
use Rattle.tl_check_sweep.proofs.answer.sweep_with.Goals as goal

pub sweep_over-requires : goal.sweep_over-requires
sweep_over-requires c = record {
  begun = sets_out c.args.gaps c.in_ok-notes.notes c.args.map.now c.args.events.now
      (record { are = c.requires.events; rising = c.requires.rising; ranges = c.requires.ranges; proper = c.requires.proper })
      c.in_ok-notes.ensures.none c.in_ok-notes.ensures.marks c.in_ok-notes.ensures.asked c.in_ok-notes.ensures.untold;
}

pub returns-then-not-branch-clause-told : goal.returns-then-not-branch-clause-told
returns-then-not-branch-clause-told c =
    c.stopped.ensures.told c.args.map.now c.args.gaps (c.in_ok-sweep_over.ensures.stopped c.if-not-branch.true).meet

pub returns-then-not-branch-clause-exact : goal.returns-then-not-branch-clause-exact
returns-then-not-branch-clause-exact c = λ exact. c.stopped.ensures.exact ((c.in_ok-sweep_over.ensures.stopped c.if-not-branch.true).exact exact)

pub planar-swept-requires-clause-planar : goal.planar-swept-requires-clause-planar
planar-swept-requires-clause-planar c =
    let end = c.in_ok-sweep_over.ensures.passed c.if-not-branch.false in
    planar widest c.args.map.now.chains c.requires.wide
    (all_tested c.args.gaps c.sweep_over.new.notes c.args.map.now c.args.events.now end.0 end.1) c.requires.vertices

pub planar-swept-requires-clause-marks : goal.planar-swept-requires-clause-marks
planar-swept-requires-clause-marks c = let end = c.in_ok-sweep_over.ensures.passed c.if-not-branch.false in end.1.marks

pub into_gaps-requires-clause-near : goal.into_gaps-requires-clause-near
into_gaps-requires-clause-near c = all_near c.args.map.now.chains c.requires.proper c.requires.ranges

pub into_gaps-requires-clause-planar : goal.into_gaps-requires-clause-planar
into_gaps-requires-clause-planar c =
    let end = c.in_ok-sweep_over.ensures.passed c.if-not-branch.false in
    planar widest c.args.map.now.chains c.requires.wide
    (all_tested c.args.gaps c.sweep_over.new.notes c.args.map.now c.args.events.now end.0 end.1) c.requires.vertices

pub into_gaps-requires-clause-watched : goal.into_gaps-requires-clause-watched
into_gaps-requires-clause-watched c =
    let end = c.in_ok-sweep_over.ensures.passed c.if-not-branch.false in
    all_watched c.args.gaps c.sweep_over.new.notes c.args.map.now c.args.events.now end.0 end.1

pub returns-clause-told : goal.returns-clause-told
returns-clause-told c =
    let end = c.in_ok-sweep_over.ensures.passed c.if-not-branch.false in
    record {
      answer = c.planar-swept.ensures;
      marks = λ p marked. end.1.marks.placed p (subst (λ l. slice_index_or l p false ≡ true) c.into_marks.ensures marked);
      gaps = λ planar. subst (λ asked. AreTrueGaps c.args.map.now.chains asked c.in_ok-gaps.gaps.items) end.1.same c.in_ok-gaps.ensures;
    }
