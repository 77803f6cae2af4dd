use Rattle.std.proofs.Common.{⊎_elim, sym, subst, ◌∙◌, refl}
use Rattle.std.proofs.lemmas.Result.{err_from_is_err_and}
use Rattle.tl_check_gaps.specs.Keeping.Spotted.{IsPlacedPolygon}
use Rattle.tl_check_gaps.specs.Keeping.Facing.{IsCounted}
use Rattle.tl_check_active.specs.Events.{before, joined}
use Rattle.tl_check_gaps.specs.Keeping.Swept.{IsSwept}
use Rattle.tl_check_gaps.proofs.spots.InnerPoints.mark_below.Goals as goal

pub loop-polygon-preserved-then-branch : goal.loop-polygon-preserved-then-branch
loop-polygon-preserved-then-branch c = record {
  stays = c.in_ok-is_placed.ensures.list ∙ c.loop-polygon.invariant.stays;
  marks = record {
    long = c.mark.ensures.long ∙ c.loop-polygon.invariant.marks.long;
    placed = λ p e.
        ⊎_elim (λ k. c.loop-polygon.invariant.marks.placed p k)
        (λ k. subst (IsPlacedPolygon c.args.map.now) (sym k) (c.in_ok-is_placed.ensures.placed c.if-branch.true))
        (c.mark.ensures.only p e);
  };
}

pub loop-polygon-init : goal.loop-polygon-init
loop-polygon-init c = record { stays = refl; marks = c.requires.marks }

pub is_placed-requires-clause-swept : goal.is_placed-requires-clause-swept
is_placed-requires-clause-swept c = subst (IsSwept c.args.map.now.chains (joined c.args.events.now) (before c.args.from c.args.events.now)) (sym c.loop-polygon.invariant.stays) c.requires.swept

pub is_placed-requires-clause-counted : goal.is_placed-requires-clause-counted
is_placed-requires-clause-counted c = subst (IsCounted c.args.map.now.chains c.args.gaps) (sym c.loop-polygon.invariant.stays) c.requires.counted

pub loop-polygon-preserved : goal.loop-polygon-preserved
loop-polygon-preserved c = record { stays = c.in_ok-is_placed.ensures.list ∙ c.loop-polygon.invariant.stays; marks = c.loop-polygon.invariant.marks }

pub returns-clause-list : goal.returns-clause-list
returns-clause-list c = c.loop-polygon.invariant.stays

pub returns-clause-marks : goal.returns-clause-marks
returns-clause-marks c = c.loop-polygon.invariant.marks

pub returns-in_err-is_placed-clause-list : goal.returns-in_err-is_placed-clause-list
returns-in_err-is_placed-clause-list c = let p = err_from_is_err_and c.from_residual.result c.from_residual.ensures.1 in rw p.1 tt

pub returns-in_err-is_placed-clause-marks : goal.returns-in_err-is_placed-clause-marks
returns-in_err-is_placed-clause-marks c = let p = err_from_is_err_and c.from_residual.result c.from_residual.ensures.1 in rw p.1 tt
