use Rattle.std.proofs.Common.{length, sym, subst, ◌∙◌, refl}
use Rattle.tl_check_gaps.specs.Keeping.Facing.{raised}
use Rattle.tl_check_active.specs.Events.{before, joined}
use Rattle.tl_check_gaps.specs.Keeping.Swept.{IsSwept}
use Rattle.tl_check_points.specs.Keeping.Labels.{AreLabelled}
use Rattle.tl_check_points.proofs.visits.visit_below.Goals as goal

pub loop-place-init : goal.loop-place-init
loop-place-init c = record { stays = refl; visits = c.requires.visits }

pub visit_at-requires-clause-swept : goal.visit_at-requires-clause-swept
visit_at-requires-clause-swept c = subst (IsSwept c.args.map.now.chains (joined c.args.events.now) (before c.args.from c.args.events.now)) (sym c.loop-place.invariant.stays) c.requires.swept

pub visit_at-requires-clause-labelled : goal.visit_at-requires-clause-labelled
visit_at-requires-clause-labelled c =
    subst (AreLabelled (length c.args.map.now.polygons) (raised c.args.map.now.chains) c.args.labels.now.gaps.items c.args.labels.now.labels.items)
    (sym c.loop-place.invariant.stays) c.requires.labelled

pub loop-place-preserved : goal.loop-place-preserved
loop-place-preserved c = record { stays = c.in_ok-visit_at.ensures.list ∙ c.loop-place.invariant.stays; visits = c.in_ok-visit_at.ensures.visits }
