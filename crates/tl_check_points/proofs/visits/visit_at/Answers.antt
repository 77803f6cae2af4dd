use Rattle.std.proofs.Common.{◌<◌, length, All, refl, sym, subst}
use Rattle.tl_check_active.proofs.Wide.{wide_by_range}
use Rattle.tl_check_gaps.specs.Keeping.Facing.{raised}
use Rattle.std.proofs.lemmas.List.Elements.{All-push}
use Rattle.std.proofs.lemmas.Option.{slice_get-get_or}
use Rattle.tl_check_points.specs.Keeping.Labels.{AreLabelled}
use Rattle.tl_check_points.specs.Keeping.Visits.{IsVisit}
use Rattle.tl_check_points.proofs.Labelled.{labelled_behind}
use Rattle.tl_check_points.proofs.Seen.{visited}
use Rattle.tl_check_points.proofs.visits.visit_at.Goals as goal

pub returns-in_ok-push-clause-visits : goal.returns-in_ok-push-clause-visits
returns-in_ok-push-clause-visits c =
    let n = length c.args.map.now.polygons in
    let chains = raised c.args.map.now.chains in
    let gaps = c.args.labels.now.gaps.items in
    let labels = c.args.labels.now.labels.items in
    let lt : c.args.place < length c.args.sites.now = c.if-place-sites.false in
    let labelled = subst (AreLabelled n chains gaps labels) (sym c.in_ok-stands_between.ensures.list) c.requires.labelled in
    subst (All (IsVisit n c.args.map.now.chains c.args.sites.now gaps)) (sym c.in_ok-push.ensures.items)
    (All-push (IsVisit n c.args.map.now.chains c.args.sites.now gaps) c.args.visits.now.items _ c.requires.visits
    (visited n c.args.map.now.chains (wide_by_range c.args.map.now.chains c.requires.ranges) _ (c.in_ok-stands_between.ensures.vertex c.if-branch.true)
    c.stands_between.new.line.front c.stands_between.new.line.back (c.in_ok-stands_between.ensures.between c.if-branch.true) c.args.sites.now gaps _ _
    (slice_get-get_or c.args.sites.now c.args.place _ lt) refl
    (c.gap_at-gap.ensures n chains (labelled_behind n chains gaps labels c.stands_between.new.line.front c.stands_between.new.line.back labelled))))
