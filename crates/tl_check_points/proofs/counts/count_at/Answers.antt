use Rattle.std.proofs.Common.{length, All, sym, subst}
use Rattle.std.proofs.lemmas.List.Sorted.{All-permutation}
use Rattle.tl_map_county.specs.Segments.{segments_before}
use Rattle.tl_check_active.proofs.Joining.{joined_moved}
use Rattle.tl_check_points.specs.Keeping.Visits.{IsVisit}
use Rattle.tl_check_points.proofs.Known.{none_known}
use Rattle.tl_check_points.proofs.counts.count_at.Goals as goal

pub sweep-requires-clause-events : goal.sweep-requires-clause-events
sweep-requires-clause-events c =
    joined_moved c.args.map.now.chains (segments_before c.args.map.now.chains (length c.args.map.now.chains)) _ _ c.in_ok-sort.ensures.moved c.in_ok-events.ensures.events

pub visit_all-requires-clause-visits : goal.visit_all-requires-clause-visits
visit_all-requires-clause-visits c =
    let visits = IsVisit (length c.args.map.now.polygons) c.args.map.now.chains c.args.sites.now in
    subst (λ gaps. All (visits gaps) c.deref-3.result.now) (sym c.deref-2.ensures.value)
    (subst (All (visits c.in_ok-labels.field-0.labels.gaps.items)) (sym c.deref-3.ensures.value)
    (All-permutation (visits c.in_ok-labels.field-0.labels.gaps.items) _ _ c.in_ok-sort_along.ensures c.in_ok-labels.ensures))

pub visit_all-requires-clause-counts : goal.visit_all-requires-clause-counts
visit_all-requires-clause-counts c = none_known c.args.map.now.chains c.args.sites.now c.in_ok-counts.counts c.in_ok-counts.ensures.none

pub returns-then-not-are_rising-clause-counts : goal.returns-then-not-are_rising-clause-counts
returns-then-not-are_rising-clause-counts c = none_known c.args.map.now.chains c.args.sites.now c.in_ok-counts.counts c.in_ok-counts.ensures.none

pub returns-then-sites-le-FEW-clause-long : goal.returns-then-sites-le-FEW-clause-long
returns-then-sites-le-FEW-clause-long c = c.in_ok-counts.ensures.long

pub returns-then-sites-le-FEW-clause-counts : goal.returns-then-sites-le-FEW-clause-counts
returns-then-sites-le-FEW-clause-counts c = none_known c.args.map.now.chains c.args.sites.now c.in_ok-counts.counts c.in_ok-counts.ensures.none

pub returns-then-not-are_rising-clause-long : goal.returns-then-not-are_rising-clause-long
returns-then-not-are_rising-clause-long c = c.in_ok-counts.ensures.long

pub sweep-requires-clause-ranges : goal.sweep-requires-clause-ranges
sweep-requires-clause-ranges c = c.in_ok-events.ensures.ranges

pub sweep-requires-clause-rising : goal.sweep-requires-clause-rising
sweep-requires-clause-rising c = c.are_rising.ensures c.if-not-are_rising.false

pub visit_all-requires-clause-long : goal.visit_all-requires-clause-long
visit_all-requires-clause-long c = c.in_ok-counts.ensures.long

pub returns-clause-long : goal.returns-clause-long
returns-clause-long c = c.in_ok-visit_all.ensures.long

pub returns-clause-counts : goal.returns-clause-counts
returns-clause-counts c = c.in_ok-visit_all.ensures.counts
