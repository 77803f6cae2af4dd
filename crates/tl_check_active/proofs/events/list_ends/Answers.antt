use Rattle.std.proofs.Common.{◌≡◌, ◌<◌, arith, length, subst}
use Rattle.std.proofs.lemmas.Result.{err_from_is_err_and}
use Rattle.tl_map_county.specs.Segments.{segments_before}
use Rattle.tl_check_planar.proofs.Numbering.{below_total}
use Rattle.tl_check_active.specs.Keeping.Ended.{events_in}
use Rattle.tl_check_active.specs.Events.{AreEventsOf, joined}
use Rattle.tl_check_active.proofs.Ending.{none_listed, all_listed}
use Rattle.tl_check_active.proofs.Listing.{no_events}
use Rattle.tl_check_active.proofs.Wide.{wide_by_range}
use Rattle.tl_check_active.proofs.events.list_ends.Goals as goal

pub loop-s-init : goal.loop-s-init
loop-s-init c = none_listed c.args.map.now.chains _ c.in_ok-ends.ensures.items (no_events c.args.map.now.chains)

pub loop-s-preserved : goal.loop-s-preserved
loop-s-preserved c = c.in_ok-is_begun.ensures

pub list_segment-requires-clause-listed : goal.list_segment-requires-clause-listed
list_segment-requires-clause-listed c = c.loop-s.invariant

pub returns-clause-events : goal.returns-clause-events
returns-clause-events c =
    let chains = c.args.map.now.chains in
    let all : c.loop-s.s ≡ segments_before chains (length chains) = omega (arith, c.loop-s-test.false, c.loop-s.auto.s-end, c.segments-count.ensures.count) in
    subst (λ n. AreEventsOf chains n (joined (events_in c.loop-s.ends.items))) all (all_listed chains c.loop-s.s c.loop-s.is_begun c.loop-s.ends.items all c.loop-s.invariant)

pub returns-clause-met : goal.returns-clause-met
returns-clause-met c = c.loop-s.invariant.met

pub returns-clause-ranges : goal.returns-clause-ranges
returns-clause-ranges c = λ s u is.
    let below : s < segments_before c.args.map.now.chains (length c.args.map.now.chains) = below_total c.args.map.now.chains s is.c is.k is.number in
    c.loop-s.invariant.ranges s u (omega (arith, below, c.loop-s-test.false, c.segments-count.ensures.count)) is

pub returns-clause-wide : goal.returns-clause-wide
returns-clause-wide c = wide_by_range c.args.map.now.chains (λ s u is.
    let below : s < segments_before c.args.map.now.chains (length c.args.map.now.chains) = below_total c.args.map.now.chains s is.c is.k is.number in
    c.loop-s.invariant.ranges s u (omega (arith, below, c.loop-s-test.false, c.segments-count.ensures.count)) is)

pub returns-in_err-ends-clause-events : goal.returns-in_err-ends-clause-events
returns-in_err-ends-clause-events c = let p = err_from_is_err_and c.from_residual.result c.from_residual.ensures.1 in rw p.1 tt

pub returns-in_err-ends-clause-met : goal.returns-in_err-ends-clause-met
returns-in_err-ends-clause-met c = let p = err_from_is_err_and c.from_residual.result c.from_residual.ensures.1 in rw p.1 tt

pub returns-in_err-ends-clause-wide : goal.returns-in_err-ends-clause-wide
returns-in_err-ends-clause-wide c = let p = err_from_is_err_and c.from_residual.result c.from_residual.ensures.1 in rw p.1 tt

pub returns-in_err-ends-clause-ranges : goal.returns-in_err-ends-clause-ranges
returns-in_err-ends-clause-ranges c = let p = err_from_is_err_and c.from_residual.result c.from_residual.ensures.1 in rw p.1 tt

pub returns-in_err-is_begun-clause-events : goal.returns-in_err-is_begun-clause-events
returns-in_err-is_begun-clause-events c = let p = err_from_is_err_and c.from_residual-in_err-is_begun.result c.from_residual-in_err-is_begun.ensures.1 in rw p.1 tt

pub returns-in_err-is_begun-clause-met : goal.returns-in_err-is_begun-clause-met
returns-in_err-is_begun-clause-met c = let p = err_from_is_err_and c.from_residual-in_err-is_begun.result c.from_residual-in_err-is_begun.ensures.1 in rw p.1 tt

pub returns-in_err-is_begun-clause-wide : goal.returns-in_err-is_begun-clause-wide
returns-in_err-is_begun-clause-wide c = let p = err_from_is_err_and c.from_residual-in_err-is_begun.result c.from_residual-in_err-is_begun.ensures.1 in rw p.1 tt

pub returns-in_err-is_begun-clause-ranges : goal.returns-in_err-is_begun-clause-ranges
returns-in_err-is_begun-clause-ranges c = let p = err_from_is_err_and c.from_residual-in_err-is_begun.result c.from_residual-in_err-is_begun.ensures.1 in rw p.1 tt
