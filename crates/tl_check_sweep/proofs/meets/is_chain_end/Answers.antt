use Rattle.std.proofs.Common.{arith}
use Rattle.tl_check_active.proofs.Meeting.{first_end, last_end, differ}
use Rattle.tl_check_sweep.proofs.meets.is_chain_end.Goals as goal

pub returns-else-e-eq0 : goal.returns-else-e-eq0
returns-else-e-eq0 c = λ h.
    first_end c.args.map.now.chains c.args.e _ c.if-e.true (λ some. c.segment_chain.ensures) c.segment_chain-own.result c.segment_chain-own.ensures (λ some. differ _ _ h)

pub returns-then-e-count : goal.returns-then-e-count
returns-then-e-count c = λ h.
    let count = c.segments-count.ensures.count in
    let last = c.if-e-count.true in
    last_end c.args.map.now.chains c.args.e 0 c.if-e.false c.segments-count.result c.segments-count.ensures.count (λ more. absurd (omega (arith, more, last))) c.segment_chain-own.result c.segment_chain-own.ensures (λ more. absurd (omega (arith, more, last)))

pub returns-else-e-count : goal.returns-else-e-count
returns-else-e-count c = λ h.
    last_end c.args.map.now.chains c.args.e _ c.if-e.false c.segments-count.result c.segments-count.ensures.count (λ more. c.segment_chain-else-e-count.ensures) c.segment_chain-own.result c.segment_chain-own.ensures (λ more. differ _ _ h)
