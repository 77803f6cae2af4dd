use Rattle.std.proofs.Common.{inl, inr, arith}
use Rattle.std.proofs.lemmas.Bool.{cases_lt}
use Rattle.tl_check_planar.proofs.Numbering.{in_order, below_total}
use Rattle.tl_check_sweep.proofs.suspects.begin_of_chain.Goals as goal
use Rattle.tl_check_sweep.proofs.suspects.begin_of_chain.Goals.{else-middle-segments-via-then-middle-segments+else-segment_chain-c, else-middle-segments-via-else-middle-segments}

pub loop-low-init : goal.loop-low-init
loop-low-init c = (
  omega arith,
  let count = c.segments-high.ensures.count in omega (arith, count),
  λ x d k lt is. absurd (omega (arith, lt)),
  λ x d k le is.
      let few = below_total c.args.map.now.chains x d k is in
      let count = c.segments-high.ensures.count in
      absurd (omega (arith, le, few, count)),
)

pub loop-low-preserved-then-segment_chain-c : goal.loop-low-preserved-then-segment_chain-c
loop-low-preserved-then-segment_chain-c c = (
  let lt = c.loop-low-test.true in omega (arith, lt),
  c.loop-low.invariant.1,
  λ x d k lt is.
      let low = c.if-segment_chain-c.true in
      elim (cases_lt d c.args.c) [
        | inl below ↦ below
        | inr above ↦
            let past = in_order c.args.map.now.chains _ x _ c.segment_chain.ensures.0 d k c.segment_chain.ensures.1 is (omega (arith, low, above)) in
            absurd (omega (arith, lt, past))
      ],
  c.loop-low.invariant.3,
)

pub loop-low-preserved : goal.loop-low-preserved
loop-low-preserved c = (
  omega arith,
  let lt = c.loop-low-test.true in let few = c.loop-low.invariant.1 in omega (arith, lt, few),
  c.loop-low.invariant.2,
  λ x d k le is. elim c.else-middle-segments.branch [
    | else-middle-segments-via-then-middle-segments+else-segment_chain-c w ↦
        let high = w.if-segment_chain-c.false in
        elim (cases_lt d c.args.c) [
          | inl below ↦
              let past = in_order c.args.map.now.chains x _ d k _ w.segment_chain.ensures.0 is w.segment_chain.ensures.1 (omega (arith, high, below)) in
              absurd (omega (arith, le, past))
          | inr above ↦ above
        ]
    | else-middle-segments-via-else-middle-segments w ↦
        let few = below_total c.args.map.now.chains x d k is in
        let count = c.segments.ensures.count in
        let past = w.if-middle-segments.false in
        absurd (omega (arith, le, few, count, past))
  ],
)
