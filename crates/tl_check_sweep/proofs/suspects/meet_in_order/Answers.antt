use Rattle.std.proofs.Common.{◌<◌, length, subst, sym, arith}
use Rattle.std.proofs.lemmas.Option.{slice_get_within}
use Rattle.tl_map_county.specs.Segments.{segments_before}
use Rattle.tl_check_planar.specs.Meets.{AreFree}
use Rattle.tl_check_planar.specs.Searching.{MayTell}
use Rattle.tl_check_planar.proofs.Numbering.{below_total}
use Rattle.tl_check_planar.proofs.Meetings.{true_meet}
use Rattle.tl_check_sweep.proofs.suspects.meet_in_order.Goals as goal
use Rattle.tl_check_sweep.proofs.suspects.meet_in_order.Goals.{then-s-t-via-then-s-t, then-s-t-via-else-s-t+then-t-segments}

pub returns-clause-meet : goal.returns-clause-meet
returns-clause-meet c =
    let below = c.if-s-t.false in
    let listed = c.if-t-segments.false in
    let count = c.segments.ensures.count in
    true_meet c.args.map.now.chains c.new.result
    (record { tlid = c.chain.result.tlid; s = c.args.s; other = c.chain-2.result.tlid; t = c.args.t; at = c.in_ok-at.at }) c.new.ensures
    (record {
      ordered = omega (arith, below);
      known = subst (λ cs. c.args.t < segments_before cs (length cs)) (sym c.new.ensures) (omega (arith, listed, count));
      told = subst (MayTell c.new.result c.args.s c.args.t) c.in_ok-at.was c.conflict.ensures;
    })
    (record { c = c.segment_chain.result; k = c.segment_chain.ensures.0; number = c.segment_chain.ensures.1; chain = c.chain.ensures.chain.chain; is = c.chain.ensures.chain.is; tlid_is = c.chain.ensures.chain.tlid_is })
    (record { c = c.segment_chain-2.result; k = c.segment_chain-2.ensures.0; number = c.segment_chain-2.ensures.1; chain = c.chain-2.ensures.chain.chain; is = c.chain-2.ensures.chain.is; tlid_is = c.chain-2.ensures.chain.tlid_is })

pub returns-then-s-t-clause-none : goal.returns-then-s-t-clause-none
returns-then-s-t-clause-none c = λ n lt r m. elim c.then-s-t.branch [
  | then-s-t-via-then-s-t w ↦ absurd (let ge = w.if-s-t.true in omega (arith, lt, ge))
  | then-s-t-via-else-s-t+then-t-segments w ↦
      let past = w.if-t-segments.true in
      let count = w.segments.ensures.count in
      let below = below_total c.args.map.now.chains c.args.t m.d m.j m.second in
      absurd (omega (arith, past, count, below))
]

pub returns-in_err-at-clause-none : goal.returns-in_err-at-clause-none
returns-in_err-at-clause-none c = λ n lt.
    subst (λ cs. AreFree cs c.args.s c.args.t) c.new.ensures (subst (MayTell c.new.result c.args.s c.args.t) c.in_err-at.was c.conflict.ensures)

pub conflict-requires-clause-ordered : goal.conflict-requires-clause-ordered
conflict-requires-clause-ordered c = c.if-s-t.false

pub conflict-requires-clause-known : goal.conflict-requires-clause-known
conflict-requires-clause-known c = let listed = c.if-t-segments.false in let count = c.segments.ensures.count in subst (λ cs. c.args.t < segments_before cs (length cs)) (sym c.new.ensures) (omega (arith, listed, count))

pub segment_chain-requires : goal.segment_chain-requires
segment_chain-requires c = let below = c.if-s-t.false in let listed = c.if-t-segments.false in let count = c.segments.ensures.count in omega (arith, below, listed, count)

pub segment_chain-requires-2 : goal.segment_chain-requires-2
segment_chain-requires-2 c = let listed = c.if-t-segments.false in let count = c.segments.ensures.count in omega (arith, listed, count)

pub chain-requires : goal.chain-requires
chain-requires c = slice_get_within c.args.map.now.chains c.segment_chain.result c.segment_chain.ensures.1.chain c.segment_chain.ensures.1.is

pub chain-requires-2 : goal.chain-requires-2
chain-requires-2 c = slice_get_within c.args.map.now.chains c.segment_chain-2.result c.segment_chain-2.ensures.1.chain c.segment_chain-2.ensures.1.is
