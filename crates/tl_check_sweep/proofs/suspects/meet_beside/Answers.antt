use Rattle.std.proofs.Common.{inl, inr, ⊎_elim, arith}
use Rattle.tl_check_active.proofs.Listing.{own}
use Rattle.tl_check_planar.proofs.Numbering.{below_total}
use Rattle.tl_check_sweep.proofs.Touching.{both_ended, free_by_number}
use Rattle.tl_check_sweep.proofs.suspects.meet_beside.Goals as goal
use Rattle.tl_check_sweep.proofs.suspects.meet_beside.Goals.{then-s-count-via-then-s-count, then-s-count-via-else-s-count+then-t-count}

pub returns-then-s-count-clause-none : goal.returns-then-s-count-clause-none
returns-then-s-count-clause-none c = λ none u w one other.
    let chains = c.args.map.now.chains in
    let count = c.segments-count.ensures.count in
    let few = below_total chains c.args.s one.c one.k one.number in
    let few' = below_total chains c.args.t other.c other.k other.number in
    elim c.then-s-count.branch [
      | then-s-count-via-then-s-count h ↦ let past = h.if-s-count.true in absurd (omega (arith, count, few, past))
      | then-s-count-via-else-s-count+then-t-count h ↦ let past = h.if-t-count.true in absurd (omega (arith, count, few', past))
    ]

pub returns-in-Apart : goal.returns-in-Apart
returns-in-Apart c = record {
  meet = tt;
  none = λ none.
      let chains = c.args.map.now.chains in
      λ u w. free_by_number chains c.args.s c.args.t c.segment.result c.segment-2.result u w
      (own chains c.args.s c.segment.result c.segment.ensures) (own chains c.args.t c.segment-2.result c.segment-2.ensures)
      (⊎_elim (λ apart. inl (c.contact.ensures.apart.0 apart)) (λ ends. inr (ends.0, (c.contact.ensures.at_ends ends.0).0 ends.1)) c.in-Apart.is);
}

pub returns-in-Crossing-clause-none : goal.returns-in-Crossing-clause-none
returns-in-Crossing-clause-none c = λ none u w one other.
    let chains = c.args.map.now.chains in
    absurd (c.in-Crossing.ensures.not_both_ends (both_ended chains c.requires.proper c.in-Crossing.field-0 c.args.s c.args.t c.segment.result c.segment-2.result
    (own chains c.args.s c.segment.result c.segment.ensures) (own chains c.args.t c.segment-2.result c.segment-2.ensures) c.requires.two
    (c.meet_about.ensures.pair none) (c.meet_about.ensures.first none) (c.meet_about.ensures.second none) c.in-Crossing.ensures.shared))
