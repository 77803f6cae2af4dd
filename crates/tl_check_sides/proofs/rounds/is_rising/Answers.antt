use Rattle.std.proofs.Common.{suc, sym}
use Rattle.std.proofs.lemmas.Bool.{false≢true}
use Rattle.tl_check_sides.proofs.ListLemmas.{under}
use Rattle.tl_check_sides.proofs.RisingFacts.{rise_first, rise_more, falls_at, not_less}
use Rattle.tl_check_sides.proofs.rounds.is_rising.Goals as goal

pub loop-place-init : goal.loop-place-init
loop-place-init c = rise_first c.args.map.now.chains c.args.round.now c.dart_heading-heading.result c.dart_heading-heading.ensures

pub returns-in-Equal : goal.returns-in-Equal
returns-in-Equal c = record {
  rising = λ is. absurd (false≢true is);
  headed = λ is. absurd (false≢true is);
  fall = λ no. falls_at c.args.map.now.chains c.args.round.now c.loop-place.place c.loop-place.heading c.dart_heading-behind.result c.loop-place.invariant c.loop-place-test.true c.dart_heading-behind.ensures (λ b. not_less c.round_cmp.result (c.round_cmp.ensures.below.1 b) c.in-Equal.is);
}

pub loop-place-preserved : goal.loop-place-preserved
loop-place-preserved c = rise_more c.args.map.now.chains c.args.round.now c.loop-place.place c.loop-place.heading c.dart_heading-behind.result c.loop-place.invariant c.dart_heading-behind.ensures (c.round_cmp.ensures.below.0 c.in-Less.is)

pub returns-clause-rising : goal.returns-clause-rising
returns-clause-rising c = λ is k h. c.loop-place.invariant.rising k (under (suc k) _ c.loop-place.place h c.loop-place-test.false)

pub returns-clause-headed : goal.returns-clause-headed
returns-clause-headed c = λ is k h. c.loop-place.invariant.headed k (under k _ c.loop-place.place h c.loop-place-test.false)

pub returns-clause-fall : goal.returns-clause-fall
returns-clause-fall c = λ no. absurd (false≢true (sym no))

pub dart_heading-heading-requires : goal.dart_heading-heading-requires
dart_heading-heading-requires c = c.requires.darts 0 c.requires.some

pub dart_heading-behind-requires : goal.dart_heading-behind-requires
dart_heading-behind-requires c = c.requires.darts c.loop-place.place c.loop-place-test.true
