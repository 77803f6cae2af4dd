use Rattle.std.proofs.Common.{◌<◌, ◌≤◌, ap, subst, ◌∙◌, arith}
use Rattle.tl_map_county.proofs.ScanLemmas.{scan_at, scan_more}
use Rattle.tl_map_county.proofs.runs.first_not_below.Goals as goal

pub loop-place-init : goal.loop-place-init
loop-place-init g c = record { within = c.requires; from = omega arith; below = λ k d le lt. absurd (omega (arith, le, lt)) }

pub loop-place-preserved : goal.loop-place-preserved
loop-place-preserved g c = record {
  within = omega (arith, c.loop-place-test.true);
  from = omega (arith, c.loop-place.invariant.from);
  below = scan_more (λ x. g.T.Keyed.key_of x < c.args.key) c.args.items.now c.args.start c.loop-place.place c.index-items-place.result c.loop-place-test.true
      (subst (λ n. n < c.args.key) (c.key.ensures ∙ ap g.T.Keyed.key_of c.index-items-place.is) c.if-key.true) c.loop-place.invariant.below;
}

pub returns-else-key : goal.returns-else-key
returns-else-key g c = record {
  within = c.loop-place.invariant.within;
  from = c.loop-place.invariant.from;
  below = c.loop-place.invariant.below;
  stops = scan_at (λ x. c.args.key ≤ g.T.Keyed.key_of x) c.args.items.now c.loop-place.place c.index-items-place.result
      (subst (λ n. c.args.key ≤ n) (c.key.ensures ∙ ap g.T.Keyed.key_of c.index-items-place.is) c.if-key.false);
}

pub returns-after-loop-place : goal.returns-after-loop-place
returns-after-loop-place g c = record {
  within = c.loop-place.invariant.within;
  from = c.loop-place.invariant.from;
  below = c.loop-place.invariant.below;
  stops = λ d lt. absurd (omega (arith, lt, c.loop-place-test.false));
}
