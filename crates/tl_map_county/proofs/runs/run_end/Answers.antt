use Rattle.std.proofs.Common.{◌≡◌, ◌≢◌, ap, sym, ◌∙◌, arith}
use Rattle.tl_map_county.proofs.ScanLemmas.{scan_at, scan_more}
use Rattle.tl_map_county.proofs.runs.run_end.Goals as goal

pub loop-end-init : goal.loop-end-init
loop-end-init g c = record { within = c.requires; from = omega arith; same = λ k d le lt. absurd (omega (arith, le, lt)) }

pub loop-end-preserved : goal.loop-end-preserved
loop-end-preserved g c = record {
  within = omega (arith, c.loop-end-test.true);
  from = omega (arith, c.loop-end.invariant.from);
  same = scan_more (λ x. g.T.Keyed.key_of x ≡ c.args.key) c.args.items.now c.args.start c.loop-end.end c.index-items-end.result c.loop-end-test.true
      (ap g.T.Keyed.key_of (sym c.index-items-end.is) ∙ sym c.key.ensures ∙ c.if-key.true) c.loop-end.invariant.same;
}

pub returns-else-key : goal.returns-else-key
returns-else-key g c = record {
  within = c.loop-end.invariant.within;
  from = c.loop-end.invariant.from;
  same = c.loop-end.invariant.same;
  stops = scan_at (λ x. g.T.Keyed.key_of x ≢ c.args.key) c.args.items.now c.loop-end.end c.index-items-end.result
      (λ e. c.if-key.false (c.key.ensures ∙ ap g.T.Keyed.key_of c.index-items-end.is ∙ e));
}

pub returns-after-loop-end : goal.returns-after-loop-end
returns-after-loop-end g c = record {
  within = c.loop-end.invariant.within;
  from = c.loop-end.invariant.from;
  same = c.loop-end.invariant.same;
  stops = λ d lt. absurd (omega (arith, lt, c.loop-end-test.false));
}
