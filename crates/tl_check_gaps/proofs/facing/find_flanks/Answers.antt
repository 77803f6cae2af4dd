use Rattle.std.proofs.Common.{arith, refl, sym, ◌∙◌}
use Rattle.tl_check_planar.specs.Keeping.Apart.{one_found}
use Rattle.tl_check_planar.proofs.Numbering.{below_total}
use Rattle.tl_check_gaps.proofs.Odd.{both_named}
use Rattle.tl_check_gaps.proofs.facing.find_flanks.Goals as goal

pub returns-then-s-segments : goal.returns-then-s-segments
returns-then-s-segments c = record {
  flanks = λ flanks e. absurd (cc);
  named = λ segment is.
      let below = below_total c.args.map.now.chains c.args.s is.c is.k is.number in
      let all = c.if-s-segments.true in
      let count = c.segments.ensures.count in
      omega (arith, below, all, count);
}

pub returns : goal.returns
returns c = record {
  flanks = λ flanks e.
      sym (one_found c.flanks_by_height.result flanks _ refl e)
      ∙ both_named c.args.map.now.chains c.args.s c.flanks_by_height.result c.flanks_by_height.ensures.west c.flanks_by_height.ensures.east;
  named = (c.flanks_by_height.ensures.west, c.flanks_by_height.ensures.east);
}
