use Rattle.tl_check_inside.proofs.Stripping.{strip_more}
use Rattle.tl_check_inside.proofs.strips.strip_of.Goals as goal

pub loop-site-preserved : goal.loop-site-preserved
loop-site-preserved c =
    strip_more c.loop-site.strip c.ray_of.result c.join-strip.result c.args.sites.now c.loop-site.site-index _ c.loop-site.invariant c.loop-site-test.true c.ray_of.ensures.rect c.ray_of.ensures.reach
    c.join-strip.ensures.holds_first c.join-strip.ensures.holds_second
