use Rattle.std.proofs.Common.{◌≤◌, refl, subst}
use Rattle.std.proofs.lemmas.Result.{err_from_is_err_and}
use Rattle.tl_check_inside.proofs.Sites.{site_more, whole_more}
use Rattle.tl_check_inside.proofs.Stripping.{under}
use Rattle.tl_check_inside.proofs.strips.sites_of.Goals as goal

pub loop-polygon-preserved : goal.loop-polygon-preserved
loop-polygon-preserved c = record {
  sites = site_more c.args.map.now c.loop-polygon.sites.items c.push_site.new.sites.items (record { polygon = c.loop-polygon.polygon; point = c.polygon.result.point }) c.in_ok-push_site.ensures c.loop-polygon.invariant.sites
      (record { polygon = c.polygon.result; is = c.polygon.ensures; point = refl });
  whole = whole_more c.loop-polygon.sites.items c.push_site.new.sites.items (record { polygon = c.loop-polygon.polygon; point = c.polygon.result.point }) c.in_ok-push_site.ensures c.loop-polygon.invariant.whole;
}

pub returns-clause-sites : goal.returns-clause-sites
returns-clause-sites c = c.loop-polygon.invariant.sites

pub returns-in_err-push_site-clause-sites : goal.returns-in_err-push_site-clause-sites
returns-in_err-push_site-clause-sites c = let p = err_from_is_err_and c.from_residual.result c.from_residual.ensures.1 in rw p.1 tt

pub returns-in_err-push_site-clause-whole : goal.returns-in_err-push_site-clause-whole
returns-in_err-push_site-clause-whole c = let p = err_from_is_err_and c.from_residual.result c.from_residual.ensures.1 in rw p.1 tt

pub returns-clause-whole : goal.returns-clause-whole
returns-clause-whole c = λ p lt. c.loop-polygon.invariant.whole p (under p _ c.loop-polygon.polygon lt (subst (λ n. n ≤ c.loop-polygon.polygon) c.polygons-polygon-end.ensures c.loop-polygon-test.false))
