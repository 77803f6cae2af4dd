use Rattle.std.proofs.Common.{◌∙◌, arith}
use Rattle.std.proofs.lemmas.List.{take_all}
use Rattle.std.proofs.lemmas.Result.{err_from_is_err_and}
use Rattle.tl_check_inside.proofs.Sites.{site_more}
use Rattle.tl_check_points.proofs.Suspecting.{polygon_more}
use Rattle.tl_check_points.proofs.sites.sites_of.Goals as goal

pub loop-k-preserved : goal.loop-k-preserved
loop-k-preserved c = record {
  sites = site_more c.args.map.now c.loop-k.sites.items c.push_site.new.sites.items c.site_of.result c.in_ok-push_site.ensures c.loop-k.invariant.sites c.site_of.ensures.site;
  polygons = polygon_more c.args.polygons.now c.loop-k.sites.items c.push_site.new.sites.items c.loop-k.k _ c.site_of.result c.loop-k-test.true c.loop-k.invariant.polygons
      c.in_ok-push_site.ensures c.site_of.ensures.polygon;
}

pub returns-clause-sites : goal.returns-clause-sites
returns-clause-sites c = c.loop-k.invariant.sites

pub returns-clause-polygons : goal.returns-clause-polygons
returns-clause-polygons c = c.loop-k.invariant.polygons ∙ take_all c.loop-k.k c.args.polygons.now (omega (arith, c.loop-k-test.false))

pub returns-in_err-push_site-clause-sites : goal.returns-in_err-push_site-clause-sites
returns-in_err-push_site-clause-sites c = let p = err_from_is_err_and c.from_residual.result c.from_residual.ensures.1 in rw p.1 tt

pub returns-in_err-push_site-clause-polygons : goal.returns-in_err-push_site-clause-polygons
returns-in_err-push_site-clause-polygons c = let p = err_from_is_err_and c.from_residual.result c.from_residual.ensures.1 in rw p.1 tt
