use Rattle.std.proofs.Common.{ap, length, arith}
use Rattle.std.proofs.lemmas.List.{length_push}
use Rattle.std.proofs.lemmas.Result.{err_from_is_err_and}
use Rattle.tl_map.proofs.LandmarkLemmas.{links_more}
use Rattle.tl_map.proofs.landmarks.resolve_links.Goals as goal

pub loop-link-preserved : goal.loop-link-preserved
loop-link-preserved c = record {
  count = omega (arith, ap length c.in_ok-push.ensures.items, length_push c.loop-link.made.items c.in-Some.resolved, c.loop-link.invariant.count);
  are = λ ks ns h g. rw c.in_ok-push.ensures.items (links_more ks ns c.args.links.now c.loop-link.made.items c.loop-link.link-index _ _ c.loop-link.invariant.count c.loop-link-test.true (c.in-Some.ensures ks ns h g) (c.loop-link.invariant.are ks ns h g));
}

pub returns-in_err-made-clause-ok : goal.returns-in_err-made-clause-ok
returns-in_err-made-clause-ok c = λ ks ns h g.
    let p = err_from_is_err_and c.from_residual.result c.from_residual.ensures.1 in
    rw p.1 tt

pub returns-in_err-made-clause-stops : goal.returns-in_err-made-clause-stops
returns-in_err-made-clause-stops c = λ ks ns h g.
    let p = err_from_is_err_and c.from_residual.result c.from_residual.ensures.1 in
    rw (p.1, p.2) tt

pub returns-in_err-push-clause-ok : goal.returns-in_err-push-clause-ok
returns-in_err-push-clause-ok c = λ ks ns h g.
    let p = err_from_is_err_and c.from_residual-in_err-push.result c.from_residual-in_err-push.ensures.1 in
    rw p.1 tt

pub returns-in_err-push-clause-stops : goal.returns-in_err-push-clause-stops
returns-in_err-push-clause-stops c = λ ks ns h g.
    let p = err_from_is_err_and c.from_residual-in_err-push.result c.from_residual-in_err-push.ensures.1 in
    rw (p.1, p.2) tt

pub returns-clause-stops : goal.returns-clause-stops
returns-clause-stops c = λ ks ns h g. tt

pub resolve_link-requires-clause-polygons : goal.resolve_link-requires-clause-polygons
resolve_link-requires-clause-polygons c = c.requires.polygons

pub resolve_link-requires-clause-landmarks : goal.resolve_link-requires-clause-landmarks
resolve_link-requires-clause-landmarks c = c.requires.landmarks
