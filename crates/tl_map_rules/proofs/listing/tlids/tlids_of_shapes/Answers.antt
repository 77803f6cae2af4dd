use Rattle.std.proofs.Common.{map, ap, ◌∙◌, sym}
use Rattle.std.proofs.lemmas.List.{map_more, take_all}
use Rattle.std.proofs.lemmas.Result.{err_from_is_err_and}
use Rattle.tl_map_rules.specs.declared.listing.shape.ShapeSummary.{ShapeSummary}
use Rattle.tl_map_rules.proofs.ListingLemmas.RunLemmas.{nothing}
use Rattle.tl_map_rules.proofs.listing.tlids.tlids_of_shapes.Goals as goal

pub loop-shape-init : goal.loop-shape-init
loop-shape-init c = c.in_ok-tlids.ensures.items

pub loop-shape-preserved : goal.loop-shape-preserved
loop-shape-preserved c = rw (c.in_ok-push.ensures.items, c.loop-shape.invariant) (sym (map_more (λ (s : ShapeSummary). s.tlid) c.args.shapes.now c.loop-shape.shape-index nothing c.loop-shape-test.true))

pub returns : goal.returns
returns c = c.loop-shape.invariant ∙ ap (map (λ (s : ShapeSummary). s.tlid)) (take_all c.loop-shape.shape-index c.args.shapes.now c.loop-shape-test.false)

pub returns-in_err-tlids : goal.returns-in_err-tlids
returns-in_err-tlids c = let p = err_from_is_err_and c.from_residual.result c.from_residual.ensures.1 in rw p.1 tt

pub returns-in_err-push : goal.returns-in_err-push
returns-in_err-push c = let p = err_from_is_err_and c.from_residual-in_err-push.result c.from_residual-in_err-push.ensures.1 in rw p.1 tt
