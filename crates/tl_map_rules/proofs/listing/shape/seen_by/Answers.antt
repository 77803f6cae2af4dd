use Rattle.std.proofs.Common.{pos, Option, Some, None, get_or, ap, ◌∙◌, sym}
use Rattle.std.proofs.lemmas.List.Sums.{fold_more}
use Rattle.tl_geom.specs.declared.point.Point.{Point}
use Rattle.tl_map_rules.specs.declared.listing.shape.Trace.{Trace}
use Rattle.tl_map_rules.specs.Listing.Shapes.{traced}
use Rattle.tl_map_rules.proofs.listing.shape.seen_by.Goals as goal

pub loop-point-preserved : goal.loop-point-preserved
loop-point-preserved c =
    let d : Point = record { x = pos 0; y = pos 0 } in
    let p : Point = get_or c.args.points.now c.loop-point.point-index d in
    ap Some (c.with_point.ensures ∙ ap (λ (t : Option Trace). traced t p) c.loop-point.invariant)
    ∙ sym (fold_more (λ (t : Option Trace) (q : Point). Some (traced t q)) None c.args.points.now c.loop-point.point-index d c.loop-point-test.true)
