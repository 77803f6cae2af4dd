use Rattle.std.proofs.Common.{List, Option, Some, set, ap, ◌∙◌, arith}
use Rattle.tl_check_inside.specs.declared.flanks.Flanks.{Flanks}
use Rattle.tl_check_points.proofs.Parted.{kept_part}
use Rattle.tl_check_points.proofs.counts.PointCounts.keep.Goals as goal

pub returns : goal.returns
returns c =
    kept_part c.self.inside.flanks.items c.args.flanks.now c.extend_from_slice.new.self.items c.self.inside.parts.items c.args.place _ _
    c.in_ok-extend_from_slice.ensures.items c.self.invariant (omega (arith, c.len-from.ensures, c.self.inside.flanks.ok.0))
    (omega (arith, c.len-to.ensures, c.extend_from_slice.new.self.ok.0))
    ∙ ap (λ (l : List (Option (List Flanks))). set l c.args.place (Some c.args.flanks.now)) c.self.view_is
