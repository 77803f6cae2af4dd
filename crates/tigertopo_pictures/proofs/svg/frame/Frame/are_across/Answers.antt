use Rattle.std.proofs.Common.{◌∙◌, ap₂}
use Rattle.std.specs.Prelude.{◌&&◌}
use Rattle.tigertopo_pictures.specs.declared.svg.frame.Position.{Position}
use Rattle.tigertopo_pictures.specs.Svg.Frames.{is_across}
use Rattle.tigertopo_pictures.proofs.svg.frame.Frame.are_across.Goals as goal

pub returns : goal.returns
returns c =
    c.are_within.ensures
    ∙ ap₂ (λ (first last : Position). is_across first.x last.x c.args.a.x c.args.b.x && is_across first.y last.y c.args.a.y c.args.b.y) c.first_corner.ensures c.last_corner.ensures
