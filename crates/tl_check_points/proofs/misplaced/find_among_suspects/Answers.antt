use Rattle.std.proofs.Common.{subst}
use Rattle.tl_check_inside.specs.Placed.{IsTrueMisplaced}
use Rattle.tl_check_inside.proofs.Misplacing.{told_none}
use Rattle.tl_check_inside.proofs.Stripping.{placed_answer}
use Rattle.tl_check_points.specs.Keeping.Left.{AreLeft}
use Rattle.tl_check_points.proofs.Leaving.{left_placed}
use Rattle.tl_check_points.proofs.Suspecting.{all_placed}
use Rattle.tl_check_points.proofs.misplaced.find_among_suspects.Goals as goal

pub returns : goal.returns
returns c =
    placed_answer (IsTrueMisplaced c.args.map.now) c.find_along_rays.result
    (λ others. all_placed c.args.map.now c.args.suspects.now _ c.requires c.in_ok-sites.ensures.polygons
    (left_placed c.args.map.now _ c.find_by_counts.new.others.items
    (subst (λ sites. AreLeft c.args.map.now sites c.find_by_counts.new.others.items) c.deref.ensures.value
    (told_none _ _ c.in_ok-found.field-0 c.in-None.is c.in_ok-found.ensures.found)) others))
    c.find_along_rays.ensures
