use Rattle.std.proofs.Common.{◌≡◌, ◌<◌, false, true, length, ap, subst, arith}
use Rattle.std.specs.Prelude.{slice_index_or}
use Rattle.std.proofs.lemmas.Option.{slice_get_within}
use Rattle.tl_check_gaps.proofs.spots.InnerPoints.are_placed.Goals as goal

pub returns : goal.returns
returns c = λ h p polygon e.
    let within : p < length c.args.map.now.polygons = slice_get_within c.args.map.now.polygons p polygon e in
    let long = c.requires.long in
    let same = ap length c.deref.ensures.value in
    c.requires.placed p (subst (λ marks. slice_index_or marks p false ≡ true) c.deref.ensures.value (c.are_all.ensures h p (omega (arith, within, long, same)))) polygon e
