use Rattle.std.proofs.Common.{◌≡◌, ◌∙◌, ap, ap₂, rules}
use Rattle.std.specs.Int.{w64, w128}
use mir.Val.{to_z, of_z}
use Rattle.tigertopo_pictures.specs.declared.svg.frame.Position.{Position}
use Rattle.tigertopo_pictures.specs.Svg.Frames.{lean, first_corner, last_corner}
use Rattle.tigertopo_pictures.proofs.SvgLemmas.FrameLemmas.{same_four}
use Rattle.tigertopo_pictures.proofs.svg.lean.is_beside.Goals as goal

pub returns : goal.returns
returns c =
    let f = c.args.frame in
    let line = lean f c.args.p c.args.q in
    let ka : to_z w128 (of_z w128 c.lean-a.result) ≡ c.lean-a.result = search rules in
    let kb : to_z w128 (of_z w128 c.lean-b.result) ≡ c.lean-b.result = search rules in
    let kc : to_z w128 (of_z w128 c.lean-c.result) ≡ c.lean-c.result = search rules in
    let kd : to_z w128 (of_z w128 c.lean-d.result) ≡ c.lean-d.result = search rules in
    let kept_west : to_z w64 (of_z w64 c.args.first.x) ≡ c.args.first.x = search rules in
    let kept_north : to_z w64 (of_z w64 c.args.first.y) ≡ c.args.first.y = search rules in
    let kept_east : to_z w64 (of_z w64 c.args.last.x) ≡ c.args.last.x = search rules in
    let kept_south : to_z w64 (of_z w64 c.args.last.y) ≡ c.args.last.y = search rules in
    let west : to_z w64 (of_z w64 c.args.first.x) ≡ (first_corner f).x = kept_west ∙ ap (λ (p : Position). p.x) c.requires.first in
    let north : to_z w64 (of_z w64 c.args.first.y) ≡ (first_corner f).y = kept_north ∙ ap (λ (p : Position). p.y) c.requires.first in
    let east : to_z w64 (of_z w64 c.args.last.x) ≡ (last_corner f).x = kept_east ∙ ap (λ (p : Position). p.x) c.requires.last in
    let south : to_z w64 (of_z w64 c.args.last.y) ≡ (last_corner f).y = kept_south ∙ ap (λ (p : Position). p.y) c.requires.last in
    c.are_one_sided.ensures
    ∙ same_four _ _ _ _ _ _ _ _ (ka ∙ c.lean-a.ensures ∙ ap₂ line west north) (kb ∙ c.lean-b.ensures ∙ ap₂ line west south) (kc ∙ c.lean-c.ensures ∙ ap₂ line east north)
    (kd ∙ c.lean-d.ensures ∙ ap₂ line east south)
