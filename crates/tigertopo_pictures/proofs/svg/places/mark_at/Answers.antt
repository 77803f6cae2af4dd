use Rattle.std.proofs.Common.{◌≡◌, ◌∙◌, ap, ap₂, pos, ◌+ℤ◌, ◌-ℤ◌, ◌*◌, unsigned_abs, refl, rules}
use Rattle.std.specs.Int.{w32, w64, w128}
use mir.Val.{to_z, of_z}
use Rattle.tigertopo_pictures.specs.Svg.Frames.{east, south}
use Rattle.tigertopo_pictures.specs.Svg.Pictures.{part_of}
use Rattle.tigertopo_pictures.proofs.SvgLemmas.PlaceLemmas.{same_mark, same_beyond, same_beyond_up}
use Rattle.tigertopo_pictures.proofs.svg.places.mark_at.Goals as goal

pub returns : goal.returns
returns c =
    let r = c.args.r in
    let rx : to_z w128 (of_z w128 r.x) ≡ r.x = search rules in
    let ry : to_z w128 (of_z w128 r.y) ≡ r.y = search rules in
    let rd : to_z w128 (of_z w128 r.d) ≡ r.d = search rules in
    let corner_x : to_z w32 (of_z w32 c.args.corner.x) ≡ c.args.corner.x = search rules in
    let corner_y : to_z w32 (of_z w32 c.args.corner.y) ≡ c.args.corner.y = search rules in
    let along : to_z w64 (of_z w64 c.past.result) ≡ c.past.result = search rules in
    let down : to_z w64 (of_z w64 c.short_of.result) ≡ c.short_of.result = search rules in
    let to_east : to_z w64 (of_z w64 c.east.result) ≡ c.east.result = search rules in
    let to_south : to_z w64 (of_z w64 c.south.result) ≡ c.south.result = search rules in
    let more : to_z w64 (of_z w64 c.beyond-east.result) ≡ c.beyond-east.result = search rules in
    let less : to_z w64 (of_z w64 c.beyond_up-north.result) ≡ c.beyond_up-north.result = search rules in
    let d = c.unsigned_abs-d.ensures.value ∙ ap unsigned_abs rd in
    let x = c.part_of.ensures.value ∙ ap₂ part_of rx rd in
    let y = c.part_of-2.ensures.value ∙ ap₂ part_of ry rd in
    same_mark c.args.corner _ _ _ _
    (along ∙ c.past.ensures
    ∙ ap₂ (λ a b. a +ℤ b) (to_east ∙ c.east.ensures.value ∙ ap (east c.args.frame) corner_x)
    (more ∙ c.beyond-east.ensures.value ∙ ap pos (same_beyond _ _ _ _ _ _ x d (ap (λ w. 4900 * w) c.from-weight.ensures))))
    (down ∙ c.short_of.ensures
    ∙ ap₂ (λ a b. a -ℤ b) (to_south ∙ c.south.ensures.value ∙ ap (south c.args.frame) corner_y)
    (less ∙ c.beyond_up-north.ensures.value ∙ ap pos (same_beyond_up _ _ 49000000 _ _ 49000000 y d refl)))
