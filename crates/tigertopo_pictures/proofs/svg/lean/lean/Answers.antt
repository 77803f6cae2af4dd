use Rattle.std.proofs.Common.{◌≡◌, ◌∙◌, ap, ap₂, pos, ◌-ℤ◌, ◌*ℤ◌, rules}
use Rattle.std.specs.Int.{w32, w64, w128}
use mir.Val.{to_z, of_z}
use Rattle.tigertopo_pictures.specs.declared.svg.frame.Position.{Position}
use Rattle.tigertopo_pictures.specs.Svg.Frames.{position}
use Rattle.tigertopo_pictures.proofs.svg.lean.lean.Goals as goal

pub returns : goal.returns
returns c =
    let at = position c.args.frame c.args.p in
    let whole : to_z w128 (of_z w128 c.apart.result) ≡ c.apart.result = search rules in
    let first : to_z w128 (of_z w128 c.product-east.result) ≡ c.product-east.result = search rules in
    let second : to_z w128 (of_z w128 c.product-north.result) ≡ c.product-north.result = search rules in
    let run : to_z w64 (of_z w64 c.run.result) ≡ c.run.result = search rules in
    let rise : to_z w64 (of_z w64 c.run-2.result) ≡ c.run-2.result = search rules in
    let down : to_z w128 (of_z w128 c.gap.result) ≡ c.gap.result = search rules in
    let along : to_z w128 (of_z w128 c.gap-2.result) ≡ c.gap-2.result = search rules in
    let px : to_z w32 (of_z w32 c.args.p.x) ≡ c.args.p.x = search rules in
    let py : to_z w32 (of_z w32 c.args.p.y) ≡ c.args.p.y = search rules in
    let qx : to_z w32 (of_z w32 c.args.q.x) ≡ c.args.q.x = search rules in
    let qy : to_z w32 (of_z w32 c.args.q.y) ≡ c.args.q.y = search rules in
    let x : to_z w64 (of_z w64 c.args.x) ≡ c.args.x = search rules in
    let y : to_z w64 (of_z w64 c.args.y) ≡ c.args.y = search rules in
    let kept_x : to_z w64 (of_z w64 c.position-at.result.x) ≡ c.position-at.result.x = search rules in
    let kept_y : to_z w64 (of_z w64 c.position-at.result.y) ≡ c.position-at.result.y = search rules in
    let at_x : to_z w64 (of_z w64 c.position-at.result.x) ≡ at.x = kept_x ∙ ap (λ (p : Position). p.x) c.position-at.ensures in
    let at_y : to_z w64 (of_z w64 c.position-at.result.y) ≡ at.y = kept_y ∙ ap (λ (p : Position). p.y) c.position-at.ensures in
    let east = c.product-east.ensures.value
    ∙ ap₂ (λ a b. a *ℤ b) (run ∙ c.run.ensures.value ∙ ap₂ (λ a b. (a -ℤ b) *ℤ pos c.args.frame.cosine) qx px) (down ∙ c.gap.ensures.value ∙ ap₂ (λ a b. a -ℤ b) y at_y) in
    let north = c.product-north.ensures.value
    ∙ ap₂ (λ a b. a *ℤ b) (rise ∙ c.run-2.ensures.value ∙ ap₂ (λ a b. (a -ℤ b) *ℤ pos 10000) py qy) (along ∙ c.gap-2.ensures.value ∙ ap₂ (λ a b. a -ℤ b) x at_x) in
    whole ∙ c.apart.ensures.value ∙ ap₂ (λ a b. a -ℤ b) (first ∙ east) (second ∙ north)
