use Rattle.std.proofs.Common.{◌≡◌, ◌∙◌, ap, ap₂, ◌+ℤ◌, unsigned_abs, rules}
use Rattle.std.specs.Int.{w32}
use mir.Val.{to_z, of_z}
use Rattle.tigertopo_pictures.specs.Svg.Frames.{cosine}
use Rattle.tigertopo_pictures.proofs.SvgLemmas.FrameLemmas.{same_frame}
use Rattle.tigertopo_pictures.proofs.svg.frame.Frame.about.Goals as goal

pub returns : goal.returns
returns c =
    let south : to_z w32 (of_z w32 c.args.rect.ymin) ≡ c.args.rect.ymin = search rules in
    let north : to_z w32 (of_z w32 c.args.rect.ymax) ≡ c.args.rect.ymax = search rules in
    same_frame _ _ _ _ _ _ _ _ _ _ (search rules) (search rules) (search rules) (search rules)
    (c.cosine.ensures ∙ ap cosine (c.middle.ensures.value ∙ ap₂ (λ a b. unsigned_abs (a +ℤ b)) south north))
