use Rattle.std.proofs.Common.{◌≡◌, ◌∙◌, ap, pos, ◌+ℤ◌, ◌-ℤ◌, rules}
use Rattle.std.specs.Int.{w64, w128}
use Rattle.std.specs.Fmt.{signed_decimal}
use mir.Val.{to_z, of_z}
use Rattle.tl_cert_output.proofs.PageLemmas.{both, as_text}
use Rattle.tigertopo_pictures.specs.Svg.Texts.{west_label}
use Rattle.tigertopo_pictures.proofs.svg.text.print_west_label.Goals as goal

pub returns : goal.returns
unfolding west_label
returns g c =
    let page = g.met.P.Page.adding in
    let kx : to_z w128 (of_z w128 c.short_of.result) ≡ c.short_of.result = search rules in
    let ky : to_z w128 (of_z w128 c.beyond.result) ≡ c.beyond.result = search rules in
    let x : to_z w64 (of_z w64 c.args.spot.x) ≡ c.args.spot.x = search rules in
    let y : to_z w64 (of_z w64 c.args.spot.y) ≡ c.args.spot.y = search rules in
    let along = as_text page c.number.ensures (ap signed_decimal (kx ∙ c.short_of.ensures ∙ ap (λ z. z -ℤ pos 80) x)) in
    let down = as_text page c.number-2.ensures (ap signed_decimal (ky ∙ c.beyond.ensures ∙ ap (λ z. z +ℤ pos 45) y)) in
    both page (both page (both page (both page c.add.ensures along) c.add-2.ensures) down) c.add-3.ensures
