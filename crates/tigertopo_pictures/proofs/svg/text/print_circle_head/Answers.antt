use Rattle.std.proofs.Common.{rules}
use Rattle.std.specs.Fmt.{signed_decimal}
use Rattle.tl_cert_output.proofs.PageLemmas.{both}
use Rattle.tigertopo_pictures.specs.Svg.Texts.{circle_head}
use Rattle.tigertopo_pictures.proofs.svg.text.print_circle_head.Goals as goal

pub returns : goal.returns
unfolding circle_head
returns g c =
    let page = g.met.P.Page.adding in
    let x : g.P.Page.adds _ _ (signed_decimal c.args.spot.x) = search rules in
    let y : g.P.Page.adds _ _ (signed_decimal c.args.spot.y) = search rules in
    both page (both page (both page (both page c.add.ensures x) c.add-2.ensures) y) c.add-3.ensures
