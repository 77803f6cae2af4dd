use Rattle.std.proofs.Common.{ap, decimal, rules}
use Rattle.std.specs.Fmt.{signed_decimal}
use Rattle.tl_cert_output.proofs.PageLemmas.{both, as_text}
use Rattle.tigertopo_pictures.specs.Svg.Texts.{closer_text}
use Rattle.tigertopo_pictures.proofs.svg.text.print_closer.Goals as goal

pub returns : goal.returns
unfolding closer_text
returns g c =
    let page = g.met.P.Page.adding in
    let x : g.P.Page.adds _ _ (signed_decimal c.args.p.x) = search rules in
    let y : g.P.Page.adds _ _ (signed_decimal c.args.p.y) = search rules in
    both page (both page (both page (both page (both page (both page c.add.ensures x) c.add-2.ensures) y) c.add-3.ensures) (as_text page c.number-3.ensures (ap decimal c.closer.ensures))) c.add-4.ensures
