use Rattle.std.proofs.Common.{rules}
use Rattle.std.specs.Fmt.{signed_decimal}
use Rattle.tl_cert_output.proofs.PageLemmas.{both}
use Rattle.tl_list_text.proofs.faults.print_rational.Goals as goal

pub returns : goal.returns
returns g c =
    let page = g.met.P.Page.adding in
    let x : g.P.Page.adds _ _ (signed_decimal c.args.at.now.x) = search rules in
    let y : g.P.Page.adds _ _ (signed_decimal c.args.at.now.y) = search rules in
    let d : g.P.Page.adds _ _ (signed_decimal c.args.at.now.d) = search rules in
    both page (both page (both page (both page x c.add.ensures) y) c.add-2.ensures) d
