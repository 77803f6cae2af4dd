use Rattle.std.proofs.Common.{rules}
use Rattle.std.specs.Fmt.{signed_decimal}
use Rattle.tl_cert_output.proofs.PageLemmas.{both}
use Rattle.tigertopo_faults.specs.Objects.About.{node_text}
use Rattle.tigertopo_faults.proofs.objects.about.print_node.Goals as goal

pub returns : goal.returns
unfolding node_text
returns g c =
    let page = g.met.P.Page.adding in
    let x : g.P.Page.adds _ _ (signed_decimal c.args.node.x) = search rules in
    let y : g.P.Page.adds _ _ (signed_decimal c.args.node.y) = search rules in
    both page (both page (both page (both page c.add.ensures x) c.add-2.ensures) y) c.add-3.ensures
