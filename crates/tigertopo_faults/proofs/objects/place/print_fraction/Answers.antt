use Rattle.std.proofs.Common.{rules}
use Rattle.std.specs.Fmt.{signed_decimal}
use Rattle.tl_cert_output.proofs.PageLemmas.{both}
use Rattle.tigertopo_faults.specs.Objects.Places.{fraction_text}
use Rattle.tigertopo_faults.proofs.objects.place.print_fraction.Goals as goal

pub returns : goal.returns
unfolding fraction_text
returns g c =
    let page = g.met.P.Page.adding in
    let x : g.P.Page.adds _ _ (signed_decimal c.args.x) = search rules in
    let d : g.P.Page.adds _ _ (signed_decimal c.args.d) = search rules in
    both page (both page (both page (both page c.add.ensures x) c.add-2.ensures) d) c.add-3.ensures
