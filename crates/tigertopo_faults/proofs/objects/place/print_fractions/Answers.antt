use Rattle.std.proofs.Common.{rules}
use Rattle.tl_cert_output.proofs.PageLemmas.{both}
use Rattle.tigertopo_faults.specs.Objects.Places.{fraction_text, fractions_text}
use Rattle.tigertopo_faults.proofs.objects.place.print_fractions.Goals as goal

pub returns : goal.returns
unfolding fractions_text
returns g c =
    let page = g.met.P.Page.adding in
    let x : g.P.Page.adds _ _ (fraction_text c.args.at.x c.args.at.d) = search rules in
    let y : g.P.Page.adds _ _ (fraction_text c.args.at.y c.args.at.d) = search rules in
    both page (both page (both page (both page c.add.ensures x) c.add-2.ensures) y) c.add-3.ensures
