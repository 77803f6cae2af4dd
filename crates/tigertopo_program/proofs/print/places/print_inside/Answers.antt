use Rattle.tl_cert_output.proofs.PageLemmas.{both}
use Rattle.tigertopo_program.specs.Print.Places.{inside_text}
use Rattle.tigertopo_program.proofs.print.places.print_inside.Goals as goal

pub returns : goal.returns
unfolding inside_text
returns g c =
    let page = g.met.P.Page.adding in
    both page (both page (both page (both page c.add.ensures c.print_listed.ensures) c.add-2.ensures) c.print_listed_lands.ensures) c.add-3.ensures
