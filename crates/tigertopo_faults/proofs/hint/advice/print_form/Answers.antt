use Rattle.tl_cert_output.proofs.PageLemmas.{both}
use Rattle.tigertopo_faults.proofs.hint.advice.print_form.Goals as goal

pub returns : goal.returns
returns g c =
    let page = g.met.P.Page.adding in
    both page (both page (both page c.add.ensures c.print_name.ensures) c.print_words.ensures) c.add-2.ensures
