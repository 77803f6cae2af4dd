use Rattle.std.proofs.Common.{◌∙◌}
use Rattle.tl_cert_output.proofs.PageLemmas.{both, as_text}
use Rattle.tigertopo_faults.proofs.objects.about.print_limit.Goals as goal

pub returns : goal.returns
returns g c =
    let page = g.met.P.Page.adding in
    both page (both page c.add.ensures (as_text page c.add-2.ensures (c.as_bytes.ensures.value ∙ c.word.ensures))) c.add-3.ensures
