use Rattle.tigertopo_faults.specs.Objects.Ends.{sound_object}
use Rattle.tl_cert_output.proofs.PageLemmas.{both}
use Rattle.tigertopo_faults.proofs.objects.end.print_sound_object.Goals as goal

pub returns : goal.returns
unfolding sound_object
returns g c =
    let page = g.met.P.Page.adding in
    both page (both page (both page (both page (both page (both page (both page (both page (both page (both page (both page (both page c.add.ensures c.number.ensures) c.add-2.ensures) c.number-2.ensures) c.add-3.ensures) c.number-3.ensures) c.add-4.ensures) c.number-4.ensures) c.add-5.ensures) c.number-5.ensures) c.add-6.ensures) c.number-6.ensures) c.add-7.ensures
