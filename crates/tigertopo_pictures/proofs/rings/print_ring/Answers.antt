use Rattle.tl_cert_output.proofs.PageLemmas.{both, as_text}
use Rattle.tigertopo_pictures.specs.Rings.{ring_text}
use Rattle.tigertopo_pictures.proofs.RingLemmas.{start_is}
use Rattle.tigertopo_pictures.proofs.rings.print_ring.Goals as goal

pub returns : goal.returns
unfolding ring_text
returns g c =
    let page = g.met.P.Page.adding in
    both page (as_text page c.start.ensures (start_is (g.N.Pen.pen c.args.pen.now) c.args.map.now.chains c.args.walk.now _ _ c.requires.some c.dart_start.ensures)) c.print_darts.ensures
