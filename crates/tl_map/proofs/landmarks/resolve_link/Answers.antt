use Rattle.std.proofs.Common.{sym, inr}
use Rattle.tl_map.proofs.IndexLemmas.{place_is, not_known}
use Rattle.tl_map.proofs.landmarks.resolve_link.Goals as goal

pub returns-in_err-polygon : goal.returns-in_err-polygon
returns-in_err-polygon c = λ ks ns h g.
    rw c.from_residual-in_err-polygon.ensures (inr (not_known ks c.args.link.key _ h (sym c.in_err-polygon.ensures.index)))

pub returns : goal.returns
returns c = λ ks ns h g.
    let here = sym c.in_ok-polygon.ensures.index in
    record {
      landmark = g.only c.args.link.land c.in_ok-landmark.landmark (sym c.in_ok-landmark.ensures.index);
      known = h.only c.args.link.key c.in_ok-polygon.polygon here;
      polygon = sym (place_is ks c.args.link.key c.in_ok-polygon.polygon _ h here);
    }
