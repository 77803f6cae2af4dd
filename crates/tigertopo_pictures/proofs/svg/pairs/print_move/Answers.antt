use Rattle.std.proofs.Common.{rules}
use Rattle.tl_cert_output.proofs.PageLemmas.{as_text}
use Rattle.tigertopo_pictures.proofs.SvgLemmas.TextLemmas.{move_parts}
use Rattle.tigertopo_pictures.proofs.svg.pairs.print_move.Goals as goal

pub returns : goal.returns
returns g c =
    let page = g.met.P.Page.adding in
    as_text page c.print_pair.ensures (move_parts c.args.spot _ _ (search rules) (search rules))
