use Rattle.std.proofs.Common.{rules}
use Rattle.tl_cert_output.proofs.PageLemmas.{both, as_text}
use Rattle.tigertopo_faults.proofs.lines.ends.print_parts.Goals as goal

pub returns-in-Pair-Some-Pair : goal.returns-in-Pair-Some-Pair
returns-in-Pair-Some-Pair g c =
    let page = g.met.P.Page.adding in
    let text = both page (both page (both page c.add.ensures c.number.ensures) c.add-in-Pair-Some-Pair.ensures) c.number-in-Pair-Some-Pair.ensures in
    as_text page text (search rules)

pub returns-in_default-Some : goal.returns-in_default-Some
returns-in_default-Some g c =
    let page = g.met.P.Page.adding in
    let text = both page (both page c.print_part-in_default-Some.ensures c.add-in_default-Some.ensures) c.print_part-in_default-Some-2.ensures in
    as_text page text (search rules)
