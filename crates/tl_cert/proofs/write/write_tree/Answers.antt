use Rattle.std.proofs.Common.{length, codes}
use Rattle.tl_cert_output.proofs.PageLemmas.{both, as_text}
use Rattle.tl_cert.specs.Text.{numbered_line, nodes_lines}
use Rattle.tl_cert.proofs.WriteLemmas.{line_first}
use Rattle.tl_cert.proofs.write.write_tree.Goals as goal

pub returns : goal.returns
returns g c =
    let page = g.met.P.Page.adding in
    as_text page (both page c.write_number.ensures c.write_nodes.ensures)
    (line_first (numbered_line (codes "T") (length c.args.nodes.now)) (nodes_lines c.args.version c.args.nodes.now))
