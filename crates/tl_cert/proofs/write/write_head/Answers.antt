use Rattle.std.proofs.Common.{◌++◌, ap, ◌∙◌}
use Rattle.tl_cert_output.specs.Writing.{line_of}
use Rattle.tl_cert_output.proofs.PageLemmas.{both, as_text}
use Rattle.tl_cert.specs.Text.{head_line, counts_line}
use Rattle.tl_cert.proofs.WriteLemmas.{line_last}
use Rattle.tl_cert.proofs.write.write_head.Goals as goal

pub returns : goal.returns
returns g c =
    let page = g.met.P.Page.adding in
    as_text page (both page c.add.ensures c.write_counts.ensures)
    (ap (λ l. l ++ line_of (counts_line c.args.counts)) c.head_line.ensures ∙ line_last (head_line c.args.version) (counts_line c.args.counts))
