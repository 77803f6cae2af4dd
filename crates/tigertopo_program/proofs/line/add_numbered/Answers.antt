use Rattle.std.proofs.Common.{append_assoc, codes, decimal, sym}
use Rattle.tl_cert_output.proofs.PageLemmas.{both, as_text}
use Rattle.tigertopo_program.proofs.line.add_numbered.Goals as goal

pub returns-in-Some : goal.returns-in-Some
returns-in-Some g c =
    let page = g.met.P.Page.adding in
    rw c.in-Some.is
    (as_text page (both page (as_text page c.add.ensures c.as_bytes.ensures.value) c.add_number.ensures) (sym (append_assoc c.args.name.now (codes " ") (decimal c.in-Some.number))))
