use Rattle.std.proofs.Common.{◌∷◌, [], length}
use Rattle.tl_cert_output.proofs.PageLemmas.{both, as_text}
use Rattle.tl_cert.specs.Text.{numbered_line, dart_lines}
use Rattle.tl_cert.proofs.WriteLemmas.{line_first}
use Rattle.tl_cert.proofs.write.write_dart_list.Goals as goal

pub returns : goal.returns
returns g c =
    let page = g.met.P.Page.adding in
    as_text page (both page c.write_number.ensures c.write_numbers.ensures)
    (line_first (numbered_line (c.args.letter ∷ []) (length c.args.darts.now)) (dart_lines c.args.darts.now))
