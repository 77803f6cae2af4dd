use Rattle.std.proofs.Common.{◌++◌, codes, rules}
use Rattle.tigertopo_words.specs.Names.{escaped_byte}
use Rattle.tl_cert_output.proofs.PageLemmas.{both, as_text}
use Rattle.tigertopo_faults.proofs.shown.shell.print_quoted_byte.Goals as goal

pub returns-else-is_shown : goal.returns-else-is_shown
returns-else-is_shown g c =
    let page = g.met.P.Page.adding in
    let text : g.P.Page.adds _ _ (codes "'$'" ++ escaped_byte c.args.byte ++ codes "''") = both page (both page c.add-else-is_shown.ensures c.print_escaped.ensures) c.add-else-is_shown-2.ensures in
    as_text page text (search rules)
