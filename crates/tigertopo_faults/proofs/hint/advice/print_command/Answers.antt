use Rattle.std.proofs.Common.{rules}
use Rattle.tl_cert_output.proofs.PageLemmas.{both, as_text}
use Rattle.tigertopo_faults.proofs.hint.advice.print_command.Goals as goal

pub returns-in-Some : goal.returns-in-Some
returns-in-Some g c =
    let page = g.met.P.Page.adding in
    as_text page (both page (both page c.print_shell_word.ensures c.add.ensures) c.print_rest.ensures) (search rules)
