use Rattle.std.proofs.Common.{arith}
use Rattle.tl_cert_output.proofs.PageLemmas.{as_text}
use Rattle.tigertopo_pictures.proofs.GroupLemmas.{separated_both, without_end}
use Rattle.tigertopo_pictures.proofs.items.print_separated.Goals as goal

pub returns-then-first-items : goal.returns-then-first-items
returns-then-first-items g c ns goes =
    let page = g.met.P.Page.adding in
    separated_both page c.args.groups.now.next (g.I.Items.text c.args.items.now) c.first-first.result ns (omega (arith, c.if-first-items.true, c.items.ensures)) (rw c.first-first.ensures goes)
    c.print.ensures (λ others more. as_text page (c.print_items.ensures others (rw c.next.ensures.next more)) (without_end (g.I.Items.text c.args.items.now) others))
