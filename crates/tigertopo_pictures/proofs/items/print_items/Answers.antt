use Rattle.std.proofs.Common.{◌++◌, arith}
use Rattle.tl_cert_output.proofs.PageLemmas.{both}
use Rattle.tigertopo_pictures.proofs.GroupLemmas.{at_start, one_on, at_end}
use Rattle.tigertopo_pictures.proofs.items.print_items.Goals as goal

pub loop-at-init : goal.loop-at-init
loop-at-init g c ns goes =
    let page = g.met.P.Page.adding in
    at_start page (λ n. c.args.before.now ++ g.I.Items.text c.args.items.now n ++ c.args.behind.now) c.args.groups.now.next c.args.start ns goes

pub loop-at-preserved : goal.loop-at-preserved
loop-at-preserved g c ns goes =
    let page = g.met.P.Page.adding in
    rw c.next-at.ensures.next
    (one_on page (λ n. c.args.before.now ++ g.I.Items.text c.args.items.now n ++ c.args.behind.now) c.args.groups.now.next c.loop-at.at ns (omega (arith, c.loop-at-test.true, c.items.ensures))
    (c.loop-at.invariant ns goes) (both page (both page c.add.ensures c.print.ensures) c.add-in-loop-at.ensures))

pub print-requires : goal.print-requires
print-requires g c = c.requires c.loop-at.at (omega (arith, c.loop-at-test.true, c.items.ensures))

pub returns : goal.returns
returns g c ns goes =
    let page = g.met.P.Page.adding in
    at_end page (λ n. c.args.before.now ++ g.I.Items.text c.args.items.now n ++ c.args.behind.now) c.args.groups.now.next c.loop-at.at ns (omega (arith, c.loop-at-test.false, c.items.ensures))
    (c.loop-at.invariant ns goes)
