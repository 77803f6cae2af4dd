use Rattle.std.proofs.Common.{◌≡◌, ◌+◌, ◌-◌, ◌++◌, sym, arith}
use Rattle.std.specs.Prelude.{codes, decimal}
use Rattle.tl_cert_output.proofs.PageLemmas.{both, as_text, nothing}
use Rattle.tigertopo_program.specs.Print.Printing.{chain_text}
use Rattle.tigertopo_program.proofs.PrintingLemmas.{points_text-several, chain_parts}
use Rattle.tigertopo_program.proofs.print.chains.print_chain.Goals as goal

pub loop-printed-init : goal.loop-printed-init
loop-printed-init g c =
    let page = g.met.P.Page.adding in
    record { within = omega arith; prints = nothing page }

pub loop-printed-smaller : goal.loop-printed-smaller
loop-printed-smaller g c = omega (arith, c.loop-printed-test.true)

pub loop-printed-preserved : goal.loop-printed-preserved
loop-printed-preserved g c =
    let page = g.met.P.Page.adding in
    let eight : c.loop-printed.printed + 8 - c.loop-printed.printed ≡ 8 = omega arith in
    record {
      within = omega (arith, c.loop-printed-test.true);
      prints = as_text page (both page c.loop-printed.invariant.prints (rw eight at c.print_points.ensures)) (sym (points_text-several c.args.points.now c.loop-printed.printed 8));
    }

pub returns : goal.returns
unfolding chain_text
returns g c =
    let page = g.met.P.Page.adding in
    as_text page (both page (both page (both page (both page c.add.ensures c.number.ensures) c.loop-printed.invariant.prints) c.print_points-2.ensures) c.add-2.ensures)
    (chain_parts (codes "tlid " ++ decimal c.args.tlid) c.args.points.now c.loop-printed.printed (codes "\n") c.loop-printed.invariant.within)
