use Rattle.std.proofs.Common.{◌≡◌, take, arith, ap, sym}
use Rattle.std.proofs.lemmas.List.{take_all}
use Rattle.tl_cert_output.proofs.PageLemmas.{both, as_text}
use Rattle.tigertopo_program.specs.Print.Places.{lands_text}
use Rattle.tigertopo_program.proofs.PlaceLemmas.{lands_text-next}
use Rattle.tigertopo_program.proofs.print.places.print_lands.Goals as goal

pub loop-number-preserved : goal.loop-number-preserved
loop-number-preserved g c =
    let page = g.met.P.Page.adding in
    as_text page (both page c.loop-number.invariant c.print_land.ensures)
    (sym (lands_text-next c.args.map.now.landmarks c.args.numbers.now c.loop-number.number-index c.loop-number-test.true))

pub returns : goal.returns
returns g c =
    let page = g.met.P.Page.adding in
    let all : take c.loop-number.number-index c.args.numbers.now ≡ c.args.numbers.now = take_all _ _ (omega arith) in
    as_text page c.loop-number.invariant (ap (lands_text c.args.map.now.landmarks) all)
