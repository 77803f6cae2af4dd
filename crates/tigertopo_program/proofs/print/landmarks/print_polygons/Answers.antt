use Rattle.std.proofs.Common.{◌≡◌, take, arith, ap, sym}
use Rattle.std.proofs.lemmas.List.{take_all}
use Rattle.tl_cert_output.proofs.PageLemmas.{both, as_text}
use Rattle.tigertopo_program.specs.Print.Printing.{polygons_text}
use Rattle.tigertopo_program.proofs.LandmarkLemmas.{polygons_text-next}
use Rattle.tigertopo_program.proofs.print.landmarks.print_polygons.Goals as goal

pub loop-number-preserved : goal.loop-number-preserved
loop-number-preserved g c =
    let page = g.met.P.Page.adding in
    as_text page (both page c.loop-number.invariant c.print_polygon.ensures)
    (sym (polygons_text-next c.args.map.now.polygons c.args.numbers.now c.loop-number.number-index c.loop-number-test.true))

pub returns : goal.returns
returns g c =
    let page = g.met.P.Page.adding in
    let all : take c.loop-number.number-index c.args.numbers.now ≡ c.args.numbers.now = take_all _ _ (omega arith) in
    as_text page c.loop-number.invariant (ap (polygons_text c.args.map.now.polygons) all)
