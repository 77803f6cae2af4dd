use Rattle.std.proofs.Common.{◌≡◌, take, refl, sym, arith}
use Rattle.std.proofs.lemmas.List.{take_all}
use Rattle.tl_cert_output.proofs.PageLemmas.{both, as_text}
use Rattle.tigertopo_program.proofs.LandmarkLemmas.{landmark_lines-next}
use Rattle.tigertopo_program.proofs.print.landmarks.print_landmarks.Goals as goal

pub loop-number-preserved : goal.loop-number-preserved
loop-number-preserved g c =
    let page = g.met.P.Page.adding in
    as_text page (both page c.loop-number.invariant c.print_landmark.ensures)
    (sym (landmark_lines-next c.args.map.now.polygons c.args.map.now.landmarks c.loop-number.number _ c.landmark.ensures.landmark))

pub returns : goal.returns
returns g c =
    let page = g.met.P.Page.adding in
    let m = c.args.map.now in
    let all : take c.loop-number.number m.landmarks ≡ m.landmarks = take_all _ _ (omega (arith, c.loop-number-test.false, c.landmarks-number-end.ensures.count)) in
    as_text page (both page c.loop-number.invariant c.print_count.ensures) (rw (all, c.landmarks.ensures.count) refl)
