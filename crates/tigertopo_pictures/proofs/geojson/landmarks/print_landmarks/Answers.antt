use Rattle.std.proofs.Common.{◌<◌, ◌∙◌, length, arith, option_map}
use Rattle.tl_cert_output.proofs.PageLemmas.{both, as_text}
use Rattle.tigertopo_pictures.proofs.GeojsonLemmas.FeatureLemmas.{few_pointed, one_landmark_more, one_counted_more}
use Rattle.tigertopo_pictures.proofs.geojson.landmarks.print_landmarks.Goals as goal

pub loop-number-preserved : goal.loop-number-preserved
loop-number-preserved g c =
    let page = g.met.P.Page.adding in
    let m = c.args.map.now in
    let n = c.loop-number.number in
    let counted = c.loop-number.invariant.counted in
    let within : n < length m.landmarks = omega (arith, c.loop-number-test.true, c.landmarks-number-end.ensures.count) in
    record {
      counted = c.print_pointed-told.ensures.counted ∙ one_counted_more c.args.before c.loop-number.told m.landmarks n _ within c.landmark.ensures.landmark counted;
      prints = as_text page (both page c.loop-number.invariant.prints c.print_pointed-told.ensures.prints)
          (one_landmark_more (option_map (λ name. name.now) c.args.file) c.args.before c.loop-number.told m.polygons m.landmarks n _ within c.landmark.ensures.landmark counted);
    }

pub print_pointed-told-requires : goal.print_pointed-told-requires
print_pointed-told-requires g c =
    let within : c.loop-number.number < length c.args.map.now.landmarks = omega (arith, c.loop-number-test.true, c.landmarks-number-end.ensures.count) in
    omega (arith, c.loop-number.invariant.counted, few_pointed c.args.map.now.landmarks c.loop-number.number within, c.requires, c.loop-number-test.true, c.landmarks-number-end.type_inv)
