use Rattle.std.proofs.Common.{sym}
use Rattle.tl_cert_output.proofs.PageLemmas.{both, as_text}
use Rattle.tigertopo_pictures.proofs.GeojsonLemmas.TextLemmas.{each_at}
use Rattle.tigertopo_pictures.specs.Rings.{dart_text}
use Rattle.tigertopo_pictures.proofs.rings.print_darts.Goals as goal

pub loop-dart-preserved : goal.loop-dart-preserved
loop-dart-preserved g c =
    let page = g.met.P.Page.adding in
    as_text page (both page c.loop-dart.invariant c.print_dart.ensures) (sym (each_at (dart_text (g.N.Pen.pen c.args.pen.now) c.args.map.now.chains) c.args.walk.now c.loop-dart.dart-index _ c.loop-dart-test.true))
