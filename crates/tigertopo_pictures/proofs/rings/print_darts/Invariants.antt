use Rattle.std.proofs.Common.{take}
use Rattle.std.specs.Prelude.{flat_map}
use Rattle.tigertopo_pictures.specs.Rings.{dart_text}
use Rattle.tigertopo_pictures.proofs.rings.print_darts.Given as goal

abbrev pub invariant-loop-dart : goal.invariant-loop-dart
invariant-loop-dart g l =
    g.P.Page.adds l.initial.page l.page (flat_map (dart_text (g.N.Pen.pen l.pen) l.map.chains) (take l.dart-index l.walk))
