use Rattle.tigertopo_pictures.proofs.SvgLemmas.ColourLemmas.{AreMarked}
use Rattle.tigertopo_pictures.proofs.svg.colours.colours_of.Given as goal

abbrev pub invariant-loop-polygon : goal.invariant-loop-polygon
invariant-loop-polygon l = AreMarked l.map.chains l.polygon l.colours.items l.marks.items
