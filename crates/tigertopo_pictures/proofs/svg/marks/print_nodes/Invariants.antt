use Rattle.std.proofs.Common.{drop}
use Rattle.std.specs.Prelude.{flat_map}
use Rattle.tigertopo_pictures.proofs.PieceLemmas.{PrintsUpTo}
use Rattle.tigertopo_pictures.specs.Svg.Strokes.{drawings}
use Rattle.tigertopo_pictures.specs.Svg.Pictures.{drawn}
use Rattle.tigertopo_pictures.specs.Svg.Texts.{ends_text}
use Rattle.tigertopo_pictures.proofs.svg.marks.print_nodes.Given as goal

abbrev pub invariant-loop-number : goal.invariant-loop-number
invariant-loop-number g l =
    PrintsUpTo g.P.Page.adds l.initial.page l.page
    (flat_map (ends_text l.picture.frame) (drawn l.picture l.map)) (flat_map (ends_text l.picture.frame) (drawings l.picture.frame (drop l.number l.map.chains)))
