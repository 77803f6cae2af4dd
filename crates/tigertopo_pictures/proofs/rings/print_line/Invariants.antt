use Rattle.std.proofs.Common.{◌-◌, ◌≤◌, drop}
use Rattle.tl_map_county.specs.Darts.{directed}
use Rattle.tigertopo_pictures.specs.Rings.{line_text}
use Rattle.tigertopo_pictures.proofs.PieceLemmas.{PrintsUpTo}
use Rattle.tigertopo_pictures.proofs.rings.print_line.Given as goal

abbrev pub invariant-loop-place : goal.invariant-loop-place
invariant-loop-place g l =
    (1 ≤ l.place) × PrintsUpTo g.P.Page.adds l.initial.page l.page
    (line_text (g.N.Pen.pen l.pen) (directed l.is_along l.points)) (line_text (g.N.Pen.pen l.pen) (drop (l.place - 1) (directed l.is_along l.points)))
