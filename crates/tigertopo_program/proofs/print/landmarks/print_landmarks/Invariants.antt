use Rattle.std.proofs.Common.{take}
use Rattle.tigertopo_program.specs.Print.Printing.{landmark_lines}
use Rattle.tigertopo_program.proofs.print.landmarks.print_landmarks.Given as goal

abbrev pub invariant-loop-number : goal.invariant-loop-number
invariant-loop-number g l =
    g.P.Page.adds l.initial.page l.page (landmark_lines l.map.polygons (take l.number l.map.landmarks))
