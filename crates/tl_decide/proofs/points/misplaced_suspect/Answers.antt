use Rattle.std.proofs.Common.{◌≡◌, length, arith}
use Rattle.std.proofs.lemmas.List.{nil_from_length}
use Rattle.tl_check_points.proofs.Suspecting.{placed_but}
use Rattle.tl_decide.proofs.points.misplaced_suspect.Goals as goal

pub returns-then-is_empty : goal.returns-then-is_empty
returns-then-is_empty c =
    let none : length c.args.suspects.now ≡ 0 = grind (arith, c.is_empty.ensures, c.if-is_empty.true) in
    placed_but c.args.map.now c.args.suspects.now c.requires.suspects (nil_from_length c.args.suspects.now none)
