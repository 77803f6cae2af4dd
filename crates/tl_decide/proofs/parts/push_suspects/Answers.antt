use Rattle.std.proofs.Common.{◌≡◌, length, subst, arith}
use Rattle.std.proofs.lemmas.List.{nil_from_length}
use Rattle.tl_check_inside.specs.Suspects.{AreSuspects}
use Rattle.tl_check_points.specs.Listing.Hidden.{IsMarked}
use Rattle.tl_decide.proofs.OfMap.{points_placed}
use Rattle.tl_decide.proofs.parts.push_suspects.Goals as goal

pub returns-then-is_empty : goal.returns-then-is_empty
returns-then-is_empty c =
    let none : length c.args.suspects.items ≡ 0 = grind (arith, c.is_empty.ensures, c.if-is_empty.true) in
    points_placed (IsMarked c.args.marks.now) c.args.map.now c.args.faults.now.items (subst (AreSuspects c.args.map.now) (nil_from_length c.args.suspects.items none) c.requires.suspects)
