use Rattle.std.proofs.Common.{refl, subst}
use Rattle.std.specs.Option.{IfSome, IsNone}
use Rattle.tl_check_sides.specs.Cells.Cells.{CellsAgree, AreCellsAtOdds}
use Rattle.tl_decide.proofs.Firsts.{sound_where}
use Rattle.tl_decide.proofs.first.first_but_faces.Goals as goal

pub returns-in-Some : goal.returns-in-Some
returns-in-Some c = subst (λ found. IfSome found (λ odds. AreCellsAtOdds c.args.map.now.chains odds.first odds.second odds.first_id odds.second_id)) c.in-Some.is c.in_ok-odds.ensures.at_odds

pub returns-in-None : goal.returns-in-None
returns-in-None c =
    sound_where c.args.map.now c.requires.rings.0 c.requires.rings.1 c.requires.planar
    (subst (λ found. IsNone found → CellsAgree c.args.map.now.chains) c.in-None.is c.in_ok-odds.ensures.agree refl)
    c.misplaced_suspect.result c.misplaced_suspect.ensures
