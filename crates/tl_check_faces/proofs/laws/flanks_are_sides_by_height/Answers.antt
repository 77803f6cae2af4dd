use Rattle.tl_check_faces.proofs.Flanks.{are_sides, are_turned}
use Rattle.tl_check_faces.proofs.laws.flanks_are_sides_by_height.Goals as goal

pub returns-clause-flanks : goal.returns-clause-flanks
returns-clause-flanks c = λ K chains s u n near not_west. are_sides K chains s u n near not_west

pub returns-clause-level : goal.returns-clause-level
returns-clause-level c = λ K chains s u n near runs. are_turned K chains s u n near runs
