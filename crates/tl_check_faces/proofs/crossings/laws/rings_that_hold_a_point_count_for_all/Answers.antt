use Rattle.tl_check_faces.proofs.CrossingsLemmas.Winding.{winds_about_none}
use Rattle.tl_check_faces.proofs.CrossingsLemmas.RingCounts.{hits_count}
use Rattle.tl_check_faces.proofs.crossings.laws.rings_that_hold_a_point_count_for_all.Goals as goal

pub returns-clause-outside : goal.returns-clause-outside
returns-clause-outside c = λ chains ring r q is holds out. winds_about_none chains q ring is r holds out

pub returns-clause-count : goal.returns-clause-count
returns-clause-count c = λ chains walks rects q S hits n proper agree are hold hit. hits_count chains walks rects q S hits agree are hold hit proper n
