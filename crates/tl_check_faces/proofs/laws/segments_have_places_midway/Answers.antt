use Rattle.tl_check_faces.proofs.Midway.{some_midway, lies_there, inside, one_height}
use Rattle.tl_check_faces.proofs.laws.segments_have_places_midway.Goals as goal

pub returns-clause-found : goal.returns-clause-found
returns-clause-found c = λ K n u near. some_midway K n u near

pub returns-clause-on : goal.returns-clause-on
returns-clause-on c = λ K n u p near begun lasting m. lies_there K n u near p m begun lasting

pub returns-clause-within : goal.returns-clause-within
returns-clause-within c = λ K n u p near m. inside K n u near p m

pub returns-clause-level : goal.returns-clause-level
returns-clause-level c = λ K n u w p q near near' m m'. one_height K n u w near near' p q m m'
