use Rattle.tl_check_faces.proofs.Along.{by_faces}
use Rattle.tl_check_faces.proofs.OnePolygon.{one_polygon}
use Rattle.tl_check_faces.proofs.Located.{lists_what_lies}
use Rattle.tl_check_faces.proofs.laws.places_list_what_lies_there.Goals as goal

pub returns : goal.returns
returns c = λ m q place planar agree is. lists_what_lies m q place (one_polygon m.chains (by_faces m.chains planar agree)) is
