use Rattle.tl_check_inside.proofs.Totals.{alone}
use Rattle.tl_check_inside.proofs.laws.a_polygon_is_alone_at_its_point.Goals as goal

pub returns : goal.returns
returns c = λ placed p polygon place is at. alone c.args.map.now p polygon c.landmarks-landmarks.ensures.polygons is (placed p polygon is) place at
