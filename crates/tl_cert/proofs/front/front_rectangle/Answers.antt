use Rattle.std.proofs.Common.{arith}
use Rattle.tl_cert.proofs.RectangleLemmas.{rectangle_front}
use Rattle.tl_cert.proofs.front.front_rectangle.Goals as goal

pub returns-clause-first : goal.returns-clause-first
returns-clause-first c =
    rectangle_front _ c.in-Some.others.now c.in-Some-front_coordinate.others.now c.in-Some-front_coordinate-2.others.now c.in-Some-front_coordinate-3.others.now
    c.in-Some.xmin c.in-Some-front_coordinate.ymin c.in-Some-front_coordinate-2.xmax c.in-Some-front_coordinate-3.ymax c.rect_of.result
    c.in-Some.ensures.first c.in-Some-front_coordinate.ensures.first c.in-Some-front_coordinate-2.ensures.first c.in-Some-front_coordinate-3.ensures.first c.rect_of.ensures

pub returns-clause-few : goal.returns-clause-few
returns-clause-few c = omega (arith, c.in-Some.ensures.few, c.in-Some-front_coordinate.ensures.few, c.in-Some-front_coordinate-2.ensures.few, c.in-Some-front_coordinate-3.ensures.few)

pub returns-in_default-clause-first : goal.returns-in_default-clause-first
returns-in_default-clause-first c = tt

pub returns-in_default-clause-few : goal.returns-in_default-clause-few
returns-in_default-clause-few c = tt

pub returns-in_default-front_coordinate-clause-first : goal.returns-in_default-front_coordinate-clause-first
returns-in_default-front_coordinate-clause-first c = tt

pub returns-in_default-front_coordinate-clause-few : goal.returns-in_default-front_coordinate-clause-few
returns-in_default-front_coordinate-clause-few c = tt

pub returns-in_default-front_coordinate-2-clause-first : goal.returns-in_default-front_coordinate-2-clause-first
returns-in_default-front_coordinate-2-clause-first c = tt

pub returns-in_default-front_coordinate-2-clause-few : goal.returns-in_default-front_coordinate-2-clause-few
returns-in_default-front_coordinate-2-clause-few c = tt

pub returns-in_default-front_coordinate-3-clause-first : goal.returns-in_default-front_coordinate-3-clause-first
returns-in_default-front_coordinate-3-clause-first c = tt

pub returns-in_default-front_coordinate-3-clause-few : goal.returns-in_default-front_coordinate-3-clause-few
returns-in_default-front_coordinate-3-clause-few c = tt

pub front_coordinate-requires : goal.front_coordinate-requires
front_coordinate-requires c = let long = c.requires in omega (arith, long)

pub front_coordinate-requires-2 : goal.front_coordinate-requires-2
front_coordinate-requires-2 c = let long = c.requires in let one = c.in-Some.ensures.few in omega (arith, long, one)

pub front_coordinate-requires-3 : goal.front_coordinate-requires-3
front_coordinate-requires-3 c = let long = c.requires in let one = c.in-Some.ensures.few in let two = c.in-Some-front_coordinate.ensures.few in omega (arith, long, one, two)

pub front_coordinate-requires-4 : goal.front_coordinate-requires-4
front_coordinate-requires-4 c = let long = c.requires in let one = c.in-Some.ensures.few in let two = c.in-Some-front_coordinate.ensures.few in let three = c.in-Some-front_coordinate-2.ensures.few in omega (arith, long, one, two, three)
