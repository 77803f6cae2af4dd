use Rattle.std.proofs.Common.{◌≡◌, ◌↔◌, ◌≤ℤ◌, pos, map, get_or, to_z, of_z, w32, arith}
use Rattle.std.specs.Int.{bit_at, int_max, int_min}
use Rattle.std.proofs.lemmas.List.{get_or_default}
use Rattle.tl_geom.specs.EightRectangles.{lane}
use Rattle.tl_geom.proofs.Masks.{again, lanes-again}
use Rattle.tl_geom.proofs.Turns.{lane-meets}
use Rattle.tl_geom.proofs.rect8.Rect8.meets_each.Goals as goal

pub overlap8-west_to_east-requires-clause-low : goal.overlap8-west_to_east-requires-clause-low
overlap8-west_to_east-requires-clause-low c = lanes-again c.args.self.now.xmin c.args.self.now.west

pub overlap8-west_to_east-requires-clause-high : goal.overlap8-west_to_east-requires-clause-high
overlap8-west_to_east-requires-clause-high c = lanes-again c.args.self.now.xmax c.args.self.now.east

pub overlap8-south_to_north-requires-clause-low : goal.overlap8-south_to_north-requires-clause-low
overlap8-south_to_north-requires-clause-low c = lanes-again c.args.self.now.ymin c.args.self.now.south

pub overlap8-south_to_north-requires-clause-high : goal.overlap8-south_to_north-requires-clause-high
overlap8-south_to_north-requires-clause-high c = lanes-again c.args.self.now.ymax c.args.self.now.north

pub overlap8-west_to_east-requires-clause-low2 : goal.overlap8-west_to_east-requires-clause-low2
overlap8-west_to_east-requires-clause-low2 c = lanes-again c.args.others.now.xmin c.args.others.now.west

pub overlap8-west_to_east-requires-clause-high2 : goal.overlap8-west_to_east-requires-clause-high2
overlap8-west_to_east-requires-clause-high2 c = lanes-again c.args.others.now.xmax c.args.others.now.east

pub overlap8-south_to_north-requires-clause-low2 : goal.overlap8-south_to_north-requires-clause-low2
overlap8-south_to_north-requires-clause-low2 c = lanes-again c.args.others.now.ymin c.args.others.now.south

pub overlap8-south_to_north-requires-clause-high2 : goal.overlap8-south_to_north-requires-clause-high2
overlap8-south_to_north-requires-clause-high2 c = lanes-again c.args.others.now.ymax c.args.others.now.north

pub returns : goal.returns
returns c =
    let self = c.args.self.now in
    let others = c.args.others.now in
    λ k lt.
    let x : get_or others.xmin k (pos 0) ≡ get_or others.xmin k (pos 1) = get_or_default others.xmin k (pos 0) (pos 1) (omega (arith, others.west.eight, lt)) in
    let y : get_or others.ymin k (pos 0) ≡ get_or others.ymin k (pos 1) = get_or_default others.ymin k (pos 0) (pos 1) (omega (arith, others.south.eight, lt)) in
    let f : (bit_at c.overlap8-west_to_east.result k ≡ 1) ↔ (int_max (get_or (map (to_z w32) (map (of_z w32) self.xmin)) k (pos 0)) (get_or (map (to_z w32) (map (of_z w32) others.xmin)) k (pos 0)) ≤ℤ int_min (get_or (map (to_z w32) (map (of_z w32) self.xmax)) k (pos 0)) (get_or (map (to_z w32) (map (of_z w32) others.xmax)) k (pos 0))) = c.overlap8-west_to_east.ensures.lanes k lt in
    let g : (bit_at c.overlap8-south_to_north.result k ≡ 1) ↔ (int_max (get_or (map (to_z w32) (map (of_z w32) self.ymin)) k (pos 0)) (get_or (map (to_z w32) (map (of_z w32) others.ymin)) k (pos 0)) ≤ℤ int_min (get_or (map (to_z w32) (map (of_z w32) self.ymax)) k (pos 0)) (get_or (map (to_z w32) (map (of_z w32) others.ymax)) k (pos 0))) = c.overlap8-south_to_north.ensures.lanes k lt in
    lane-meets self (lane others k) k c.overlap8-west_to_east.result c.overlap8-south_to_north.result lt
    (rw (again self.xmin self.west, again self.xmax self.east, again others.xmin others.west, again others.xmax others.east, x) at f)
    (rw (again self.ymin self.south, again self.ymax self.north, again others.ymin others.south, again others.ymax others.north, y) at g)
