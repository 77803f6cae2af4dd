use Rattle.std.proofs.Common.{◌≡◌, ◌↔◌, ◌≤ℤ◌, pos, map, get_or, replicate, FitsSigned, to_z, of_z, w32, rules}
use Rattle.std.specs.Int.{bit_at, int_max, int_min}
use Rattle.tl_geom.proofs.Masks.{again, lanes-again, splat-lane}
use Rattle.tl_geom.proofs.Turns.{splat-lanes, lane-meets}
use Rattle.tl_geom.proofs.rect8.Rect8.meets8.Goals as goal

pub overlap8-west_to_east-requires-clause-low : goal.overlap8-west_to_east-requires-clause-low
overlap8-west_to_east-requires-clause-low c = lanes-again c.args.self.now.xmin c.args.self.now.west

pub overlap8-west_to_east-requires-clause-high : goal.overlap8-west_to_east-requires-clause-high
overlap8-west_to_east-requires-clause-high c = lanes-again c.args.self.now.xmax c.args.self.now.east

pub overlap8-south_to_north-requires-clause-low : goal.overlap8-south_to_north-requires-clause-low
overlap8-south_to_north-requires-clause-low c = lanes-again c.args.self.now.ymin c.args.self.now.south

pub overlap8-south_to_north-requires-clause-high : goal.overlap8-south_to_north-requires-clause-high
overlap8-south_to_north-requires-clause-high c = lanes-again c.args.self.now.ymax c.args.self.now.north

pub overlap8-west_to_east-requires-clause-low2 : goal.overlap8-west_to_east-requires-clause-low2
overlap8-west_to_east-requires-clause-low2 c = splat-lanes c.args.r.xmin (search rules)

pub overlap8-west_to_east-requires-clause-high2 : goal.overlap8-west_to_east-requires-clause-high2
overlap8-west_to_east-requires-clause-high2 c = splat-lanes c.args.r.xmax (search rules)

pub overlap8-south_to_north-requires-clause-low2 : goal.overlap8-south_to_north-requires-clause-low2
overlap8-south_to_north-requires-clause-low2 c = splat-lanes c.args.r.ymin (search rules)

pub overlap8-south_to_north-requires-clause-high2 : goal.overlap8-south_to_north-requires-clause-high2
overlap8-south_to_north-requires-clause-high2 c = splat-lanes c.args.r.ymax (search rules)

pub returns : goal.returns
returns c =
    let self = c.args.self.now in
    let r = c.args.r in
    let x : FitsSigned w32 r.xmin = search rules in
    let y : FitsSigned w32 r.ymin = search rules in
    let x' : FitsSigned w32 r.xmax = search rules in
    let y' : FitsSigned w32 r.ymax = search rules in
    λ k lt.
    let f : (bit_at c.overlap8-west_to_east.result k ≡ 1) ↔ (int_max (get_or (map (to_z w32) (map (of_z w32) self.xmin)) k (pos 0)) (get_or (map (to_z w32) (replicate 8 (of_z w32 r.xmin))) k (pos 0)) ≤ℤ int_min (get_or (map (to_z w32) (map (of_z w32) self.xmax)) k (pos 0)) (get_or (map (to_z w32) (replicate 8 (of_z w32 r.xmax))) k (pos 0))) = c.overlap8-west_to_east.ensures.lanes k lt in
    let g : (bit_at c.overlap8-south_to_north.result k ≡ 1) ↔ (int_max (get_or (map (to_z w32) (map (of_z w32) self.ymin)) k (pos 0)) (get_or (map (to_z w32) (replicate 8 (of_z w32 r.ymin))) k (pos 0)) ≤ℤ int_min (get_or (map (to_z w32) (map (of_z w32) self.ymax)) k (pos 0)) (get_or (map (to_z w32) (replicate 8 (of_z w32 r.ymax))) k (pos 0))) = c.overlap8-south_to_north.ensures.lanes k lt in
    lane-meets self r k c.overlap8-west_to_east.result c.overlap8-south_to_north.result lt
    (rw (again self.xmin self.west, again self.xmax self.east, splat-lane r.xmin k lt x, splat-lane r.xmax k lt x') at f)
    (rw (again self.ymin self.south, again self.ymax self.north, splat-lane r.ymin k lt y, splat-lane r.ymax k lt y') at g)
