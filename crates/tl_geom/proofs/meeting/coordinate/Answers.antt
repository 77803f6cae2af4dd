use Rattle.std.proofs.Common.{lit≤, ◌^◌}
use Rattle.tl_geom.proofs.Fitting.{bound128, share_bound, narrow_bound, wide_bound, coordinate_found}
use Rattle.tl_geom.proofs.meeting.coordinate.Goals as goal

pub scaled-requires-clause-first : goal.scaled-requires-clause-first
scaled-requires-clause-first c = bound128 (2 ^ 65) c.args.parts (lit≤ tt) c.requires.bound

pub scaled-requires-2-clause-first : goal.scaled-requires-2-clause-first
scaled-requires-2-clause-first c = bound128 (2 ^ 65) c.args.along (lit≤ tt) (share_bound c.args.parts c.args.along c.requires.bound c.requires.from c.requires.to)

pub sum-requires-clause-first : goal.sum-requires-clause-first
sum-requires-clause-first c = bound128 (2 ^ 97) c.scaled.result (lit≤ tt) c.scaled.ensures.bound

pub sum-requires-clause-second : goal.sum-requires-clause-second
sum-requires-clause-second c = bound128 (2 ^ 97) c.scaled-2.result (lit≤ tt) c.scaled-2.ensures.bound

pub scaled-requires-clause-second : goal.scaled-requires-clause-second
scaled-requires-clause-second c = narrow_bound c.args.a c.from.result c.ranges.a c.from.ensures

pub scaled-requires-2-clause-second : goal.scaled-requires-2-clause-second
scaled-requires-2-clause-second c = wide_bound c.difference.result c.from-2.result c.difference.ensures.bound c.from-2.ensures

pub returns : goal.returns
returns c =
    coordinate_found c.args.parts c.args.along c.args.a c.args.b c.from.result c.difference.result c.from-2.result c.scaled.result c.scaled-2.result c.sum.result
    c.ranges.parts c.ranges.along c.ranges.a c.ranges.b (record { sfits = c.sum.type_inv }) c.from.ensures c.difference.ensures.value c.difference.ensures.bound c.from-2.ensures
    c.scaled.ensures.value c.scaled.ensures.bound c.scaled-2.ensures.value c.scaled-2.ensures.bound c.sum.ensures
