use Rattle.std.proofs.Common.{lit≤, ◌^◌, ap, pos, ◌≤ℤ◌, ◌<ℤ◌, rules}
use Rattle.std.proofs.lemmas.Int.{to_z-of_z}
use mir.Syntax.{w128}
use mir.Val.{to_z, of_z}
use Rattle.tl_geom.proofs.Fitting.{kept, bound128, place_found}
use Rattle.tl_geom.proofs.meeting.place.Goals as goal

pub coordinate-requires-clause-bound : goal.coordinate-requires-clause-bound
coordinate-requires-clause-bound c = bound128 (2 ^ 65) c.args.parts (lit≤ tt) c.requires.bound

pub coordinate-requires-clause-from : goal.coordinate-requires-clause-from
coordinate-requires-clause-from c = kept w128 c.args.along c.ranges.along (λ z. pos 0 ≤ℤ z) c.requires.from

pub coordinate-requires-clause-to : goal.coordinate-requires-clause-to
coordinate-requires-clause-to c =
    kept w128 c.args.along c.ranges.along (λ z. z ≤ℤ to_z w128 (of_z w128 c.args.parts)) (kept w128 c.args.parts c.ranges.parts (λ z. c.args.along ≤ℤ z) c.requires.to)

pub coordinate-requires-2-clause-bound : goal.coordinate-requires-2-clause-bound
coordinate-requires-2-clause-bound c = bound128 (2 ^ 65) c.args.parts (lit≤ tt) c.requires.bound

pub coordinate-requires-2-clause-from : goal.coordinate-requires-2-clause-from
coordinate-requires-2-clause-from c = kept w128 c.args.along c.ranges.along (λ z. pos 0 ≤ℤ z) c.requires.from

pub coordinate-requires-2-clause-to : goal.coordinate-requires-2-clause-to
coordinate-requires-2-clause-to c =
    kept w128 c.args.along c.ranges.along (λ z. z ≤ℤ to_z w128 (of_z w128 c.args.parts)) (kept w128 c.args.parts c.ranges.parts (λ z. c.args.along ≤ℤ z) c.requires.to)

pub invariant_of-result : goal.invariant_of-result
invariant_of-result c = record { above_zero = kept w128 c.args.parts c.ranges.parts (λ z. pos 0 <ℤ z) c.requires.above }

pub returns-clause-x : goal.returns-clause-x
returns-clause-x c =
    place_found c.args.parts c.args.along c.a.result.x c.b.result.x c.coordinate.result c.args.s.a.x c.args.s.b.x c.ranges.parts c.ranges.along
    (search rules) (search rules) (search rules) (ap (λ p. p.x) c.a.ensures) (ap (λ p. p.x) c.b.ensures) c.coordinate.ensures

pub returns-clause-y : goal.returns-clause-y
returns-clause-y c =
    place_found c.args.parts c.args.along c.a-2.result.y c.b-2.result.y c.coordinate-2.result c.args.s.a.y c.args.s.b.y c.ranges.parts c.ranges.along
    (search rules) (search rules) (search rules) (ap (λ p. p.y) c.a-2.ensures) (ap (λ p. p.y) c.b-2.ensures) c.coordinate-2.ensures

pub returns-clause-d : goal.returns-clause-d
returns-clause-d c = to_z-of_z w128 c.args.parts c.ranges.parts
