use Rattle.std.proofs.Common.{pos, ◌≤ℤ◌, subst, arith}
use Rattle.std.proofs.lemmas.Int.{ints}
use Rattle.tl_geom.proofs.Rays.{ray_meets}
use Rattle.tl_geom.proofs.laws.crossed_segment.Goals as goal

pub returns : goal.returns
returns c =
    let first : c.a.result.x ≤ℤ pos 2147483647 = omega (arith, ints) in
    let last : c.b.result.x ≤ℤ pos 2147483647 = omega (arith, ints) in
    ray_meets c.args.s c.args.q (subst (λ p. p.x ≤ℤ pos 2147483647) c.a.ensures first) (subst (λ p. p.x ≤ℤ pos 2147483647) c.b.ensures last)
