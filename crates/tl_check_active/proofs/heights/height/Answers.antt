use Rattle.std.proofs.Common.{◌≡◌, pos, ◌*ℤ◌, arith}
use Rattle.std.proofs.lemmas.Int.{ints}
use Rattle.tl_geom.proofs.Polynomials.{num, ◌⊗◌, same}
use Rattle.tl_check_active.proofs.heights.height.Goals as goal

pub returns : goal.returns
returns c =
    let y = c.from.ensures in
    let x = c.from-2.ensures in
    let turned : c.args.p.y *ℤ pos 4294967296 ≡ pos 4294967296 *ℤ c.args.p.y = same (num c.args.p.y ⊗ num (pos 4294967296)) (num (pos 4294967296) ⊗ num c.args.p.y) (omega arith) in
    omega (arith, ints, y, x, turned)
