use Rattle.std.proofs.Common.{◌≤◌, ◌^◌, pos, arith, refl, to_z-of_z}
use Rattle.std.specs.Int.{w64}
use Rattle.std.proofs.lemmas.Int.{fits_signed_from_abs, fits_signed_mul, unsigned_abs-mul}
use Rattle.tigertopo_pictures.proofs.SvgLemmas.FrameLemmas.{product_le}
use Rattle.tigertopo_pictures.proofs.svg.lean.times.Goals as goal

pub overflow_mul-result : goal.overflow_mul-result
overflow_mul-result c =
    let first = to_z-of_z c.ranges.n in
    let small : c.args.weight ≤ 2 ^ 16 = omega (arith, c.ranges.weight) in
    let second = to_z-of_z {z = pos c.args.weight} (fits_signed_from_abs w64 _ (omega (arith, small))) in
    rw (c.from.ensures, first, second) (fits_signed_mul w64 c.args.n (pos c.args.weight) (2 ^ 32) (2 ^ 16) c.requires small (omega arith))

pub returns : goal.returns
returns c =
    let first = to_z-of_z c.ranges.n in
    let small : c.args.weight ≤ 2 ^ 16 = omega (arith, c.ranges.weight) in
    let second = to_z-of_z {z = pos c.args.weight} (fits_signed_from_abs w64 _ (omega (arith, small))) in
    let back = to_z-of_z (fits_signed_mul w64 c.args.n (pos c.args.weight) (2 ^ 32) (2 ^ 16) c.requires small (omega arith)) in
    rw (c.from.ensures, first, second, back) (record {
      value = refl;
      bound = rw (unsigned_abs-mul c.args.n (pos c.args.weight)) (product_le _ _ (2 ^ 32) (2 ^ 16) c.requires small);
    })
