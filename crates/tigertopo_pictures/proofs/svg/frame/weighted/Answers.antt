use Rattle.std.proofs.Common.{◌*◌, ◌^◌, pos, arith, refl, to_z-of_z}
use Rattle.std.specs.Int.{w64}
use Rattle.std.proofs.lemmas.Int.{fits_signed_from_abs, fits_signed_mul, unsigned_abs-mul}
use Rattle.tigertopo_pictures.proofs.SvgLemmas.FrameLemmas.{product_le}
use Rattle.tigertopo_pictures.proofs.svg.frame.weighted.Goals as goal

pub overflow_mul-result : goal.overflow_mul-result
overflow_mul-result c =
    let first = to_z-of_z c.ranges.steps in
    let second = to_z-of_z {z = pos c.args.weight} (fits_signed_from_abs w64 _ (omega (arith, c.requires.small))) in
    rw (c.from.ensures, first, second) (fits_signed_mul w64 c.args.steps (pos c.args.weight) (3 * 2 ^ 32) (322000000) c.requires.few (c.requires.small) (omega arith))

pub returns : goal.returns
returns c =
    let first = to_z-of_z c.ranges.steps in
    let second = to_z-of_z {z = pos c.args.weight} (fits_signed_from_abs w64 _ (omega (arith, c.requires.small))) in
    let back = to_z-of_z (fits_signed_mul w64 c.args.steps (pos c.args.weight) (3 * 2 ^ 32) (322000000) c.requires.few (c.requires.small) (omega arith)) in
    rw (c.from.ensures, first, second, back) (record {
      value = refl;
      bound = rw (unsigned_abs-mul c.args.steps (pos c.args.weight)) (let few = product_le _ _ (3 * 2 ^ 32) (322000000) c.requires.few c.requires.small in omega (arith, few));
    })
