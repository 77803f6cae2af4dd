use Rattle.std.proofs.Common.{◌^◌, ◌∙◌, arith, refl, to_z-of_z}
use Rattle.std.specs.Int.{w128}
use Rattle.std.proofs.lemmas.Int.{fits_signed_from_abs, fits_signed_mul, unsigned_abs-mul}
use Rattle.tigertopo_pictures.proofs.SvgLemmas.FrameLemmas.{product_le}
use Rattle.tigertopo_pictures.proofs.svg.lean.product.Goals as goal

pub overflow_mul-result : goal.overflow_mul-result
overflow_mul-result c =
    let from = c.from.ensures ∙ to_z-of_z c.ranges.a in
    let a = to_z-of_z {z = c.args.a} (fits_signed_from_abs w128 _ (omega (arith, c.requires.first))) in
    let b = to_z-of_z c.ranges.b in
    rw (from, a, b) (fits_signed_mul w128 c.args.a c.args.b (2 ^ 48) (2 ^ 64) c.requires.first c.requires.second (omega arith))

pub returns : goal.returns
returns c =
    let from = c.from.ensures ∙ to_z-of_z c.ranges.a in
    let a = to_z-of_z {z = c.args.a} (fits_signed_from_abs w128 _ (omega (arith, c.requires.first))) in
    let b = to_z-of_z c.ranges.b in
    let back = to_z-of_z (fits_signed_mul w128 c.args.a c.args.b (2 ^ 48) (2 ^ 64) c.requires.first c.requires.second (omega arith)) in
    rw (from, a, b, back) (record {
      value = refl;
      bound = rw (unsigned_abs-mul c.args.a c.args.b) (product_le _ _ (2 ^ 48) (2 ^ 64) c.requires.first c.requires.second);
    })
