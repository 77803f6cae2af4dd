use Rattle.std.proofs.Common.{ℤ, refl, ap, ◌∙◌}
use Rattle.std.specs.Prelude.{unsigned_abs}
use Rattle.std.specs.Int.{w128}
use Rattle.std.proofs.lemmas.Int.{to_z-of_z}
use Rattle.tigertopo_faults.specs.Places.Degrees.{degrees_text, sign_of}
use Rattle.tigertopo_faults.proofs.DegreeLemmas.{units_are}
use Rattle.tl_cert_output.proofs.PageLemmas.{both, as_text}
use Rattle.tigertopo_faults.proofs.places.degrees.print_degrees.Goals as goal

pub returns : goal.returns
unfolding degrees_text
returns g c =
    let page = g.met.P.Page.adding in
    let x_is = to_z-of_z w128 c.args.x c.ranges.x in
    let d_is = to_z-of_z w128 c.args.d c.ranges.d in
    let units = units_are c.args.places c.args.x c.args.d c.distance.result c.distance-2.result c.units_of-units.result (c.distance.ensures ∙ ap unsigned_abs x_is)
    (c.distance-2.ensures ∙ ap unsigned_abs d_is) c.units_of-units.ensures in
    let sign = as_text page c.print_sign.ensures (ap (λ (z : ℤ). sign_of z c.units_of-units.result) x_is) in
    as_text page (both page (both page (both page sign c.number.ensures) c.add.ensures) c.print_digits.ensures) (rw (c.power.ensures.power, units) refl)
