use Rattle.std.proofs.Common.{refl, to_z-of_z}
use Rattle.tigertopo_border.specs.Spelling.{coordinate_field}
use Rattle.tl_cert_output.proofs.PageLemmas.{both, as_text}
use Rattle.tigertopo_border.proofs.fields.print_coordinate.Goals as goal

pub returns : goal.returns
unfolding coordinate_field
returns g c =
    let page = g.met.P.Page.adding in
    let back = to_z-of_z c.ranges.value in
    as_text page (both page c.add.ensures c.print_filled.ensures) (rw (c.sign_of.ensures, c.from.ensures, c.unsigned_abs.ensures.value, back) refl)
