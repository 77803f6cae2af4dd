use Rattle.std.proofs.Common.{◌≡◌, refl, map, None, slice_get, string_bytes, ◌∙◌, ap}
use Rattle.std.proofs.lemmas.Option.{slice_get-map, slice_get_past}
use Rattle.std.specs.Prelude.{option_map}
use Rattle.tigertopo_faults.proofs.WordLemmas.{mapped_at}
use Rattle.tl_cert_output.proofs.PageLemmas.{both, as_text}
use Rattle.tigertopo_faults.proofs.lines.line.print_place.Goals as goal

pub returns-then-place-names : goal.returns-then-place-names
returns-then-place-names g c =
    let page = g.met.P.Page.adding in
    let name = mapped_at string_bytes c.args.names.now c.args.place.text c.index-names-place.result c.if-place-names.true c.index-names-place.is in
    as_text page (both page (both page c.print_name.ensures c.add.ensures) c.number.ensures) (rw (name, c.as_str.ensures.value) refl)

pub returns-else-place-names : goal.returns-else-place-names
returns-else-place-names g c =
    let page = g.met.P.Page.adding in
    let none : slice_get (map string_bytes c.args.names.now) c.args.place.text ≡ None =
    slice_get-map string_bytes c.args.names.now c.args.place.text ∙ ap (option_map string_bytes) (slice_get_past c.args.names.now c.args.place.text c.if-place-names.false) in
    as_text page c.print_whole.ensures (rw none refl)
