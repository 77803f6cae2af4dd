use Rattle.std.proofs.Common.{◌≡◌, ◌∙◌, ◌-◌, ◌+◌, ◌<◌, Some, length, sym, ap, arith, rules}
use Rattle.std.specs.Option.{option_map}
use Rattle.std.proofs.lemmas.Option.{slice_get-get_or}
use Rattle.tl_map_county.proofs.RowLemmas.{length-landmarks_in, slice_get-landmarks_in, cut_read}
use Rattle.tl_map_county.proofs.map.Map.landmark.Goals as goal

pub index-row-requires : goal.index-row-requires
index-row-requires c =
    let m = c.self.inside in
    let long = length-landmarks_in m.linked.items m.landmarks.items m.rows.items c.self.invariant.8 in
    omega (arith, long, c.self.invariant.8, m.rows.ok.0, rw (← c.self.view_is) at c.requires)

pub index-requires : goal.index-requires
index-requires c =
    let m = c.self.inside in
    let long = length-landmarks_in m.linked.items m.landmarks.items m.rows.items c.self.invariant.8 in
    omega (arith, long, rw (← c.self.view_is) at c.requires)

pub returns-clause-landmark : goal.returns-clause-landmark
returns-clause-landmark c =
    let m = c.self.inside in
    let row = c.index-row.result.now in
    let long = length-landmarks_in m.linked.items m.landmarks.items m.rows.items c.self.invariant.8 in
    let within : c.args.l < length m.rows.items = omega (arith, long, c.self.invariant.8, rw (← c.self.view_is) at c.requires) in
    let here = slice_get-get_or m.rows.items c.args.l row within ∙ ap Some (sym c.index-row.ensures) in
    let e = c.index.result.now in
    let there : c.args.l < length m.landmarks.items = omega (arith, long, rw (← c.self.view_is) at c.requires) in
    let at = slice_get-get_or m.landmarks.items c.args.l e there ∙ ap Some (sym c.index.ensures) in
    rw (← c.self.view_is) (slice_get-landmarks_in m.linked.items m.landmarks.items m.rows.items c.args.l _ row at here
    ∙ ap (option_map (λ ps. record { land = e.0; point = e.1; polygons = ps })) (cut_read row.first row.count m.linked.items c.deref.result.now c.deref.ensures.value))

pub returns-clause-polygons : goal.returns-clause-polygons
returns-clause-polygons c =
    let m = c.self.inside in
    let row = c.index-row.result.now in
    let long = length-landmarks_in m.linked.items m.landmarks.items m.rows.items c.self.invariant.8 in
    let within : c.args.l < length m.rows.items = omega (arith, long, c.self.invariant.8, rw (← c.self.view_is) at c.requires) in
    let these = c.self.invariant.7 c.args.l row within in
    let n : row.first + row.count - row.first ≡ row.count = omega arith in
    rw (← c.self.view_is, n, c.deref.ensures.value) (rw (← c.index-row.ensures) at these)

pub overflow_add-result : goal.overflow_add-result
overflow_add-result c =
    let m = c.self.inside in
    let row = c.index-row.result.now in
    let long = length-landmarks_in m.linked.items m.landmarks.items m.rows.items c.self.invariant.8 in
    let within : c.args.l < length m.rows.items = omega (arith, long, c.self.invariant.8, rw (← c.self.view_is) at c.requires) in
    let inside = rw (← c.index-row.ensures) at (c.self.invariant.3 c.args.l row within) in
    search rules

pub offset_bounds-deref-row : goal.offset_bounds-deref-row
offset_bounds-deref-row c =
    let m = c.self.inside in
    let row = c.index-row.result.now in
    let long = length-landmarks_in m.linked.items m.landmarks.items m.rows.items c.self.invariant.8 in
    let within : c.args.l < length m.rows.items = omega (arith, long, c.self.invariant.8, rw (← c.self.view_is) at c.requires) in
    let inside = rw (← c.index-row.ensures) at (c.self.invariant.3 c.args.l row within) in
    search rules

pub slice_bounds-result-end : goal.slice_bounds-result-end
slice_bounds-result-end c =
    let m = c.self.inside in
    let row = c.index-row.result.now in
    let long = length-landmarks_in m.linked.items m.landmarks.items m.rows.items c.self.invariant.8 in
    let within : c.args.l < length m.rows.items = omega (arith, long, c.self.invariant.8, rw (← c.self.view_is) at c.requires) in
    let inside = rw (← c.index-row.ensures) at (c.self.invariant.3 c.args.l row within) in
    search rules
