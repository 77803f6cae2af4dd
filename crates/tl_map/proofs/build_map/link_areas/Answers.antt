use Rattle.std.proofs.Common.{refl, arith}
use Rattle.std.proofs.lemmas.Result.{err_from_is_err_and}
use Rattle.indexmap.specs.IndexMap.{index_of}
use Rattle.tl_map_county.specs.Chains.{tlids}
use Rattle.tl_map_rules.specs.MapOf.{keys, same_key}
use Rattle.tl_map.proofs.IndexLemmas.{index_keys, keys_are, few_entries}
use Rattle.tl_map.proofs.MappedLemmas.{unpaired, twice, unknown_names, unlinked}
use Rattle.tl_map.proofs.UnbuiltLemmas.{stops_for}
use Rattle.tl_map.proofs.build_map.link_areas.Goals as goal

pub returns-clause-linked : goal.returns-clause-linked
returns-clause-linked c = λ rs skipped built keeps.
    let ps = c.args.areas.now.polygons.items in
    let entries = rw c.deref.ensures.value at c.in_ok-index.ensures.entries in
    let index = index_keys ps c.in_ok-index.index entries c.in_ok-index.ensures.unique in
    record {
      paired = c.pair_sides.new.sides;
      pairs = c.in_ok-pair_sides.ensures.paired;
      found = index_of same_key c.in_ok-index.index;
      numbers = index;
      resolved = c.in_ok-sides.ensures.sides (keys ps) index;
      known = c.in_ok-sides.ensures.known (keys ps) index;
      linked = rw (keys_are ps c.in_ok-index.index entries, c.deref-2.ensures.value, c.deref-3.ensures.value) at c.in_ok-linked.ensures;
    }

pub returns-clause-same : goal.returns-clause-same
returns-clause-same c = record { sides = c.pair_sides.ensures.moved; polygons = refl; landmarks = refl; links = refl }

pub resolve_sides-requires : goal.resolve_sides-requires
resolve_sides-requires c = omega (arith, few_entries c.args.areas.now.polygons.items c.in_ok-index.index (rw c.deref.ensures.value at c.in_ok-index.ensures.entries), c.requires.few)

pub build_landmarks-requires-clause-few : goal.build_landmarks-requires-clause-few
build_landmarks-requires-clause-few c = omega (arith, few_entries c.args.areas.now.polygons.items c.in_ok-index.index (rw c.deref.ensures.value at c.in_ok-index.ensures.entries), c.requires.few)

pub build_landmarks-requires-clause-unique : goal.build_landmarks-requires-clause-unique
build_landmarks-requires-clause-unique c = c.in_ok-index.ensures.unique

pub returns-in_err-pair_sides-clause-linked : goal.returns-in_err-pair_sides-clause-linked
returns-in_err-pair_sides-clause-linked c = λ rs skipped built keeps.
    let p = err_from_is_err_and c.from_residual.result c.from_residual.ensures.1 in
    rw (p.1, p.2) (stops_for _ _ c.in_err-pair_sides.field-0.0 (unpaired rs skipped c.args.chains.now c.args.areas.now.sides _ built keeps.sides c.pair_sides.ensures.moved) c.in_err-pair_sides.ensures.paired)

pub returns-in_err-index-clause-linked : goal.returns-in_err-index-clause-linked
returns-in_err-index-clause-linked c = λ rs skipped built keeps.
    let p = err_from_is_err_and c.from_residual-in_err-index.result c.from_residual-in_err-index.ensures.1 in
    rw (p.1, p.2) (stops_for _ _ c.in_err-index.field-0.0 (twice rs c.args.areas.now.polygons.items keeps.polygons) (rw c.deref.ensures.value at c.in_err-index.ensures.stops))

pub returns-in_err-sides-clause-linked : goal.returns-in_err-sides-clause-linked
returns-in_err-sides-clause-linked c = λ rs skipped built keeps.
    let ps = c.args.areas.now.polygons.items in
    let entries = rw c.deref.ensures.value at c.in_ok-index.ensures.entries in
    let index = index_keys ps c.in_ok-index.index entries c.in_ok-index.ensures.unique in
    let p = err_from_is_err_and c.from_residual-in_err-sides.result c.from_residual-in_err-sides.ensures.1 in
    rw (p.1, p.2) (stops_for _ _ c.in_err-sides.field-0.0 (unknown_names rs ps (tlids c.args.chains.now.chains) c.args.areas.now.sides c.pair_sides.new.sides keeps.polygons keeps.sides c.in_ok-pair_sides.ensures.paired) (c.in_err-sides.ensures.stops (keys ps) index))

pub returns-in_err-linked-clause-linked : goal.returns-in_err-linked-clause-linked
returns-in_err-linked-clause-linked c = λ rs skipped built keeps.
    let areas = c.args.areas.now in
    let entries = rw c.deref.ensures.value at c.in_ok-index.ensures.entries in
    let p = err_from_is_err_and c.from_residual-in_err-linked.result c.from_residual-in_err-linked.ensures.1 in
    rw (p.1, p.2) (stops_for _ _ c.in_err-linked.field-0.0 (unlinked rs areas.polygons.items areas.landmarks.items areas.links.items keeps.polygons keeps.landmarks keeps.links)
    (rw (keys_are areas.polygons.items c.in_ok-index.index entries, c.deref-2.ensures.value, c.deref-3.ensures.value) at c.in_err-linked.ensures))

pub returns-in_err-pair_sides-clause-same : goal.returns-in_err-pair_sides-clause-same
returns-in_err-pair_sides-clause-same c = record { sides = c.pair_sides.ensures.moved; polygons = refl; landmarks = refl; links = refl }

pub returns-in_err-index-clause-same : goal.returns-in_err-index-clause-same
returns-in_err-index-clause-same c = record { sides = c.pair_sides.ensures.moved; polygons = refl; landmarks = refl; links = refl }

pub returns-in_err-sides-clause-same : goal.returns-in_err-sides-clause-same
returns-in_err-sides-clause-same c = record { sides = c.pair_sides.ensures.moved; polygons = refl; landmarks = refl; links = refl }

pub returns-in_err-linked-clause-same : goal.returns-in_err-linked-clause-same
returns-in_err-linked-clause-same c = record { sides = c.pair_sides.ensures.moved; polygons = refl; landmarks = refl; links = refl }
