use Rattle.std.proofs.lemmas.Result.{err_from_is_err_and}
use Rattle.std.proofs.Common.{◌≡◌, ◌∙◌, None, ◌++◌, ◌∷◌, [], pos, get_or, map, sym, ap}
use Rattle.std.specs.Map.{lookup}
use Rattle.std.proofs.lemmas.List.{map_more, take_all}
use Rattle.indexmap.specs.IndexMap.{get}
use Rattle.indexmap.proofs.CallerLemmas.{insert_entry-new}
use Rattle.tl_map_county.specs.declared.polygons.Polygon.{Polygon}
use Rattle.tl_map_rules.specs.MapOf.{same_key}
use Rattle.tl_map.specs.Keeping.Index.{entry_of}
use Rattle.tl_map.proofs.IndexLemmas.{twice_told, none_told}
use Rattle.tl_map_county.proofs.PlaceLemmas.{slice_get-image}
use Rattle.tl_map.proofs.polygons.index_polygons.Goals as goal

pub returns-then-is_some-clause-stops : goal.returns-then-is_some-clause-stops
returns-then-is_some-clause-stops c =
    let at = slice_get-image (λ (p : Polygon). p.key) c.args.polygons.now c.loop-polygon.polygon-index _ c.loop-polygon-test.true in
    (_, twice_told c.args.polygons.now c.loop-polygon.polygon-index _ c.in_ok-insert.field-0 at (c.in_ok-insert.ensures.old ∙ ap (lookup (same_key _)) c.loop-polygon.invariant.entries) (sym c.is_some.ensures ∙ c.if-is_some.true))

pub loop-polygon-preserved : goal.loop-polygon-preserved
loop-polygon-preserved c =
    let none : get same_key c.loop-polygon.index _ ≡ None = sym c.in_ok-insert.ensures.old ∙ none_told c.in_ok-insert.field-0 (sym c.is_some.ensures ∙ c.if-is_some.false) in
    let x : Polygon = record { key = record { cenid = []; polyid = 0 }; point = record { x = pos 0; y = pos 0 } } in
    let p = get_or c.args.polygons.now c.loop-polygon.polygon-index x in
    record {
      entries = c.in_ok-insert.ensures.entries ∙ insert_entry-new same_key c.loop-polygon.index p.key p.point none ∙ ap (λ es. es ++ entry_of p ∷ []) c.loop-polygon.invariant.entries
          ∙ sym (map_more entry_of c.args.polygons.now c.loop-polygon.polygon-index x c.loop-polygon-test.true);
      unique = c.insert.ensures.unique;
    }

pub returns-clause-entries : goal.returns-clause-entries
returns-clause-entries c = c.loop-polygon.invariant.entries ∙ ap (map entry_of) (take_all c.loop-polygon.polygon-index c.args.polygons.now c.loop-polygon-test.false)

pub returns-in_err-index-clause-entries : goal.returns-in_err-index-clause-entries
returns-in_err-index-clause-entries c =
    let p = err_from_is_err_and c.from_residual.result c.from_residual.ensures.1 in
    rw p.1 tt

pub returns-in_err-index-clause-unique : goal.returns-in_err-index-clause-unique
returns-in_err-index-clause-unique c =
    let p = err_from_is_err_and c.from_residual.result c.from_residual.ensures.1 in
    rw p.1 tt

pub returns-in_err-index-clause-stops : goal.returns-in_err-index-clause-stops
returns-in_err-index-clause-stops c =
    let p = err_from_is_err_and c.from_residual.result c.from_residual.ensures.1 in
    rw (p.1, p.2) tt

pub returns-in_err-insert-clause-entries : goal.returns-in_err-insert-clause-entries
returns-in_err-insert-clause-entries c =
    let p = err_from_is_err_and c.from_residual-in_err-insert.result c.from_residual-in_err-insert.ensures.1 in
    rw p.1 tt

pub returns-in_err-insert-clause-unique : goal.returns-in_err-insert-clause-unique
returns-in_err-insert-clause-unique c =
    let p = err_from_is_err_and c.from_residual-in_err-insert.result c.from_residual-in_err-insert.ensures.1 in
    rw p.1 tt

pub returns-in_err-insert-clause-stops : goal.returns-in_err-insert-clause-stops
returns-in_err-insert-clause-stops c =
    let p = err_from_is_err_and c.from_residual-in_err-insert.result c.from_residual-in_err-insert.ensures.1 in
    rw (p.1, p.2) tt

pub returns-then-is_some-clause-entries : goal.returns-then-is_some-clause-entries
returns-then-is_some-clause-entries c = tt

pub returns-then-is_some-clause-unique : goal.returns-then-is_some-clause-unique
returns-then-is_some-clause-unique c = tt

pub returns-clause-unique : goal.returns-clause-unique
returns-clause-unique c = c.loop-polygon.invariant.unique

pub returns-clause-stops : goal.returns-clause-stops
returns-clause-stops c = tt
