use Rattle.std.proofs.Common.{◌++◌, ◌∷◌, [], Some, sym, ap, ◌∙◌}
use Rattle.std.proofs.lemmas.Result.{err_from_is_err_and}
use Rattle.std.specs.List.{flat_map}
use Rattle.tl_map_county.specs.TheMap.{MapLandmark}
use Rattle.tigertopo_pictures.proofs.GeojsonLemmas.TextLemmas.{each_next}
use Rattle.tigertopo_pictures.proofs.geojson.polygons.list_links.Goals as goal

pub loop-number-preserved : goal.loop-number-preserved
loop-number-preserved c =
    let m = c.args.map.now in
    let n = c.loop-number.number in
    let landmark = c.landmark.ensures.landmark in (
      c.in_ok-add_links.ensures.lands ∙ ap (λ l. l ++ flat_map (λ p. c.landmark.result.land ∷ []) c.landmark.result.polygons.now) c.loop-number.invariant.0
          ∙ sym (each_next (λ (l : MapLandmark). flat_map (λ p. l.land ∷ []) l.polygons) m.landmarks n _ landmark),
      c.in_ok-add_links.ensures.polygons ∙ ap (λ l. l ++ flat_map (λ p. Some p ∷ []) c.landmark.result.polygons.now) c.loop-number.invariant.1
          ∙ sym (each_next (λ (l : MapLandmark). flat_map (λ p. Some p ∷ []) l.polygons) m.landmarks n _ landmark),
    )

pub returns-in_err-add_links : goal.returns-in_err-add_links
returns-in_err-add_links c = let p = err_from_is_err_and c.from_residual.result c.from_residual.ensures.1 in rw p.1 (record { lands = tt; polygons = tt })
