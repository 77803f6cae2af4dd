use Rattle.std.proofs.Common.{ap, map, ◌∙◌}
use Rattle.std.proofs.lemmas.Result.{err_from_is_err_and}
use Rattle.tl_map_rules.specs.declared.entry.LandmarkEntry.{LandmarkEntry}
use Rattle.tl_map_rules.specs.MapOf.{keys}
use Rattle.tl_map.proofs.left.keep_areas.Goals as goal

pub returns : goal.returns
returns c = λ rs h. record {
  entries = c.args.areas.sides;
  moved = h.sides;
  sides = c.in_ok-tlids.ensures;
  names = c.in_ok-names.ensures;
  polygons = c.in_ok-polygons.ensures ∙ rw c.deref.ensures.value (ap keys h.polygons);
  landmarks = c.in_ok-landmarks.ensures ∙ rw c.deref-2.ensures.value (ap (map (λ (e : LandmarkEntry). e.land)) h.landmarks);
  links = h.links;
}

pub returns-in_err-tlids : goal.returns-in_err-tlids
returns-in_err-tlids c = λ rs h. let p = err_from_is_err_and c.from_residual.result c.from_residual.ensures.1 in rw p.1 tt

pub returns-in_err-names : goal.returns-in_err-names
returns-in_err-names c = λ rs h. let p = err_from_is_err_and c.from_residual-in_err-names.result c.from_residual-in_err-names.ensures.1 in rw p.1 tt

pub returns-in_err-polygons : goal.returns-in_err-polygons
returns-in_err-polygons c = λ rs h. let p = err_from_is_err_and c.from_residual-in_err-polygons.result c.from_residual-in_err-polygons.ensures.1 in rw p.1 tt

pub returns-in_err-landmarks : goal.returns-in_err-landmarks
returns-in_err-landmarks c = λ rs h. let p = err_from_is_err_and c.from_residual-in_err-landmarks.result c.from_residual-in_err-landmarks.ensures.1 in rw p.1 tt
