use Rattle.std.proofs.Common.{◌∙◌}
use Rattle.std.proofs.lemmas.Result.{err_from_is_err_and}
use Rattle.tl_map_rules.proofs.ListingLemmas.LimitLemmas.{landmarks_counted}
use Rattle.tl_map_rules.proofs.ListingLemmas.PartLemmas.{kept_areas}
use Rattle.tl_map_rules.proofs.listing.all.push_of_areas.Goals as goal

pub returns : goal.returns
returns c = λ rs codes keeps before.
    let areas = kept_areas rs c.args.polygons.items c.sort_keys.new.keys.items c.args.names.now c.args.landmarks.items c.sort_numbers.new.numbers.items c.args.links.now c.in_ok-lands.lands.items keeps c.sort_keys.ensures.moved c.sort_numbers.ensures.moved c.in_ok-lands.ensures.moved in
    record {
      told = c.in_ok-push_areas.ensures rs codes (rw (c.deref.ensures.value, c.deref-2.ensures.value, c.deref-3.ensures.value) areas) before;
      landmarks = c.count_distinct.ensures ∙ landmarks_counted rs c.sort_numbers.new.numbers.items c.sort_numbers.ensures.ordered areas.of_landmarks;
    }

pub push_areas-requires : goal.push_areas-requires
push_areas-requires c = record {
  polygons = rw c.deref.ensures.value c.sort_keys.ensures.ordered;
  landmarks = rw c.deref-2.ensures.value c.sort_numbers.ensures.ordered;
  lands = rw c.deref-3.ensures.value c.in_ok-lands.ensures.ordered;
}

pub returns-in_err-lands : goal.returns-in_err-lands
returns-in_err-lands c = λ rs codes keeps before. let p = err_from_is_err_and c.from_residual.result c.from_residual.ensures.1 in rw p.1 tt

pub returns-in_err-push_areas : goal.returns-in_err-push_areas
returns-in_err-push_areas c = λ rs codes keeps before. let p = err_from_is_err_and c.from_residual-in_err-push_areas.result c.from_residual-in_err-push_areas.ensures.1 in rw p.1 tt
