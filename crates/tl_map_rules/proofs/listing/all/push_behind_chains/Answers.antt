use Rattle.std.proofs.Common.{ap, length, arith}
use Rattle.std.proofs.lemmas.Result.{err_from_is_err_and}
use Rattle.tl_map_rules.specs.Listing.Keeping.Parts.{chain_codes}
use Rattle.tl_map_rules.specs.Listing.Keeping.Numbers.{with_sides}
use Rattle.tl_map_rules.specs.Listing.Keeping.Areas.{with_areas}
use Rattle.tl_map_rules.proofs.ListingLemmas.PartLemmas.{sides_often, keys_long}
use Rattle.tl_map_rules.proofs.listing.all.push_behind_chains.Goals as goal

pub returns : goal.returns
returns c = λ rs are has told.
    let often = sides_often rs has.entries c.args.kept.sides.items c.sort_numbers.new.numbers.items has.moved has.sides c.sort_numbers.ensures.moved in
    let sides = c.in_ok-push_sides.ensures rs chain_codes are (rw c.deref.ensures.value often) told.segments_told.told in
    let areas = c.in_ok-landmarks.ensures rs (with_sides chain_codes) (rw (c.deref-2.ensures.value, c.deref-3.ensures.value) (record { entries = has.entries; moved = has.moved; of_polygons = has.polygons; of_sides = has.names; of_landmarks = has.landmarks; of_links = has.links })) sides in
    c.push_too_many.ensures rs (with_areas (with_sides chain_codes)) (record {
      too_many_chains = told.too_many;
      few_chains = told.few;
      too_many_segments = told.segments_told.too_many;
      few_segments = told.segments_told.few;
      polygons = omega (arith, c.len-polygon_count.ensures, c.args.kept.polygons.ok.0, ap length has.polygons, keys_long rs);
      landmarks = areas.landmarks;
    }) areas.told

pub push_sides-requires : goal.push_sides-requires
push_sides-requires c = record { chains = c.requires; sides = rw c.deref.ensures.value c.sort_numbers.ensures.ordered }

pub returns-in_err-push_sides : goal.returns-in_err-push_sides
returns-in_err-push_sides c = λ rs are has told. let p = err_from_is_err_and c.from_residual.result c.from_residual.ensures.1 in rw p.1 tt

pub returns-in_err-landmarks : goal.returns-in_err-landmarks
returns-in_err-landmarks c = λ rs are has told. let p = err_from_is_err_and c.from_residual-in_err-landmarks.result c.from_residual-in_err-landmarks.ensures.1 in rw p.1 tt
