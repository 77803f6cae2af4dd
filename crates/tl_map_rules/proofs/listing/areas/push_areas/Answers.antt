use Rattle.std.proofs.Common.{◌∷◌}
use Rattle.std.proofs.lemmas.Result.{err_from_is_err_and, on_ok_weaker}
use Rattle.tl_map_rules.specs.declared.entry.LinkEntry.{LinkEntry}
use Rattle.tl_map_rules.specs.Listing.Keeping.Told.{Tells}
use Rattle.tl_map_rules.specs.Listing.Keeping.Numbers.{IsMissing}
use Rattle.tl_map_rules.specs.Listing.Keeping.Keys.{link_fault}
use Rattle.tl_map_rules.proofs.ListingLemmas.AreaLemmas.{told_duplicate_polygons, told_unknown_sides, told_unknown_lands, told_unknown_links}
use Rattle.tl_map_rules.proofs.listing.areas.push_areas.Goals as goal

pub returns : goal.returns
returns c = λ rs codes are before.
    let polygons = c.args.polygons.now in
    let eight = told_duplicate_polygons rs codes polygons _ _ c.requires.polygons are.of_polygons c.in_ok-push_repeated_keys.ensures before in
    let nine = told_unknown_sides rs (8 ∷ codes) are.entries c.args.names.now polygons _ _ are.moved are.of_sides are.of_polygons c.in_ok-push_unknown_sides.ensures eight in
    let ten = told_unknown_lands rs (9 ∷ 8 ∷ codes) c.args.lands.now c.args.landmarks.now _ _ are.of_lands are.of_landmarks c.in_ok-push_missing.ensures nine in
    on_ok_weaker c.push_unknown_links.result (λ (tells : Tells (IsMissing link_fault (λ (l : LinkEntry). l.key) c.args.links.now polygons) c.push_missing.new.faults.items c.push_unknown_links.new.faults.items).
    told_unknown_links rs (10 ∷ 9 ∷ 8 ∷ codes) c.args.links.now polygons _ _ are.of_links are.of_polygons tells ten) c.push_unknown_links.ensures

pub returns-in_err-push_repeated_keys : goal.returns-in_err-push_repeated_keys
returns-in_err-push_repeated_keys c = λ rs codes are before. let p = err_from_is_err_and c.from_residual.result c.from_residual.ensures.1 in rw p.1 tt

pub returns-in_err-push_unknown_sides : goal.returns-in_err-push_unknown_sides
returns-in_err-push_unknown_sides c = λ rs codes are before. let p = err_from_is_err_and c.from_residual-in_err-push_unknown_sides.result c.from_residual-in_err-push_unknown_sides.ensures.1 in rw p.1 tt

pub returns-in_err-push_missing : goal.returns-in_err-push_missing
returns-in_err-push_missing c = λ rs codes are before. let p = err_from_is_err_and c.from_residual-in_err-push_missing.result c.from_residual-in_err-push_missing.ensures.1 in rw p.1 tt
