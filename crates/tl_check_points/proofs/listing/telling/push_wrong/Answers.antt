use Rattle.std.proofs.lemmas.Result.{err_from_is_err_and, on_ok_weaker}
use Rattle.tl_check_points.specs.Listing.Hidden.{IsMarked}
use Rattle.tl_check_points.specs.Listing.Keeping.Parts.{IsIn, HasRow}
use Rattle.tl_check_points.proofs.ListingLemmas.Rows.{rows_joined}
use Rattle.tl_check_points.proofs.ListingLemmas.Marking.{both_so, listed_unmarked, in_unmarked}
use Rattle.tl_check_points.proofs.listing.telling.push_wrong.Goals as goal

pub push_others-requires-clause-odd : goal.push_others-requires-clause-odd
push_others-requires-clause-odd c =
    rw c.deref.ensures.value (in_unmarked c.args.marks.now c.args.odd.now c.list_unmarked.new.kept.items (IsIn c.args.map.now c.args.polygon.point c.args.p)
    c.requires.odd.each c.in_ok-list_unmarked.ensures.same)

pub returns : goal.returns
returns c =
    let m = c.args.map.now in
    let listed = listed_unmarked c.args.marks.now c.args.odd.now c.list_unmarked.new.kept.items (IsIn m c.args.polygon.point c.args.p)
    c.in_ok-list_unmarked.ensures.rising c.in_ok-list_unmarked.ensures.same c.requires.odd in
    on_ok_weaker c.push_others.result (λ (row : HasRow m c.args.p 2 c.deref.result.now c.push_outside.new.found.items c.push_others.new.found.items).
    rows_joined (IsMarked c.args.marks.now) m c.args.p c.args.polygon c.args.held.now c.is_told.result c.deref.result.now c.args.found.now.items c.push_chains.new.found.items
    c.push_outside.new.found.items c.push_others.new.found.items
    c.requires.is c.requires.held (both_so c.args.outside c.is_told.result c.is_told.ensures c.requires.outside)
    (rw c.deref.ensures.value listed) c.in_ok-push_chains.ensures c.in_ok-push_outside.ensures row) c.push_others.ensures

pub returns-in_err-push_chains : goal.returns-in_err-push_chains
returns-in_err-push_chains c = let p = err_from_is_err_and c.from_residual.result c.from_residual.ensures.1 in rw p.1 tt

pub returns-in_err-push_outside : goal.returns-in_err-push_outside
returns-in_err-push_outside c = let p = err_from_is_err_and c.from_residual-in_err-push_outside.result c.from_residual-in_err-push_outside.ensures.1 in rw p.1 tt

pub returns-in_err-list_unmarked : goal.returns-in_err-list_unmarked
returns-in_err-list_unmarked c = let p = err_from_is_err_and c.from_residual-in_err-list_unmarked.result c.from_residual-in_err-list_unmarked.ensures.1 in rw p.1 tt
