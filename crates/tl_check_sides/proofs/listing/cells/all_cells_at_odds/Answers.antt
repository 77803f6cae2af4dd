use Rattle.std.proofs.Common.{List, length, arith, subst}
use Rattle.std.proofs.lemmas.Result.{err_from_is_err_and}
use Rattle.tl_check_sides.specs.declared.listing.starts.CellStart.{CellStart}
use Rattle.tl_check_sides.specs.Listing.Keeping.Odds.{HaveTold}
use Rattle.tl_check_sides.proofs.ListingLemmas.StartLemmas.{sorted_of, firsts_of}
use Rattle.tl_check_sides.proofs.ListingLemmas.Telling.{all_told}
use Rattle.tl_check_sides.proofs.listing.cells.all_cells_at_odds.Goals as goal

pub find_pairs-requires-clause-starts : goal.find_pairs-requires-clause-starts
find_pairs-requires-clause-starts c = rw c.deref-2.ensures.value (sorted_of c.args.map.now.chains c.in-Ok.starts.items c.sort_by_id.new.starts.items c.in-Ok.ensures c.sort_by_id.ensures.moved c.sort_by_id.ensures.ordered)

pub find_pairs-requires-clause-firsts : goal.find_pairs-requires-clause-firsts
find_pairs-requires-clause-firsts c =
    let firsts = c.in-Ok-first_at_nodes.ensures.firsts in
    rw c.deref-3.ensures.value (firsts_of c.args.map.now.chains c.in-Ok.starts.items _ c.in-Ok.ensures (rw c.deref.ensures.value at firsts))

pub find_pairs-requires-clause-known : goal.find_pairs-requires-clause-known
find_pairs-requires-clause-known c = rw c.deref-2.ensures.value (λ k d lt.
    let sorted = sorted_of c.args.map.now.chains c.in-Ok.starts.items c.sort_by_id.new.starts.items c.in-Ok.ensures c.sort_by_id.ensures.moved c.sort_by_id.ensures.ordered in
    let one = sorted.each k d lt in
    let below = one.within c.nodes.ensures.0 c.nodes.ensures.1 in
    let count = c.nodes.ensures.2 in
    let long = c.in-Ok-first_at_nodes.ensures.long in
    rw c.deref-3.ensures.value (omega (arith, below, count, long)))

pub returns : goal.returns
returns c =
    all_told c.args.map.now.chains c.sort_by_id.new.starts.items c.in_ok-found.found.items c.sort_pairs.new.found.items
    (sorted_of c.args.map.now.chains c.in-Ok.starts.items c.sort_by_id.new.starts.items c.in-Ok.ensures c.sort_by_id.ensures.moved c.sort_by_id.ensures.ordered)
    (subst (λ (starts : List CellStart). HaveTold c.args.map.now.chains starts (length starts) c.in_ok-found.found.items) c.deref-2.ensures.value c.in_ok-found.ensures)
    c.sort_pairs.ensures.moved c.sort_pairs.ensures.ordered

pub returns-in_err-found : goal.returns-in_err-found
returns-in_err-found c = let p = err_from_is_err_and c.from_residual.result c.from_residual.ensures.1 in rw p.1 tt
