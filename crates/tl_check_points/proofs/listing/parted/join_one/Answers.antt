use Rattle.std.proofs.Common.{◌≡◌, length, sym, subst, arith}
use Rattle.std.proofs.lemmas.Result.{err_from_is_err_and}
use Rattle.std.proofs.lemmas.Bool.Decides.{nat_tests}
use Rattle.std.proofs.lemmas.List.{nil_from_length}
use Rattle.std.proofs.lemmas.Option.{slice_get-get_or}
use Rattle.tl_check_points.specs.Listing.Keeping.Joined.{AreJoined}
use Rattle.tl_check_points.proofs.ListingLemmas.Joined.{joined_more}
use Rattle.tl_check_points.proofs.listing.parted.join_one.Goals as goal

pub returns-in-Ok-clause-counts : goal.returns-in-Ok-clause-counts
returns-in-Ok-clause-counts g c =
    let m = c.args.map.now in
    let held = c.join_at.new.room.held in
    let none : length held.items ≡ 0 = let empty = c.if-not-is_empty.ensures in let ok = held.ok.0 in grind (arith, nat_tests, empty, ok) in
    joined_more m c.args.part.now c.args.taken.now c.args.sites.now c.args.known.now c.args.counts.now c.keep.new.self c.args.place _ c.in-Some.flanks.now
    c.deref.result.now c.requires.part c.requires.taken c.has_proper_chains.ensures c.requires.known c.requires.counts
    (slice_get-get_or c.args.sites.now c.args.place _ c.requires.within) c.in-Some.ensures
    (c.in_ok-join_at.ensures.off (nil_from_length held.items none))
    (subst (AreJoined c.args.taken.now.chains _ c.in-Some.flanks.now) (sym c.deref.ensures.value) c.in_ok-join_at.ensures.joined)
    c.in-Ok.ensures

pub returns-in_err-join_at : goal.returns-in_err-join_at
returns-in_err-join_at g c = let p = err_from_is_err_and c.from_residual.result c.from_residual.ensures.1 in rw p.1 (record { many = tt; counts = tt })
