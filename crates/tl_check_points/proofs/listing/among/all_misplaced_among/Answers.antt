use Rattle.std.proofs.Common.{length, sym, subst}
use Rattle.std.specs.List.Sorted.{IsStrictlyIncreasing}
use Rattle.tl_check_points.specs.Listing.Hidden.{IsMarked}
use Rattle.tl_check_points.proofs.ListingLemmas.Known.{all_sorted, all_answered}
use Rattle.tl_check_points.proofs.listing.among.all_misplaced_among.Goals as goal

pub list_each-requires-clause-known : goal.list_each-requires-clause-known
list_each-requires-clause-known g c =
    all_sorted (length c.args.map.now.polygons) c.args.suspects.now.items c.sort_once.new.numbers.items c.deref.result.now c.deref.ensures.value
    c.requires.suspects.known (λ x. (c.sort_once.ensures.same x).0)

pub list_each-requires-clause-rising : goal.list_each-requires-clause-rising
list_each-requires-clause-rising g c = subst IsStrictlyIncreasing (sym c.deref.ensures.value) c.sort_once.ensures.rising

pub returns : goal.returns
returns g c =
    all_answered (IsMarked c.args.marks.now) c.args.map.now c.args.suspects.now.items c.sort_once.new.numbers.items c.deref.result.now c.list_each.result c.deref.ensures.value
    c.requires.suspects (λ x. (c.sort_once.ensures.same x).1) (λ x. (c.sort_once.ensures.same x).0) c.list_each.ensures
