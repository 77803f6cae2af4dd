use Rattle.std.proofs.Common.{List, length, subst, sym}
use Rattle.std.proofs.lemmas.Result.{err_from_is_err_and}
use Rattle.tl_check_sides.specs.declared.headed.HeadedDart.{HeadedDart}
use Rattle.tl_check_sides.specs.Listing.Keeping.Around.{AreAround}
use Rattle.tl_check_sides.specs.Listing.Keeping.Grouped.{AreEnds, AreNexts}
use Rattle.tl_check_sides.proofs.ListingLemmas.Sorting.{around_sorted}
use Rattle.tl_check_sides.proofs.listing.groups.Groups.new.Goals as goal

pub group_ends-requires : goal.group_ends-requires
group_ends-requires c = rw c.deref.ensures.value (around_sorted c.args.map.now.chains c.in_ok-darts.darts.items c.in_ok-darts.ensures).few

pub next_groups-requires-clause-around : goal.next_groups-requires-clause-around
next_groups-requires-clause-around c =
    subst (AreAround c.args.map.now.chains) (sym c.deref-2.ensures.value) (around_sorted c.args.map.now.chains c.in_ok-darts.darts.items c.in_ok-darts.ensures)

pub returns : goal.returns
returns c =
    record {
      around = around_sorted c.args.map.now.chains c.in_ok-darts.darts.items c.in_ok-darts.ensures;
      ends = subst (λ (darts : List HeadedDart). AreEnds darts 0 c.in_ok-ends.ends.items) c.deref.ensures.value c.in_ok-ends.ensures;
      nexts = subst (λ (darts : List HeadedDart). AreNexts darts (length darts) c.in_ok-nexts.nexts.items) c.deref-2.ensures.value c.in_ok-nexts.ensures;
    }

pub returns-in_err-darts : goal.returns-in_err-darts
returns-in_err-darts c = let p = err_from_is_err_and c.from_residual.result c.from_residual.ensures.1 in rw p.1 tt

pub returns-in_err-ends : goal.returns-in_err-ends
returns-in_err-ends c = let p = err_from_is_err_and c.from_residual-in_err-ends.result c.from_residual-in_err-ends.ensures.1 in rw p.1 tt

pub returns-in_err-nexts : goal.returns-in_err-nexts
returns-in_err-nexts c = let p = err_from_is_err_and c.from_residual-in_err-nexts.result c.from_residual-in_err-nexts.ensures.1 in rw p.1 tt
