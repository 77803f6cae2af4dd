use Rattle.std.proofs.Common.{All, length, sym, subst}
use Rattle.std.proofs.lemmas.Result.{err_from_is_err_and}
use Rattle.std.proofs.lemmas.List.Elements.{All-nil}
use Rattle.std.proofs.lemmas.Option.{slice_get_within}
use Rattle.tl_check_inside.specs.Keeping.Tallies.{AreClear}
use Rattle.tl_check_points.specs.Keeping.Balances.{AreAmong, HaveOneBalance}
use Rattle.tl_check_points.specs.Keeping.Ways.{TellGap}
use Rattle.tl_check_points.proofs.Treed.{told_none, told_by}
use Rattle.tl_check_points.proofs.Balances.{balance_back}
use Rattle.tl_check_points.proofs.Known.{visit_known, still_long}
use Rattle.tl_check_points.proofs.counts.visit_each.Goals as goal

pub loop-place-init : goal.loop-place-init
loop-place-init c = record {
  told = subst (TellGap (length c.args.map.now.polygons) c.args.gaps.now 0) (sym c.requires.none) (told_none (length c.args.map.now.polygons) c.args.gaps.now);
  among = subst (All (AreAmong (length c.args.map.now.polygons))) (sym c.requires.none) (All-nil (AreAmong (length c.args.map.now.polygons)));
  clear = c.requires.clear;
  long = c.requires.long;
  counts = c.requires.counts;
}

pub go-requires-clause-known : goal.go-requires-clause-known
go-requires-clause-known c =
    let visit = c.requires.visits c.loop-place.place _ c.loop-place-test.true in (visit.way, visit.is_way)

pub loop-place-preserved : goal.loop-place-preserved
loop-place-preserved c =
    let n = length c.args.map.now.polygons in
    let chains = c.args.map.now.chains in
    let gaps = c.args.gaps.now in
    let sites = c.args.sites.now in
    let old = c.go.new.journal.items in
    let new = c.shorten.new.journal.items in
    let back = balance_back new old c.in_ok-shorten.ensures.one in
    let clear = c.loop-place.invariant.clear.nears in
    let visit = c.requires.visits c.loop-place.place _ c.loop-place-test.true in
    record {
      told = told_by n gaps _ old new back c.in_ok-go.ensures.told;
      among = subst (λ k. All (AreAmong k) new) clear c.in_ok-shorten.ensures.among;
      clear = subst (λ k. AreClear k c.shorten.new.near c.shorten.new.far) clear c.in_ok-shorten.ensures.clear;
      long = still_long chains sites c.loop-place.counts c.keep.new.self _ c.deref.result.now c.in_ok-keep.ensures c.loop-place.invariant.long;
      counts =
          visit_known chains sites n gaps _ c.loop-place.counts c.keep.new.self old c.deref.result.now visit c.in_ok-keep.ensures c.loop-place.invariant.counts
          c.in_ok-go.ensures.told (subst (λ l. HaveOneBalance old l) (sym c.deref.ensures.value) back);
    }

pub shorten-requires-clause-among : goal.shorten-requires-clause-among
shorten-requires-clause-among c =
    subst (λ k. All (AreAmong k) c.go.new.journal.items) (sym c.loop-place.invariant.clear.nears) c.in_ok-go.ensures.among

pub shorten-requires-clause-clear : goal.shorten-requires-clause-clear
shorten-requires-clause-clear c =
    subst (λ k. AreClear k c.loop-place.near c.loop-place.far) (sym c.loop-place.invariant.clear.nears) c.loop-place.invariant.clear

pub returns-in_err-go-clause-long : goal.returns-in_err-go-clause-long
returns-in_err-go-clause-long c = let p = err_from_is_err_and c.from_residual.result c.from_residual.ensures.1 in rw p.1 tt

pub returns-in_err-go-clause-counts : goal.returns-in_err-go-clause-counts
returns-in_err-go-clause-counts c = let p = err_from_is_err_and c.from_residual.result c.from_residual.ensures.1 in rw p.1 tt

pub returns-in_err-shorten-clause-long : goal.returns-in_err-shorten-clause-long
returns-in_err-shorten-clause-long c = let p = err_from_is_err_and c.from_residual-in_err-shorten.result c.from_residual-in_err-shorten.ensures.1 in rw p.1 tt

pub returns-in_err-shorten-clause-counts : goal.returns-in_err-shorten-clause-counts
returns-in_err-shorten-clause-counts c = let p = err_from_is_err_and c.from_residual-in_err-shorten.result c.from_residual-in_err-shorten.ensures.1 in rw p.1 tt

pub returns-in_err-keep-clause-long : goal.returns-in_err-keep-clause-long
returns-in_err-keep-clause-long c = let p = err_from_is_err_and c.from_residual-in_err-keep.result c.from_residual-in_err-keep.ensures.1 in rw p.1 tt

pub returns-in_err-keep-clause-counts : goal.returns-in_err-keep-clause-counts
returns-in_err-keep-clause-counts c = let p = err_from_is_err_and c.from_residual-in_err-keep.result c.from_residual-in_err-keep.ensures.1 in rw p.1 tt

pub returns-then-kept-most-clause-long : goal.returns-then-kept-most-clause-long
returns-then-kept-most-clause-long c = c.loop-place.invariant.long

pub returns-then-kept-most-clause-counts : goal.returns-then-kept-most-clause-counts
returns-then-kept-most-clause-counts c = c.loop-place.invariant.counts

pub returns-clause-long : goal.returns-clause-long
returns-clause-long c = c.loop-place.invariant.long

pub returns-clause-counts : goal.returns-clause-counts
returns-clause-counts c = c.loop-place.invariant.counts

pub go-requires-clause-told : goal.go-requires-clause-told
go-requires-clause-told c = c.loop-place.invariant.told

pub go-requires-clause-among : goal.go-requires-clause-among
go-requires-clause-among c = c.loop-place.invariant.among

pub keep-requires : goal.keep-requires
keep-requires c =
    let visit = c.requires.visits c.loop-place.place _ c.loop-place-test.true in
    rw c.loop-place.invariant.long (slice_get_within c.args.sites.now _ visit.site visit.is)
