use Rattle.std.proofs.Common.{◌≡◌, ◌<◌, length, subst, ap, arith}
use Rattle.std.proofs.lemmas.List.{get_or_default}
use Rattle.tl_check_sides.specs.Sides.{dart_count}
use Rattle.tl_check_sides.proofs.Headings.{dart_within}
use Rattle.std.proofs.lemmas.Result.{err_from_is_err_and}
use Rattle.tl_check_sides.specs.Listing.Keeping.Grouped.{AreNexts}
use Rattle.tl_check_sides.specs.declared.headed.HeadedDart.{HeadedDart}
use Rattle.tl_check_sides.specs.Listing.Keeping.Around.{nowhere, headed_at}
use Rattle.tl_check_sides.proofs.ListingLemmas.Ends.{begun, one_next}
use Rattle.tl_check_sides.proofs.listing.groups.next_groups.Goals as goal

pub loop-place-preserved : goal.loop-place-preserved
loop-place-preserved c =
    let darts = c.args.darts.now in
    let within = c.loop-place-test.true in
    let a = c.requires.around in
    let is = ap (λ (s : HeadedDart). s.dart) (get_or_default darts c.loop-place.place c.index-darts-place.result nowhere within) in
    let heads = a.each c.loop-place.place nowhere within in
    let below : (headed_at darts c.loop-place.place).dart < dart_count c.args.map.now.chains = dart_within c.args.map.now.chains (headed_at darts c.loop-place.place).dart heads.heads.first heads.heads.starts in
    let long = a.long in
    let here = c.loop-place.invariant.nexts.long in
    record {
      begun = begun darts c.loop-place.place c.first_at-first.result c.first_at-first.ensures;
      nexts = one_next darts c.loop-place.place _ c.next_place-next.result c.loop-place.nexts.items is (omega (arith, below, is, long, here)) (λ j lt. a.once j c.loop-place.place lt within) c.next_place-next.ensures c.loop-place.invariant.nexts;
    }

pub returns : goal.returns
returns c =
    let past = c.loop-place-test.false in
    let within = c.loop-place.auto.place-end in
    let end : c.loop-place.place ≡ length c.args.darts.now = omega (arith, past, within) in
    subst (λ n. AreNexts c.args.darts.now n c.loop-place.nexts.items) end c.loop-place.invariant.nexts

pub returns-in_err-nexts : goal.returns-in_err-nexts
returns-in_err-nexts c = let p = err_from_is_err_and c.from_residual.result c.from_residual.ensures.1 in rw p.1 tt
