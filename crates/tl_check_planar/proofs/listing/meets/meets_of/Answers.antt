use Rattle.std.proofs.Common.{sym, ◌≡◌, length, subst, ◌∙◌, arith}
use Rattle.tl_check_planar.specs.Listing.Keeping.Telling.{AreMeetsOf}
use Rattle.tl_check_planar.proofs.ListingLemmas.Pushing.{pushed}
use Rattle.tl_check_planar.proofs.ListingLemmas.Telling.{none_told, one_told, all_meets_of}
use Rattle.tl_check_planar.proofs.listing.meets.meets_of.Goals as goal

pub loop-place-init : goal.loop-place-init
loop-place-init c = none_told _ _ _ c.in-Ok.ensures.items

pub meet_of-requires : goal.meet_of-requires
meet_of-requires c = rw c.index-conflicts-place.is (c.requires.true_ones c.loop-place.place c.index-conflicts-place.result c.loop-place-test.true)

pub loop-place-preserved : goal.loop-place-preserved
loop-place-preserved c =
    one_told _ c.loop-place.place _ _ _ _ _ c.loop-place-test.true c.index-conflicts-place.is c.meet_of.ensures
    (pushed c.push.result _ _ _ c.push.ensures.items (sym c.is_err.ensures.value ∙ c.if-is_err.false)) c.loop-place.invariant

pub returns : goal.returns
returns c =
    let past = c.loop-place-test.false in
    let within = c.loop-place.auto.place-end in
    let end : c.loop-place.place ≡ length c.args.conflicts.now = omega (arith, past, within) in
    all_meets_of _ _ _ c.requires (subst (λ n. AreMeetsOf c.args.map.now.chains n c.args.conflicts.now c.loop-place.meets.items) end c.loop-place.invariant)
