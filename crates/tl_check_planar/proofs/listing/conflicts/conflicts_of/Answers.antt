use Rattle.std.proofs.Common.{◌≡◌, length, subst, sym, ◌∙◌, arith}
use Rattle.std.proofs.lemmas.List.{get_or_default}
use Rattle.tl_check_planar.specs.Listing.Keeping.Pairing.{AreConflictsOf}
use Rattle.tl_check_planar.proofs.ListingLemmas.Pushing.{pushed}
use Rattle.tl_check_planar.proofs.ListingLemmas.Conflicting.{none_yet_of, one_more_of, all_conflicts_of}
use Rattle.tl_check_planar.proofs.listing.conflicts.conflicts_of.Goals as goal

pub loop-place-init : goal.loop-place-init
loop-place-init g c = none_yet_of _ _ _ _ c.in-Ok.ensures.items

pub conflict_of-requires : goal.conflict_of-requires
conflict_of-requires g c = c.requires.pairs.each c.loop-place.place _ c.loop-place-test.true

pub loop-place-preserved : goal.loop-place-preserved
loop-place-preserved g c =
    one_more_of (g.I.Items.count c.args.items.now) (g.I.Items.tells c.args.items.now) c.loop-place.place c.args.pairs.now c.loop-place.found.items
    c.push.new.self.items _ _ c.loop-place-test.true (get_or_default c.args.pairs.now c.loop-place.place _ _ c.loop-place-test.true) c.conflict_of.ensures
    (pushed c.push.result c.loop-place.found.items c.push.new.self.items _ c.push.ensures.items (sym c.is_err.ensures.value ∙ c.if-is_err.false))
    c.loop-place.invariant

pub returns : goal.returns
returns g c =
    let n = g.I.Items.count c.args.items.now in
    let tells = g.I.Items.tells c.args.items.now in
    let past = c.loop-place-test.false in
    let within = c.loop-place.auto.place-end in
    let end : c.loop-place.place ≡ length c.args.pairs.now = omega (arith, past, within) in
    all_conflicts_of n tells c.args.pairs.now c.loop-place.found.items c.requires.pairs c.requires.ordered
    (subst (λ m. AreConflictsOf n tells m c.args.pairs.now c.loop-place.found.items) end c.loop-place.invariant)
