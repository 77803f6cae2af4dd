use Rattle.std.proofs.Common.{sym, ◌∙◌}
use Rattle.std.proofs.lemmas.Option.{slice_get_within}
use Rattle.tl_check_points.proofs.ListingLemmas.Pushing.{pushed}
use Rattle.tl_check_points.proofs.ListingLemmas.Rows.{row_begun, row_more, row_ended, on_chain}
use Rattle.tl_check_points.proofs.listing.telling.push_chains.Goals as goal

pub loop-place-init : goal.loop-place-init
loop-place-init c = row_begun _ _ _ _

pub loop-place-preserved : goal.loop-place-preserved
loop-place-preserved c =
    row_more c.args.map.now c.args.p 0 c.args.held.now c.loop-place.place _ _ _ _ c.loop-place-test.true c.loop-place.invariant
    (pushed c.push.result _ _ _ c.push.ensures.items (sym c.is_err.ensures.value ∙ c.if-is_err.false))
    (on_chain c.args.map.now c.args.p c.args.polygon c.requires.is _ _ _ _ _ (c.requires.held c.loop-place.place 0 c.loop-place-test.true)
    c.chain.ensures.chain)

pub returns : goal.returns
returns c = row_ended _ _ _ _ c.loop-place.place _ _ c.loop-place-test.false c.loop-place.invariant

pub chain-requires : goal.chain-requires
chain-requires c = let held = c.requires.held c.loop-place.place 0 c.loop-place-test.true in slice_get_within c.args.map.now.chains _ held.chain held.is

pub bounds-held-place : goal.bounds-held-place
bounds-held-place c = c.loop-place-test.true

pub returns-then-is_err : goal.returns-then-is_err
returns-then-is_err c = tt
