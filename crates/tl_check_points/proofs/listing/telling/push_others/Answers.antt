use Rattle.std.proofs.Common.{sym, ◌∙◌}
use Rattle.tl_check_points.proofs.ListingLemmas.Pushing.{pushed}
use Rattle.tl_check_points.proofs.ListingLemmas.Rows.{row_begun, row_more, row_ended, in_other}
use Rattle.tl_check_points.proofs.listing.telling.push_others.Goals as goal

pub loop-place-init : goal.loop-place-init
loop-place-init c = row_begun _ _ _ _

pub loop-place-preserved : goal.loop-place-preserved
loop-place-preserved c =
    row_more c.args.map.now c.args.p 2 c.args.odd.now c.loop-place.place _ _ _ _ c.loop-place-test.true c.loop-place.invariant
    (pushed c.push.result _ _ _ c.push.ensures.items (sym c.is_err.ensures.value ∙ c.if-is_err.false))
    (in_other c.args.map.now c.args.p c.args.polygon c.requires.is _ _ c.polygon.ensures (c.requires.odd c.loop-place.place 0 c.loop-place-test.true))

pub returns : goal.returns
returns c = row_ended _ _ _ _ c.loop-place.place _ _ c.loop-place-test.false c.loop-place.invariant

pub polygon-requires : goal.polygon-requires
polygon-requires c = (c.requires.odd c.loop-place.place 0 c.loop-place-test.true).known

pub bounds-odd-place : goal.bounds-odd-place
bounds-odd-place c = c.loop-place-test.true

pub returns-then-is_err : goal.returns-then-is_err
returns-then-is_err c = tt
