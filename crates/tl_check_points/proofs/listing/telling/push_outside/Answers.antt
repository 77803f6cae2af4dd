use Rattle.std.proofs.Common.{◌∷◌, [], sym, ◌∙◌, arith}
use Rattle.tl_check_points.proofs.ListingLemmas.Pushing.{pushed}
use Rattle.tl_check_points.proofs.ListingLemmas.Rows.{row_begun, row_more, outside}
use Rattle.tl_check_points.proofs.listing.telling.push_outside.Goals as goal

pub returns-then-is_err : goal.returns-then-is_err
returns-then-is_err c = tt

pub returns-else-is_err : goal.returns-else-is_err
returns-else-is_err c =
    rw c.if-outside.true
    (row_more c.args.map.now c.args.p 1 (0 ∷ []) 0 _ _ _ _ (omega arith) (row_begun c.args.map.now c.args.p 1 c.args.found.now.items)
    (pushed c.push.result _ _ _ c.push.ensures.items (sym c.is_err.ensures.value ∙ c.if-is_err.false))
    (outside c.args.map.now c.args.p c.args.polygon c.requires.is (c.requires.outside c.if-outside.true)))

pub returns-else-outside : goal.returns-else-outside
returns-else-outside c = rw c.if-outside.false (row_begun c.args.map.now c.args.p 1 c.args.found.now.items)
