use Rattle.std.proofs.Common.{not, sym, ap, ◌∙◌}
use Rattle.std.proofs.lemmas.List.{map_more, take_all}
use Rattle.tl_check_points.specs.Listing.Keeping.Joined.{turned}
use Rattle.tl_check_points.proofs.ListingLemmas.Pushing.{pushed}
use Rattle.tl_check_points.proofs.listing.parted.others_of.Goals as goal

pub loop-place-init : goal.loop-place-init
loop-place-init c = c.new-others.ensures.items

pub loop-place-preserved : goal.loop-place-preserved
loop-place-preserved c =
    let more = pushed c.push.result _ _ _ c.push.ensures.items (sym c.is_err.ensures.value ∙ c.if-is_err.false) in
    rw (more, c.loop-place.invariant) (sym (map_more not c.args.marks.now c.loop-place.place _ c.loop-place-test.true))

pub returns : goal.returns
returns c = c.loop-place.invariant ∙ ap turned (take_all c.loop-place.place c.args.marks.now c.loop-place-test.false)

pub returns-then-is_err : goal.returns-then-is_err
returns-then-is_err c = tt
