use Rattle.std.proofs.Common.{refl, sym, ◌∙◌}
use Rattle.tl_check_points.proofs.ListingLemmas.Marking.{none_kept, kept_skipped, kept_more, kept_all}
use Rattle.tl_check_points.proofs.ListingLemmas.Pushing.{pushed}
use Rattle.tl_check_points.proofs.listing.marks.list_unmarked.Goals as goal

pub loop-place-init : goal.loop-place-init
loop-place-init c = none_kept c.args.marks.now c.args.numbers.now c.clear.new.self.items c.clear.ensures.items

pub loop-place-preserved-then-is_marked : goal.loop-place-preserved-then-is_marked
loop-place-preserved-then-is_marked c =
    kept_skipped c.args.marks.now c.args.numbers.now c.loop-place.place c.loop-place-test.true _ refl c.loop-place.kept.items
    (c.is_marked.ensures.0 c.if-is_marked.true) c.loop-place.invariant

pub loop-place-preserved : goal.loop-place-preserved
loop-place-preserved c =
    kept_more c.args.marks.now c.args.numbers.now c.loop-place.place c.loop-place-test.true _ refl c.loop-place.kept.items c.push.new.self.items
    (λ marked. let wrong = sym (c.is_marked.ensures.1 marked) ∙ c.if-is_marked.false in cc)
    (pushed c.push.result c.loop-place.kept.items c.push.new.self.items _ c.push.ensures.items (sym c.is_err.ensures.value ∙ c.if-is_err.false)) c.loop-place.invariant

pub returns-clause-same : goal.returns-clause-same
returns-clause-same c =
    kept_all c.args.marks.now c.args.numbers.now c.loop-place.place c.loop-place.kept.items c.sort_once.new.numbers.items c.loop-place-test.false c.sort_once.ensures.same
    c.loop-place.invariant
