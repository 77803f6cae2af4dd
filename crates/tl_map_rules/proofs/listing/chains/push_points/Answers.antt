use Rattle.std.proofs.Common.{◌≡◌, ◌<◌, inl, inr, length, get_or, sym, ap, ◌∙◌, arith}
use Rattle.std.proofs.lemmas.List.{get_or_default}
use Rattle.std.proofs.lemmas.Result.{err_from_is_err_and}
use Rattle.tl_map_rules.specs.declared.entry.ChainEntry.{ChainEntry}
use Rattle.tl_map_rules.specs.Listing.Keeping.Runs.{is_one_point}
use Rattle.tl_map_rules.proofs.ListingLemmas.ChainLemmas.{passed_shapes, passed_next, no_chain, points_none, points_more, points_other}
use Rattle.tl_map_rules.proofs.listing.chains.push_points.Goals as goal
use Rattle.tl_map_rules.proofs.listing.chains.push_points.Goals.{then-stands_alone+then-is_point+in_ok-push, else-stands_alone, else-stands_alone-via-then-stands_alone+else-is_point, else-stands_alone-via-else-stands_alone}

pub loop-place-init : goal.loop-place-init
loop-place-init c = record { within = omega arith; passed = λ k d e less lt. absurd (omega arith); told = points_none c.args.chains.now c.args.shapes.now c.args.faults.now.items }

pub loop-place-preserved : goal.loop-place-preserved
loop-place-preserved c =
    let chains = c.args.chains.now in
    let shapes = c.args.shapes.now in
    let i = c.loop-place.place in
    let b = c.first_not_below-start.result in
    let lt : i < length chains = c.loop-place-test.true in
    let below = passed_shapes chains shapes i c.loop-place.start b no_chain lt c.loop-place.invariant.passed c.first_not_below-start.ensures.below in
    let chain : ChainEntry = get_or chains i no_chain in
    let at : (d : ChainEntry) → get_or chains i d ≡ chain = λ d. get_or_default chains i d no_chain lt in
    record {
      within = c.first_not_below-start.ensures.within;
      passed = passed_next chains shapes i b no_chain c.requires.chains lt below;
      told = elim c.if-stands_alone.branch [
        | then-stands_alone+then-is_point+in_ok-push w ↦ rw (w.faults-is, w.in_ok-push.ensures.items)
            (points_more chains shapes i chain c.args.faults.now.items c.loop-place.faults.items lt at (sym (c.stands_alone.ensures no_chain) ∙ w.if-stands_alone.true)
            (ap (is_one_point chain) (sym w.run_at.ensures) ∙ sym w.is_point.ensures ∙ w.if-is_point.true) c.loop-place.invariant.told)
        | else-stands_alone w ↦ rw w.faults-is (points_other chains shapes i chain c.args.faults.now.items c.loop-place.faults.items lt at
            (elim w.else-stands_alone.branch [
              | else-stands_alone-via-then-stands_alone+else-is_point v ↦ inr (ap (is_one_point chain) (sym v.run_at.ensures) ∙ sym v.is_point.ensures ∙ v.if-is_point.false)
              | else-stands_alone-via-else-stands_alone v ↦ inl (sym (c.stands_alone.ensures no_chain) ∙ v.if-stands_alone.false)
            ]) c.loop-place.invariant.told)
      ];
    }

pub run_at-requires : goal.run_at-requires
run_at-requires c =
    let chains = c.args.chains.now in
    let shapes = c.args.shapes.now in
    record {
      order = c.requires.shapes;
      within = c.first_not_below-start.ensures.within;
      below = passed_shapes chains shapes c.loop-place.place c.loop-place.start c.first_not_below-start.result no_chain c.loop-place-test.true c.loop-place.invariant.passed c.first_not_below-start.ensures.below;
      from = c.first_not_below-start.ensures.stops;
    }

pub stands_alone-requires : goal.stands_alone-requires
stands_alone-requires c = record { within = c.loop-place-test.true; order = c.requires.chains }

pub returns : goal.returns
returns c =
    let all : c.loop-place.place ≡ length c.args.chains.now = omega (arith, c.loop-place.auto.place-end, c.loop-place-test.false) in
    rw all at c.loop-place.invariant.told

pub returns-in_err-push : goal.returns-in_err-push
returns-in_err-push c = let p = err_from_is_err_and c.from_residual.result c.from_residual.ensures.1 in rw p.1 tt
