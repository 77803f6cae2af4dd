use Rattle.std.proofs.Common.{sym, ap, ◌∙◌}
use Rattle.std.proofs.lemmas.List.{take_all}
use Rattle.tl_check_inside.specs.Keeping.Tallies.{flanks_in}
use Rattle.tl_check_inside.proofs.Passing.{pushed}
use Rattle.tl_check_inside.proofs.Sides.{flanks_more}
use Rattle.tl_check_inside.proofs.flanks.list_flanks.Goals as goal

pub loop-place-init : goal.loop-place-init
loop-place-init c = c.clear.ensures.items

pub flanks_of-requires : goal.flanks_of-requires
flanks_of-requires c = c.requires.known c.loop-place.place 0 c.loop-place-test.true

pub loop-place-preserved : goal.loop-place-preserved
loop-place-preserved c =
    flanks_more c.args.map.now.chains c.args.segments.now c.loop-place.place c.loop-place.flanks.items c.push.new.self.items c.flanks_of.result c.loop-place-test.true c.loop-place.invariant c.flanks_of.ensures
    (pushed c.push.result _ _ _ c.push.ensures.items (sym c.is_err.ensures.value ∙ c.if-is_err.false))

pub returns-then-is_err : goal.returns-then-is_err
returns-then-is_err c = tt

pub returns : goal.returns
returns c = c.loop-place.invariant ∙ ap (flanks_in c.args.map.now.chains) (take_all c.loop-place.place c.args.segments.now c.loop-place-test.false)
