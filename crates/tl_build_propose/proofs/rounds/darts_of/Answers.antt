use Rattle.std.proofs.Common.{◌++◌, ◌∷◌, [], ap, sym, ◌∙◌}
use Rattle.std.proofs.lemmas.List.{take_all}
use Rattle.std.proofs.lemmas.Result.{err_from_is_err_and}
use Rattle.tl_build_propose.specs.Keeping.Lists.{darts_in}
use Rattle.tl_build_propose.proofs.CutLemmas.{darts_more}
use Rattle.tl_build_propose.proofs.rounds.darts_of.Goals as goal

pub loop-start-init : goal.loop-start-init
loop-start-init c = c.in_ok-darts.ensures.items

pub loop-start-preserved : goal.loop-start-preserved
loop-start-preserved c =
    c.in_ok-push.ensures.items ∙ ap (λ xs. xs ++ c.start-item.result.dart ∷ []) c.loop-start.invariant ∙
    sym (darts_more c.args.starts.now c.loop-start.start-index c.start-item.result c.loop-start-test.true c.start-item.is)

pub returns : goal.returns
returns c = c.loop-start.invariant ∙ ap darts_in (take_all c.loop-start.start-index c.args.starts.now c.loop-start-test.false)

pub returns-in_err-darts : goal.returns-in_err-darts
returns-in_err-darts c = let p = err_from_is_err_and c.from_residual.result c.from_residual.ensures.1 in rw p.1 tt

pub returns-in_err-push : goal.returns-in_err-push
returns-in_err-push c = let p = err_from_is_err_and c.from_residual-in_err-push.result c.from_residual-in_err-push.ensures.1 in rw p.1 tt
