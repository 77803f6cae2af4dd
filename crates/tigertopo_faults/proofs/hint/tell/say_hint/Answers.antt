use Rattle.std.proofs.Common.{refl, subst, ◌∙◌, ℕ, List}
use Rattle.std.proofs.lemmas.Result.{err_from_is_err_and}
use Rattle.tigertopo_faults.specs.Hint.Advice.{asking}
use Rattle.tl_cert_output.proofs.StopLemmas.{by_stop}
use Rattle.tl_cert_output.specs.Streams.{Tries, stream}
use Rattle.tigertopo_faults.proofs.HintLemmas.HintLemmas.{hint_told, tries}
use Rattle.tigertopo_faults.proofs.hint.tell.say_hint.Goals as goal

pub returns-clause-hint : goal.returns-clause-hint
returns-clause-hint g c =
    let written = tries g.E.Sink.contents g.E.Sink.failure_count c.args.err.now c.write_all.new.out c.as_slice.result.now c.write_all.result c.write_all.ensures.bytes c.write_all.ensures.passes c.write_all.ensures.failures in
    hint_told _ _ (λ t same. subst (λ (l : List ℕ). Tries (stream g.E.Sink.contents g.E.Sink.failure_count c.args.err.now c.write_all.new.out) l) (c.as_slice.ensures.value ∙ same) written)
    c.args.stop.now (asking c.args.by) _ _ c.in_ok-text.ensures.hint

pub returns-clause-silent : goal.returns-clause-silent
returns-clause-silent g c = tt

pub returns-clause-stops : goal.returns-clause-stops
returns-clause-stops g c = tt

pub returns-clause-stays : goal.returns-clause-stays
returns-clause-stays g c = c.in_ok-text.ensures.stays

pub returns-clause-logged : goal.returns-clause-logged
returns-clause-logged g c = c.in_ok-text.ensures.logged

pub returns-in_err-text-clause-hint : goal.returns-in_err-text-clause-hint
returns-in_err-text-clause-hint g c = let p = err_from_is_err_and c.from_residual.result c.from_residual.ensures.1 in rw p.1 tt

pub returns-in_err-text-clause-silent : goal.returns-in_err-text-clause-silent
returns-in_err-text-clause-silent g c = let p = err_from_is_err_and c.from_residual.result c.from_residual.ensures.1 in rw p.1 refl

pub returns-in_err-text-clause-stays : goal.returns-in_err-text-clause-stays
returns-in_err-text-clause-stays g c = c.in_err-text.ensures.stays

pub returns-in_err-text-clause-stops : goal.returns-in_err-text-clause-stops
returns-in_err-text-clause-stops g c = by_stop c.from_residual.result c.in_err-text.field-0.0 _ c.from_residual.ensures.1 c.in_err-text.ensures.stops
