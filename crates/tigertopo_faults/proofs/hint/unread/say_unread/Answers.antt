use Rattle.std.proofs.Common.{subst, ◌∙◌, ℕ, List}
use Rattle.tl_cert_output.specs.Streams.{Tries, stream}
use Rattle.tigertopo_faults.proofs.HintLemmas.HintLemmas.{tries}
use Rattle.tigertopo_faults.proofs.hint.unread.say_unread.Goals as goal

pub returns-clause-hint : goal.returns-clause-hint
returns-clause-hint g c = λ known texts have.
    let written = tries g.E.Sink.contents g.E.Sink.failure_count c.args.err.now c.write_all.new.out c.as_slice.result.now c.write_all.result c.write_all.ensures.bytes c.write_all.ensures.passes c.write_all.ensures.failures in
    subst (λ (l : List ℕ). Tries (stream g.E.Sink.contents g.E.Sink.failure_count c.args.err.now c.write_all.new.out) l) (c.as_slice.ensures.value ∙ c.in_ok-text.ensures.hint texts have) written
