use Rattle.std.proofs.Common.{◌+◌, ap, refl, length, arith, ◌≡◌, ◌∙◌, sym}
use Rattle.tl_cert.specs.Keeping.Lines.{at}
use Rattle.tl_cert.proofs.FailureLemmas.{refusal_tells}
use Rattle.tl_cert.proofs.LineLemmas.{some_left, ends_with, nothing_left, more_left}
use Rattle.tl_cert.proofs.lines.Lines.end.Goals as goal

pub returns-then-not-is_empty-clause-ends : goal.returns-then-not-is_empty-clause-ends
returns-then-not-is_empty-clause-ends g c =
    ends_with g.R.Source.remaining (at c.args.self.now c.args.source.now) (at c.args.self.now c.args.source.now) c.refusal.result (c.args.self.now.lines + 1) c.refusal.ensures (
      omega arith,
      some_left c.args.self.now.buffer (g.R.Source.remaining c.args.source.now)
          (λ none. let size = ap length c.bytes.ensures.value in grind (arith, size, none, c.if-not-is_empty.ensures)),
    )

pub returns-then-not-is_empty-clause-failures : goal.returns-then-not-is_empty-clause-failures
returns-then-not-is_empty-clause-failures g c = refusal_tells (Unit {0}) _ _ c.refusal.result (c.args.self.now.lines + 1) c.refusal.ensures refl

pub returns-then-not-is_empty-clause-same_reference : goal.returns-then-not-is_empty-clause-same_reference
returns-then-not-is_empty-clause-same_reference g c = refl

pub returns-in-Ok-eq0-clause-failures : goal.returns-in-Ok-eq0-clause-failures
returns-in-Ok-eq0-clause-failures g c = c.in-Ok-eq0.ensures.failures

pub returns-in-Ok-eq0-clause-same_reference : goal.returns-in-Ok-eq0-clause-same_reference
returns-in-Ok-eq0-clause-same_reference g c = c.in-Ok-eq0.ensures.same_reference

pub returns-in-Ok-clause-failures : goal.returns-in-Ok-clause-failures
returns-in-Ok-clause-failures g c = refusal_tells (Unit {0}) _ _ c.refusal-in-Ok.result (c.args.self.now.lines + 1) c.refusal-in-Ok.ensures c.in-Ok.ensures.failures

pub returns-in-Ok-clause-same_reference : goal.returns-in-Ok-clause-same_reference
returns-in-Ok-clause-same_reference g c = c.in-Ok.ensures.same_reference

pub returns-in-Err-clause-ends : goal.returns-in-Err-clause-ends
returns-in-Err-clause-ends g c = tt

pub returns-in-Err-clause-failures : goal.returns-in-Err-clause-failures
returns-in-Err-clause-failures g c = c.in-Err.ensures.failures

pub returns-in-Err-clause-same_reference : goal.returns-in-Err-clause-same_reference
returns-in-Err-clause-same_reference g c = c.in-Err.ensures.same_reference

pub invariant_of-self : goal.invariant_of-self
invariant_of-self g c = record { few_digits = c.args.self.now.few_digits }

pub refusal-requires-in-Ok : goal.refusal-requires-in-Ok
refusal-requires-in-Ok g c = c.requires

pub refusal-requires : goal.refusal-requires
refusal-requires g c = c.requires

pub returns-in-Ok-eq0-clause-ends : goal.returns-in-Ok-eq0-clause-ends
returns-in-Ok-eq0-clause-ends g c =
    let fetched = c.in-Ok-eq0.ensures.bytes in
    let size = ap length c.bytes.ensures.value in
    let none : length c.args.self.now.buffer ≡ 0 = grind (arith, size, c.if-not-is_empty.ensures) in
    let nothing : length fetched.0 ≡ 0 = fetched.1 ∙ c.in-Ok-eq0.field-0-test in (
      nothing_left c.args.self.now.buffer fetched.0 (g.R.Source.remaining c.args.source.now) (g.R.Source.remaining c.fetch.new.source) none nothing fetched.2.consumed (fetched.2.ended nothing),
      fetched.2.ended nothing,
      refl {a = c.args.self.now.lines},
    )

pub returns-in-Ok-clause-ends : goal.returns-in-Ok-clause-ends
returns-in-Ok-clause-ends g c =
    let fetched = c.in-Ok.ensures.bytes in
    ends_with g.R.Source.remaining (at c.args.self.now c.args.source.now) (at c.args.self.now c.args.source.now) c.refusal-in-Ok.result (c.args.self.now.lines + 1) c.refusal-in-Ok.ensures (
      omega arith,
      more_left c.args.self.now.buffer fetched.0 (g.R.Source.remaining c.args.source.now) (g.R.Source.remaining c.fetch.new.source)
          (λ none. c.in-Ok.field-0-test.1 (sym fetched.1 ∙ none)) fetched.2.consumed,
    )
