use Rattle.std.proofs.Common.{◌+◌, subst, refl}
use Rattle.tl_cert.specs.Keeping.Words.{StandsFirst}
use Rattle.tl_cert.proofs.FrontLemmas.{front_taken}
use Rattle.tl_cert.proofs.lines.Lines.read.Goals as goal

pub invariant_of-self : goal.invariant_of-self
invariant_of-self g c = record { few_digits = c.args.self.now.few_digits }

pub returns-in-Some-clause-reads : goal.returns-in-Some-clause-reads
returns-in-Some-clause-reads g c =
    let value = c.in-Some.ensures in (
      value.0,
      record {
        bytes = front_taken (g.R.Source.remaining c.args.source.now) c.args.self.now.buffer c.consume.new.self (g.K.LineKind.spelt c.args.kind.now c.in-Some.value) c.in-Some.len
            (subst (λ b. StandsFirst b (g.K.LineKind.spelt c.args.kind.now c.in-Some.value) c.in-Some.len) c.bytes.ensures.value value.1) c.consume.ensures;
        counted = refl {a = c.args.self.now.lines + 1};
      },
    )

pub returns-in-Some-clause-failures : goal.returns-in-Some-clause-failures
returns-in-Some-clause-failures g c = refl

pub returns-in-Some-clause-same_reference : goal.returns-in-Some-clause-same_reference
returns-in-Some-clause-same_reference g c = refl

pub read_fetched-requires : goal.read_fetched-requires
read_fetched-requires g c = c.requires

pub returns-clause-reads : goal.returns-clause-reads
returns-clause-reads g c = c.read_fetched.ensures.reads

pub returns-clause-failures : goal.returns-clause-failures
returns-clause-failures g c = c.read_fetched.ensures.failures

pub returns-clause-same_reference : goal.returns-clause-same_reference
returns-clause-same_reference g c = c.read_fetched.ensures.same_reference
