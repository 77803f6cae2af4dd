use Rattle.std.proofs.Common.{◌≡◌, ◌+◌, ℕ, List, ap, ◌∙◌, sym, refl, take, arith}
use Rattle.tl_cert.specs.Keeping.Lines.{at}
use Rattle.tl_cert.proofs.FailureLemmas.{refusal_tells}
use Rattle.tl_cert.proofs.LineLemmas.{line_taken, found_other, none_left, too_long, stops_with}
use Rattle.tl_cert.proofs.lines.Lines.read_fetched.Goals as goal

taken_as : (len : ℕ) (seen bytes line : List ℕ) → seen ≡ bytes → take len seen ≡ line → take len bytes ≡ line
taken_as len seen bytes line same is = ap (take len) (sym same) ∙ is

pub returns-in-None-clause-reads : goal.returns-in-None-clause-reads
returns-in-None-clause-reads g c =
    let shows = c.in-Whole.ensures.shows in
    stops_with g.R.Source.remaining _ _ (at c.args.self.now c.args.source.now) (at c.args.self.now c.fetch_line.new.source) c.refusal.result (c.args.self.now.lines + 1) c.refusal.ensures (
      omega arith,
      found_other _ _ (g.R.Source.remaining c.fetch_line.new.source) c.fetch_line.new.buffer c.in-Whole.len c.in-Whole.ensures.bytes shows.0 shows.1 shows.2
          (λ told. c.in-None.ensures told.0 told.1 (ap (take c.in-Whole.len) c.bytes.ensures.value ∙ told.2)),
    )

pub returns-in-Rest-clause-reads : goal.returns-in-Rest-clause-reads
returns-in-Rest-clause-reads g c =
    stops_with g.R.Source.remaining _ _ (at c.args.self.now c.args.source.now) (at c.args.self.now c.fetch_line.new.source) c.refusal-in-Rest.result (c.args.self.now.lines + 1) c.refusal-in-Rest.ensures (
      omega arith,
      none_left _ _ (g.R.Source.remaining c.fetch_line.new.source) c.fetch_line.new.buffer c.in-Rest.ensures.bytes c.in-Rest.ensures.shows.0 c.in-Rest.ensures.shows.1,
    )

pub returns-in-Full-clause-reads : goal.returns-in-Full-clause-reads
returns-in-Full-clause-reads g c =
    stops_with g.R.Source.remaining _ _ (at c.args.self.now c.args.source.now) (at c.args.self.now c.fetch_line.new.source) c.refusal-in-Full.result (c.args.self.now.lines + 1) c.refusal-in-Full.ensures (
      omega arith,
      too_long _ _ (g.R.Source.remaining c.fetch_line.new.source) c.fetch_line.new.buffer c.in-Full.ensures.bytes c.in-Full.ensures.shows.0 c.in-Full.ensures.shows.1,
    )

pub returns-in-Some-clause-reads : goal.returns-in-Some-clause-reads
returns-in-Some-clause-reads g c =
    let shows = c.in-Whole.ensures.shows in
    let value = c.in-Some.ensures in (
      value.0,
      record {
        bytes = line_taken _ (g.R.Source.remaining c.fetch_line.new.source) c.fetch_line.new.buffer c.consume.new.self (g.K.LineKind.spelt c.args.kind.now c.in-Some.value) c.in-Whole.len c.in-Whole.ensures.bytes shows.0 shows.1 c.consume.ensures
            (taken_as c.in-Whole.len c.bytes.result.now c.fetch_line.new.buffer (g.K.LineKind.spelt c.args.kind.now c.in-Some.value) c.bytes.ensures.value value.1);
        counted = refl {a = c.args.self.now.lines + 1};
      },
    )

pub returns-in-None-clause-failures : goal.returns-in-None-clause-failures
returns-in-None-clause-failures g c = refusal_tells g.row.K-Value.Denot _ _ c.refusal.result (c.args.self.now.lines + 1) c.refusal.ensures c.in-Whole.ensures.failures

pub returns-in-None-clause-same_reference : goal.returns-in-None-clause-same_reference
returns-in-None-clause-same_reference g c = c.in-Whole.ensures.same_reference

pub returns-in-Rest-clause-failures : goal.returns-in-Rest-clause-failures
returns-in-Rest-clause-failures g c = refusal_tells g.row.K-Value.Denot _ _ c.refusal-in-Rest.result (c.args.self.now.lines + 1) c.refusal-in-Rest.ensures c.in-Rest.ensures.failures

pub returns-in-Rest-clause-same_reference : goal.returns-in-Rest-clause-same_reference
returns-in-Rest-clause-same_reference g c = c.in-Rest.ensures.same_reference

pub returns-in-Full-clause-failures : goal.returns-in-Full-clause-failures
returns-in-Full-clause-failures g c = refusal_tells g.row.K-Value.Denot _ _ c.refusal-in-Full.result (c.args.self.now.lines + 1) c.refusal-in-Full.ensures c.in-Full.ensures.failures

pub returns-in-Full-clause-same_reference : goal.returns-in-Full-clause-same_reference
returns-in-Full-clause-same_reference g c = c.in-Full.ensures.same_reference

pub returns-in-Some-clause-failures : goal.returns-in-Some-clause-failures
returns-in-Some-clause-failures g c = c.in-Whole.ensures.failures

pub returns-in-Some-clause-same_reference : goal.returns-in-Some-clause-same_reference
returns-in-Some-clause-same_reference g c = c.in-Whole.ensures.same_reference

pub returns-in-Failed-clause-reads : goal.returns-in-Failed-clause-reads
returns-in-Failed-clause-reads g c = tt

pub returns-in-Failed-clause-failures : goal.returns-in-Failed-clause-failures
returns-in-Failed-clause-failures g c = c.in-Failed.ensures.failures

pub returns-in-Failed-clause-same_reference : goal.returns-in-Failed-clause-same_reference
returns-in-Failed-clause-same_reference g c = c.in-Failed.ensures.same_reference

pub invariant_of-self : goal.invariant_of-self
invariant_of-self g c = record { few_digits = c.args.self.now.few_digits }

pub invariant_of-self-in-None : goal.invariant_of-self-in-None
invariant_of-self-in-None g c = record { few_digits = c.args.self.now.few_digits }

pub invariant_of-self-in-Rest : goal.invariant_of-self-in-Rest
invariant_of-self-in-Rest g c = record { few_digits = c.args.self.now.few_digits }

pub invariant_of-self-in-Full : goal.invariant_of-self-in-Full
invariant_of-self-in-Full g c = record { few_digits = c.args.self.now.few_digits }

pub invariant_of-self-in-Failed : goal.invariant_of-self-in-Failed
invariant_of-self-in-Failed g c = record { few_digits = c.args.self.now.few_digits }

pub refusal-requires : goal.refusal-requires
refusal-requires g c = c.requires

pub refusal-requires-in-Rest : goal.refusal-requires-in-Rest
refusal-requires-in-Rest g c = c.requires

pub refusal-requires-in-Full : goal.refusal-requires-in-Full
refusal-requires-in-Full g c = c.requires
