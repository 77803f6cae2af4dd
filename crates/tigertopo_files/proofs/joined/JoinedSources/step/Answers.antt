use Rattle.std.proofs.lemmas.Result.{err_from_is_err_and}
use Rattle.std.proofs.Common.{◌≡◌, ◌<◌, arith, length, refl, take}
use Rattle.tigertopo_files.proofs.JoiningLemmas.{joined_bytes-read, joined_bytes-end, leaves_open-read, take-line_feed, good_read, failed_read}
use Rattle.tigertopo_files.proofs.CountsLemmas.{counts_read, counts_end, counts_keep}
use Rattle.tl_cert_output.proofs.WritingLemmas.{counts_err}
use Rattle.tigertopo_files.proofs.joined.JoinedSources.step.Goals as goal

pub returns-then-count-gt0-clause-bytes : goal.returns-then-count-gt0-clause-bytes
returns-then-count-gt0-clause-bytes g c =
    let before = c.args.self.now.is_open in
    let open_now = leaves_open-read before c.fetch.new.buf c.in_ok-count.count c.if-count-gt0.true c.in_ok-count.ensures.bound.0 in
    let within : c.args.self.now.place < length c.args.self.now.readers.items = omega (arith, c.args.self.now.readers.ok.0) in
    rw (← open_now)
    (joined_bytes-read g.R.Source.remaining before c.args.self.now.readers.items c.args.self.now.place _ c.fetch.new.self
    (take c.in_ok-count.count c.fetch.new.buf) within c.index_mut.ensures.value c.in_ok-count.ensures.bytes.0)

pub returns-then-self-clause-bytes : goal.returns-then-self-clause-bytes
returns-then-self-clause-bytes g c =
    let none : c.in_ok-count.count ≡ 0 = omega arith in
    let room : 0 < length c.fetch.new.buf = omega arith in
    let within : c.args.self.now.place < length c.args.self.now.readers.items = omega (arith, c.args.self.now.readers.ok.0) in
    let gone = rw none at c.in_ok-count.ensures.bytes.0 in
    let done = joined_bytes-end g.R.Source.remaining c.args.self.now.is_open c.args.self.now.readers.items
    c.args.self.now.place _ c.fetch.new.self within c.index_mut.ensures.value gone
    (c.in_ok-count.ensures.bytes.1 none room) in
    rw (c.if-self.true, take-line_feed c.fetch.new.buf room) (rw c.if-self.true at done)

pub returns-then-count-gt0-clause-failures : goal.returns-then-count-gt0-clause-failures
returns-then-count-gt0-clause-failures g c =
    let within : c.args.self.now.place < length c.args.self.now.readers.items = omega (arith, c.args.self.now.readers.ok.0) in
    good_read g.R.Source.failure_count 0 c.args.self.now.readers.items c.args.self.now.place _ c.fetch.new.self within c.index_mut.ensures.value c.in_ok-count.ensures.failures

pub returns-then-self-clause-failures : goal.returns-then-self-clause-failures
returns-then-self-clause-failures g c =
    let within : c.args.self.now.place < length c.args.self.now.readers.items = omega (arith, c.args.self.now.readers.ok.0) in
    good_read g.R.Source.failure_count 0 c.args.self.now.readers.items c.args.self.now.place _ c.fetch.new.self within c.index_mut.ensures.value c.in_ok-count.ensures.failures

pub returns-clause-failures : goal.returns-clause-failures
returns-clause-failures g c =
    let within : c.args.self.now.place < length c.args.self.now.readers.items = omega (arith, c.args.self.now.readers.ok.0) in
    good_read g.R.Source.failure_count 0 c.args.self.now.readers.items c.args.self.now.place _ c.fetch.new.self within c.index_mut.ensures.value c.in_ok-count.ensures.failures

pub returns-in_err-count-clause-failures : goal.returns-in_err-count-clause-failures
returns-in_err-count-clause-failures g c =
    let within : c.args.self.now.place < length c.args.self.now.readers.items = omega (arith, c.args.self.now.readers.ok.0) in
    counts_err _ _ c.from_residual.result c.from_residual.ensures.0
    (failed_read g.R.Source.failure_count 0 c.args.self.now.readers.items c.args.self.now.place _ c.fetch.new.self within c.index_mut.ensures.value c.in_err-count.ensures.failures)

pub returns-then-count-gt0-clause-bound : goal.returns-then-count-gt0-clause-bound
returns-then-count-gt0-clause-bound g c = c.in_ok-count.ensures.bound

pub returns-then-count-gt0-clause-next : goal.returns-then-count-gt0-clause-next
returns-then-count-gt0-clause-next g c = λ none. absurd (omega (arith, c.if-count-gt0.true, none))

pub returns-then-self-clause-next : goal.returns-then-self-clause-next
returns-then-self-clause-next g c = λ none. absurd (cc none)

pub returns-clause-next : goal.returns-clause-next
returns-clause-next g c = λ none. refl

pub returns-in_err-count-clause-next : goal.returns-in_err-count-clause-next
returns-in_err-count-clause-next g c =
    let p = err_from_is_err_and c.from_residual.result c.from_residual.ensures.1 in
    rw p.1 refl

pub returns-clause-readers : goal.returns-clause-readers
returns-clause-readers g c = refl

pub returns-in_err-count-clause-readers : goal.returns-in_err-count-clause-readers
returns-in_err-count-clause-readers g c = refl

pub returns-then-count-gt0-clause-readers : goal.returns-then-count-gt0-clause-readers
returns-then-count-gt0-clause-readers g c = refl

pub returns-then-self-clause-readers : goal.returns-then-self-clause-readers
returns-then-self-clause-readers g c = refl

pub returns-clause-bytes : goal.returns-clause-bytes
returns-clause-bytes g c =
    let none : c.in_ok-count.count ≡ 0 = omega arith in
    let room : 0 < length c.fetch.new.buf = omega arith in
    let within : c.args.self.now.place < length c.args.self.now.readers.items = omega (arith, c.args.self.now.readers.ok.0) in
    let gone = rw none at c.in_ok-count.ensures.bytes.0 in
    let done = joined_bytes-end g.R.Source.remaining c.args.self.now.is_open c.args.self.now.readers.items
    c.args.self.now.place _ c.fetch.new.self within c.index_mut.ensures.value gone
    (c.in_ok-count.ensures.bytes.1 none room) in
    rw c.if-self.false (rw c.if-self.false at done)

pub invariant_of-self : goal.invariant_of-self
invariant_of-self g c = record {
  within = c.args.self.now.within;
  counted = counts_keep g.R.Source.remaining g.T.Texts.texts c.args.self.now.place c.args.self.now.readers.items c.args.self.now.counts.items _ c.fetch.new.self c.index_mut.ensures.value c.args.self.now.counted c.in_err-count.ensures.bytes;
}

pub invariant_of-self-then-count-gt0 : goal.invariant_of-self-then-count-gt0
invariant_of-self-then-count-gt0 g c = record {
  within = c.args.self.now.within;
  counted = counts_read g.R.Source.remaining g.T.Texts.texts c.args.self.now.place c.args.self.now.readers.items c.args.self.now.counts.items c.count_at.new.counts.items _ c.fetch.new.self (take c.in_ok-count.count c.fetch.new.buf)
      c.index_mut.ensures.value c.args.self.now.counted c.in_ok-count.ensures.bytes.0 c.count_at.ensures;
}

pub invariant_of-self-then-self-clause-counted : goal.invariant_of-self-then-self-clause-counted
invariant_of-self-then-self-clause-counted g c =
    let none : c.in_ok-count.count ≡ 0 = omega arith in
    counts_end g.R.Source.remaining g.T.Texts.texts c.args.self.now.place c.args.self.now.readers.items c.args.self.now.counts.items _ c.fetch.new.self c.index_mut.ensures.value c.args.self.now.counted
    (rw none at c.in_ok-count.ensures.bytes.0) (c.in_ok-count.ensures.bytes.1 none (omega arith))

pub invariant_of-self-else-self-clause-counted : goal.invariant_of-self-else-self-clause-counted
invariant_of-self-else-self-clause-counted g c =
    let none : c.in_ok-count.count ≡ 0 = omega arith in
    counts_end g.R.Source.remaining g.T.Texts.texts c.args.self.now.place c.args.self.now.readers.items c.args.self.now.counts.items _ c.fetch.new.self c.index_mut.ensures.value c.args.self.now.counted
    (rw none at c.in_ok-count.ensures.bytes.0) (c.in_ok-count.ensures.bytes.1 none (omega arith))
