use Rattle.tl_record.specs.Failures.{one_more}
use Rattle.std.proofs.Common.{◌≡◌, ◌≢◌, ◌≤◌, refl, subst, sym, ap, ◌∙◌, length, arith}
use Rattle.tl_record.specs.Lines.{line_feeds}
use Rattle.std.proofs.KnownBytes.{Keeps-refl, Keeps-trans}
use Rattle.tl_record.proofs.KnownLemmas.{fetched_kept, failed_kept}
use Rattle.tl_record.proofs.LineLemmas.{feed_found, no_feed_found, front_searched, less_room, no_bytes}
use Rattle.tl_record.proofs.line_buffer.fetch_line.Goals as goal

pub returns-in-Some-clause-shows : goal.returns-in-Some-clause-shows
returns-in-Some-clause-shows g c =
    feed_found c.fetches.buffer c.bytes-bytes.result.now c.fetches.searched c.in-Some.found c.bytes-bytes.ensures.value c.fetches.invariant.searched c.fetches.invariant.none c.in-Some.ensures

pub returns-then-searched-clause-shows : goal.returns-then-searched-clause-shows
returns-then-searched-clause-shows g c = (
  no_feed_found c.fetches.buffer c.bytes-bytes.result.now c.fetches.searched c.bytes-bytes.ensures.value c.fetches.invariant.searched c.fetches.invariant.none c.in_default.ensures,
  ap length (sym c.bytes-bytes.ensures.value) ∙ c.if-searched.true,
)

pub returns-in-Ok-eq0-clause-shows : goal.returns-in-Ok-eq0-clause-shows
returns-in-Ok-eq0-clause-shows g c =
    let none = no_feed_found c.fetches.buffer c.bytes-bytes.result.now c.fetches.searched c.bytes-bytes.ensures.value c.fetches.invariant.searched c.fetches.invariant.none c.in_default.ensures in
    let fetched = c.in-Ok-eq0.ensures.bytes in
    let empty : length fetched.0 ≡ 0 = fetched.1 ∙ c.in-Ok-eq0.field-0-test in
    (ap line_feeds (fetched.2.added ∙ no_bytes c.fetches.buffer fetched.0 empty) ∙ none, fetched.2.ended empty)

pub fetches-preserved : goal.fetches-preserved
fetches-preserved g c =
    let none = no_feed_found c.fetches.buffer c.bytes-bytes.result.now c.fetches.searched c.bytes-bytes.ensures.value c.fetches.invariant.searched c.fetches.invariant.none c.in_default.ensures in
    let fetched = c.in-Ok.ensures.bytes in
    let front = front_searched c.fetches.buffer fetched.0 c.fetch.new.self (length c.bytes-bytes.result.now) fetched.2.added (ap length c.bytes-bytes.ensures.value) none in
    record {
      searched = front.0;
      none = front.1;
      bytes = Keeps-trans _ _ _ c.fetches.invariant.bytes
          (fetched_kept c.fetches.buffer c.fetch.new.self fetched.0 (g.R.Source.remaining c.fetches.source) (g.R.Source.remaining c.fetch.new.source) fetched.2.added fetched.2.consumed);
      failures = c.in-Ok.ensures.failures ∙ c.fetches.invariant.failures;
      same = c.in-Ok.ensures.same_reference ∙ c.fetches.invariant.same;
    }

pub returns-in-Err-clause-shows : goal.returns-in-Err-clause-shows
returns-in-Err-clause-shows g c =
    let none = no_feed_found c.fetches.buffer c.bytes-bytes.result.now c.fetches.searched c.bytes-bytes.ensures.value c.fetches.invariant.searched c.fetches.invariant.none c.in_default.ensures in
    ap line_feeds c.in-Err.ensures.bytes.0 ∙ none

pub slice_bounds-memchr-end : goal.slice_bounds-memchr-end
slice_bounds-memchr-end g c = omega arith

pub returns-in-Some-clause-bytes : goal.returns-in-Some-clause-bytes
returns-in-Some-clause-bytes g c = c.fetches.invariant.bytes

pub returns-then-searched-clause-bytes : goal.returns-then-searched-clause-bytes
returns-then-searched-clause-bytes g c = c.fetches.invariant.bytes

pub returns-in-Some-clause-failures : goal.returns-in-Some-clause-failures
returns-in-Some-clause-failures g c = c.fetches.invariant.failures

pub returns-then-searched-clause-failures : goal.returns-then-searched-clause-failures
returns-then-searched-clause-failures g c = c.fetches.invariant.failures

pub returns-in-Some-clause-same_reference : goal.returns-in-Some-clause-same_reference
returns-in-Some-clause-same_reference g c = c.fetches.invariant.same

pub returns-then-searched-clause-same_reference : goal.returns-then-searched-clause-same_reference
returns-then-searched-clause-same_reference g c = c.fetches.invariant.same

pub returns-in-Ok-eq0-clause-bytes : goal.returns-in-Ok-eq0-clause-bytes
returns-in-Ok-eq0-clause-bytes g c =
    let fetched = c.in-Ok-eq0.ensures.bytes in
    Keeps-trans _ _ _ c.fetches.invariant.bytes
    (fetched_kept c.fetches.buffer c.fetch.new.self fetched.0 (g.R.Source.remaining c.fetches.source) (g.R.Source.remaining c.fetch.new.source) fetched.2.added fetched.2.consumed)

pub returns-in-Ok-eq0-clause-failures : goal.returns-in-Ok-eq0-clause-failures
returns-in-Ok-eq0-clause-failures g c = c.in-Ok-eq0.ensures.failures ∙ c.fetches.invariant.failures

pub returns-in-Ok-eq0-clause-same_reference : goal.returns-in-Ok-eq0-clause-same_reference
returns-in-Ok-eq0-clause-same_reference g c = c.in-Ok-eq0.ensures.same_reference ∙ c.fetches.invariant.same

pub returns-in-Err-clause-failures : goal.returns-in-Err-clause-failures
returns-in-Err-clause-failures g c = c.in-Err.ensures.failures ∙ ap one_more c.fetches.invariant.failures

pub returns-in-Err-clause-same_reference : goal.returns-in-Err-clause-same_reference
returns-in-Err-clause-same_reference g c = c.in-Err.ensures.same_reference ∙ c.fetches.invariant.same

pub slice_bounds-memchr-count : goal.slice_bounds-memchr-count
slice_bounds-memchr-count g c =
    subst (λ bytes. c.fetches.searched ≤ length bytes) (sym c.bytes-bytes.ensures.value) c.fetches.invariant.searched

pub returns-in-Err-clause-bytes : goal.returns-in-Err-clause-bytes
returns-in-Err-clause-bytes g c =
    let failed = c.in-Err.ensures.bytes in
    Keeps-trans _ _ _ c.fetches.invariant.bytes
    (failed_kept c.fetches.buffer c.fetch.new.self (g.R.Source.remaining c.fetches.source) (g.R.Source.remaining c.fetch.new.source) failed.0 failed.1)

pub fetches-init : goal.fetches-init
fetches-init g c = record { searched = omega arith; none = refl; bytes = Keeps-refl _; failures = refl; same = refl }

pub overflow_add-result : goal.overflow_add-result
overflow_add-result g c =
    let found = feed_found c.fetches.buffer c.bytes-bytes.result.now c.fetches.searched c.in-Some.found c.bytes-bytes.ensures.value c.fetches.invariant.searched c.fetches.invariant.none c.in-Some.ensures in
    let below = found.0 in
    let room = c.bytes-bytes.ensures.room in
    let fits = g.N.fits in
    omega (arith, below, room, fits)

pub fetches-smaller : goal.fetches-smaller
fetches-smaller g c =
    let fetched = c.in-Ok.ensures.bytes in
    less_room c.fetches.buffer fetched.0 c.fetch.new.self g.row.N c.in-Ok.field-0 c.bytes-bytes.ensures.room
    (subst (λ bytes. length bytes ≢ g.row.N) c.bytes-bytes.ensures.value c.if-searched.false) fetched.2.added fetched.1 c.in-Ok.field-0-test.1
