-- What a reader answers, from the lines that it passed over and the line that it judged last.
use Rattle.std.proofs.Common.{◌≡◌, ℕ, ◌+◌, List, Option, None, Some, Ok, Err, refl, sym, ap, ◌∙◌, arith, inl, inr, subst}
use Rattle.std.specs.Option.{unwrap_or, option_map}
use Rattle.std.specs.Prelude.{Result}
use Rattle.tl_record.specs.declared.stop.ReadStop.{ReadStop}
use Rattle.tl_record.specs.declared.stop.ReadStop.TheVariants as stop
use Rattle.tl_record.specs.declared.record.Record.{Record}
use Rattle.tl_record.specs.declared.judge.Meaning.{Meaning}
use Rattle.tl_record.specs.declared.judge.Meaning.TheVariants as meaning
use Rattle.tl_record.specs.Meaning.{judgement_with, KeepsUnread}
use Rattle.tl_record.specs.declared.judge.Judgement.{Judgement}
use Rattle.tl_record.specs.declared.judge.Judgement.TheVariants.{PassedOver, Read, Refused}
use Rattle.tl_record.specs.declared.reader.NextLine.TheVariants as next
use Rattle.tl_record.specs.declared.reader.Standing.TheVariants.{Reading, Ended, Stopped}
use Rattle.tl_record.specs.declared.reader.RecordReader.{RecordReader}
use Rattle.tl_record.specs.Reader.{Answer, source_of, lines_of, skipped_of, standing_of, pending_of, layout_of, unjudged, outcome, to_come, nothing_after, StepsTo, CountsLine, PassesOver, Moves, Gives, answer_of, answer_with, KeepsUnanswered, lines_with, skipped_with, judged_of, judged_with, standing_with}
use Rattle.tl_record.specs.Failures.{one_more}
use Rattle.tl_record.specs.Lines.{line_feeds}
use Rattle.tl_record.specs.Records.{Records}
use Rattle.tl_record.proofs.RefusalLemmas.{refusals_passed, refusals_read, refusals_refused, last_refusals_passed, last_refusals_read, last_refusals_refused, end_refusals, failed_refusals, KeepsRefusals-trans}
use Rattle.tl_record.proofs.MoveLemmas.{coming, line_passed, feed_passed, line_read, line_refused, last_passed, last_read, last_refused, end_reached, read_failed, feeds_failed, KeepsRecords-trans, Gives-after, CountsLineFeeds-trans}

-- one more line is passed over
pub passes_on : {R : Type 0} (remaining : R → Option (List ℕ)) (failure_count : R → ℕ) (first before found after : RecordReader R) (j : Judgement)
    → PassesOver remaining failure_count first before → StepsTo remaining failure_count before found (next.Line j) → CountsLine found after j None
    → PassesOver remaining failure_count first after
passes_on remaining failure_count first before found after PassedOver passed step counted =
    let layout : after.layout ≡ before.layout = counted.layout ∙ step.progress.layout in
    let lines : after.lines ≡ before.lines + 1 = counted.lines ∙ ap (λ n. n + 1) step.progress.lines in
    let skipped : after.skipped ≡ before.skipped + 1 = counted.skipped ∙ ap (λ n. n + 1) step.progress.skipped in
    let same : unjudged remaining after ≡ unjudged remaining found = rw (counted.source, counted.pending) refl in
    record {
      standing = counted.standing ∙ step.progress.standing ∙ passed.standing;
      failures = ap failure_count counted.source ∙ step.failures ∙ passed.failures;
      counts = omega (arith, passed.counts, lines, skipped);
      feeds = CountsLineFeeds-trans _ _ _ _ _ _ passed.feeds
          (rw (same, lines) (feed_passed before.layout before.lines (unjudged remaining before) (unjudged remaining found) step.finds));
      coming = KeepsRecords-trans _ _ _ passed.coming
          (rw (same, layout, lines, skipped) (line_passed before.layout before.lines before.skipped (unjudged remaining before) (unjudged remaining found) step.finds));
      refusals = KeepsRefusals-trans _ _ _ passed.refusals
          (rw (same, layout, lines) (refusals_passed before.layout before.lines (unjudged remaining before) (unjudged remaining found) step.finds));
    }
passes_on remaining failure_count first before found after (Read r) passed step counted = let bad = counted.is in cc
passes_on remaining failure_count first before found after (Refused cause) passed step counted = let bad = counted.is in cc

-- a line whose line feed was read is answered
pub answers_line : {R : Type 0} (remaining : R → Option (List ℕ)) (failure_count : R → ℕ) (first before found after : RecordReader R) (j : Judgement) (answer : Answer)
    → PassesOver remaining failure_count first before → StepsTo remaining failure_count before found (next.Line j) → CountsLine found after j (Some answer)
    → Moves remaining failure_count first after answer
answers_line remaining failure_count first before found after PassedOver answer passed step counted = let bad = counted.is in cc
answers_line remaining failure_count first before found after (Read r) answer passed step counted =
    let layout : after.layout ≡ before.layout = counted.layout ∙ step.progress.layout in
    let lines : after.lines ≡ before.lines + 1 = counted.lines ∙ ap (λ n. n + 1) step.progress.lines in
    let skipped : after.skipped ≡ before.skipped = counted.skipped ∙ step.progress.skipped in
    let standing : after.standing ≡ Reading = counted.standing ∙ step.progress.standing ∙ passed.standing in
    let told : answer ≡ Ok (Some (found.lines + 1, r)) = let is = counted.is in cc in
    let is : answer ≡ Ok (Some (before.lines + 1, r)) = told ∙ ap (λ n. Ok (Some (n + 1, r))) step.progress.lines in
    let left : outcome remaining after ≡ coming before.layout (before.lines + 1) before.skipped (unjudged remaining found) =
    rw (standing, layout, lines, skipped, counted.source, counted.pending) refl in
    rw is record {
      gives = Gives-after _ _ _ _ _ passed.coming
          (rw left (line_read before.layout before.lines before.skipped (unjudged remaining before) (unjudged remaining found) r after.skipped step.finds));
      settles = inl standing;
      counts = (sym lines, omega (arith, passed.counts, lines, skipped));
      failures = ap failure_count counted.source ∙ step.failures ∙ passed.failures;
      whole = tt;
      refusals = KeepsRefusals-trans _ _ _ passed.refusals
          (rw (standing, layout, lines, counted.source, counted.pending) (refusals_read before.layout before.lines (unjudged remaining before) (unjudged remaining found) r step.finds));
    }
answers_line remaining failure_count first before found after (Refused cause) answer passed step counted =
    let layout : after.layout ≡ before.layout = counted.layout ∙ step.progress.layout in
    let judged : after.judged ≡ before.lines = counted.judged ∙ step.progress.lines in
    let lines : after.lines ≡ before.lines = counted.lines ∙ step.progress.lines in
    let skipped : after.skipped ≡ before.skipped = counted.skipped ∙ step.progress.skipped in
    let told : answer ≡ Err (stop.Refused (found.lines + 1) cause) = let is = counted.is in cc in
    let is : answer ≡ Err (stop.Refused (before.lines + 1) cause) = told ∙ ap (λ n. Err (stop.Refused (n + 1) cause)) step.progress.lines in
    let standing : after.standing ≡ Stopped (stop.Refused (before.lines + 1) cause) = counted.standing ∙ ap (λ n. Stopped (stop.Refused (n + 1) cause)) step.progress.lines in
    rw is record {
      gives = Gives-after _ _ _ _ _ passed.coming
          (subst (λ (n : ℕ). Gives (to_come remaining before) (outcome remaining after) n (Err (stop.Refused (before.lines + 1) cause))) (sym skipped) (line_refused before.layout before.lines before.skipped (unjudged remaining before) (unjudged remaining found) (outcome remaining after) cause step.finds));
      settles = standing;
      counts = (ap (λ n. n + 1) (sym lines), omega (arith, passed.counts, lines, skipped));
      failures = ap failure_count counted.source ∙ step.failures ∙ passed.failures;
      whole = tt;
      refusals = KeepsRefusals-trans _ _ _ passed.refusals
          (rw (standing, layout, judged, counted.source, counted.pending) (refusals_refused before.layout before.lines (unjudged remaining before) (unjudged remaining found) cause step.finds));
    }

-- a last line, counted by a reader that holds itself at the end
pub record IsAccepted {R : Type 0} (old new : RecordReader R) (j : Judgement) (told : Option Answer) : Type 0 where
  pub is : told ≡ answer_of (lines_of old + 1) j
  pub lines : lines_of new ≡ lines_with (lines_of old) j
  pub skipped : skipped_of new ≡ skipped_with (skipped_of old) j
  pub judged : judged_of new ≡ judged_with (judged_of old) (lines_of old) j
  pub standing : standing_of new ≡ standing_with Ended (lines_of old + 1) j
  pub layout : layout_of new ≡ layout_of old
  pub source : source_of new ≡ source_of old
  pub pending : pending_of new ≡ pending_of old

-- a last line with no line feed is answered, or the end where it is passed over
pub answers_last : {R : Type 0} (remaining : R → Option (List ℕ)) (failure_count : R → ℕ) (first before found after : RecordReader R) (j : Judgement) (told : Option Answer)
    → PassesOver remaining failure_count first before → StepsTo remaining failure_count before found (next.Last j)
    → IsAccepted found after j told → Moves remaining failure_count first after (unwrap_or told (Ok None))
answers_last remaining failure_count first before found after PassedOver told passed step counted =
    let lines : after.lines ≡ before.lines + 1 = counted.lines ∙ ap (λ n. n + 1) step.progress.lines in
    let skipped : after.skipped ≡ before.skipped + 1 = counted.skipped ∙ ap (λ n. n + 1) step.progress.skipped in
    rw counted.is record {
      gives = Gives-after _ _ _ _ _ passed.coming
          (subst (λ (n : ℕ). Gives (to_come remaining before) (outcome remaining after) n (Ok None)) (sym skipped) (last_passed before.layout before.lines before.skipped (unjudged remaining before) (unjudged remaining found) (outcome remaining after) step.finds));
      settles = counted.standing;
      counts = omega (arith, passed.counts, lines, skipped);
      failures = ap failure_count counted.source ∙ step.failures ∙ passed.failures;
      whole = tt;
      refusals = KeepsRefusals-trans _ _ _ passed.refusals
          (rw counted.standing (last_refusals_passed before.layout before.lines (unjudged remaining before) (unjudged remaining found) step.finds));
    }
answers_last remaining failure_count first before found after (Read r) told passed step counted =
    let lines : after.lines ≡ before.lines + 1 = counted.lines ∙ ap (λ n. n + 1) step.progress.lines in
    let skipped : after.skipped ≡ before.skipped = counted.skipped ∙ step.progress.skipped in
    let is : told ≡ Some (Ok (Some (before.lines + 1, r))) = counted.is ∙ ap (λ n. Some (Ok (Some (n + 1, r)))) step.progress.lines in
    let left : outcome remaining after ≡ Some (nothing_after before.skipped) = rw (counted.standing, skipped) refl in
    rw is record {
      gives = Gives-after _ _ _ _ _ passed.coming
          (rw left (last_read before.layout before.lines before.skipped (unjudged remaining before) (unjudged remaining found) r after.skipped step.finds));
      settles = inr counted.standing;
      counts = (sym lines, omega (arith, passed.counts, lines, skipped));
      failures = ap failure_count counted.source ∙ step.failures ∙ passed.failures;
      whole = tt;
      refusals = KeepsRefusals-trans _ _ _ passed.refusals
          (rw counted.standing (last_refusals_read before.layout before.lines (unjudged remaining before) (unjudged remaining found) r step.finds));
    }
answers_last remaining failure_count first before found after (Refused cause) told passed step counted =
    let layout : after.layout ≡ before.layout = counted.layout ∙ step.progress.layout in
    let judged : after.judged ≡ before.lines = counted.judged ∙ step.progress.lines in
    let lines : after.lines ≡ before.lines = counted.lines ∙ step.progress.lines in
    let skipped : after.skipped ≡ before.skipped = counted.skipped ∙ step.progress.skipped in
    let is : told ≡ Some (Err (stop.Refused (before.lines + 1) cause)) = counted.is ∙ ap (λ n. Some (Err (stop.Refused (n + 1) cause))) step.progress.lines in
    let standing : after.standing ≡ Stopped (stop.Refused (before.lines + 1) cause) = counted.standing ∙ ap (λ n. Stopped (stop.Refused (n + 1) cause)) step.progress.lines in
    rw is record {
      gives = Gives-after _ _ _ _ _ passed.coming
          (subst (λ (n : ℕ). Gives (to_come remaining before) (outcome remaining after) n (Err (stop.Refused (before.lines + 1) cause))) (sym skipped) (last_refused before.layout before.lines before.skipped (unjudged remaining before) (unjudged remaining found) (outcome remaining after) cause step.finds));
      settles = standing;
      counts = (ap (λ n. n + 1) (sym lines), omega (arith, passed.counts, lines, skipped));
      failures = ap failure_count counted.source ∙ step.failures ∙ passed.failures;
      whole = tt;
      refusals = KeepsRefusals-trans _ _ _ passed.refusals
          (rw (standing, layout, judged, counted.source, counted.pending) (last_refusals_refused before.layout before.lines (unjudged remaining before) (unjudged remaining found) cause step.finds));
    }

-- where no line is left, the end is answered
pub answers_end : {R : Type 0} (remaining : R → Option (List ℕ)) (failure_count : R → ℕ) (first before found after : RecordReader R)
    → PassesOver remaining failure_count first before → StepsTo remaining failure_count before found next.End
    → standing_of after ≡ Ended → lines_of after ≡ lines_of found → skipped_of after ≡ skipped_of found → source_of after ≡ source_of found
    → Moves remaining failure_count first after (Ok None)
answers_end remaining failure_count first before found after passed step standing lines skipped source =
    let lines_are : after.lines ≡ before.lines = lines ∙ step.progress.lines in
    let skipped_are : after.skipped ≡ before.skipped = skipped ∙ step.progress.skipped in
    record {
      gives = Gives-after _ _ _ _ _ passed.coming
          (subst (λ (n : ℕ). Gives (to_come remaining before) (outcome remaining after) n (Ok None)) (sym skipped_are) (end_reached before.layout before.lines before.skipped (unjudged remaining before) (unjudged remaining found) (outcome remaining after) step.finds));
      settles = standing;
      counts = omega (arith, passed.counts, lines_are, skipped_are);
      failures = ap failure_count source ∙ step.failures ∙ passed.failures;
      whole = tt;
      refusals = KeepsRefusals-trans _ _ _ passed.refusals
          (rw standing (end_refusals before.layout before.lines (unjudged remaining before) (unjudged remaining found) step.finds));
    }

device_gives : (old new : Option Records) (skipped : ℕ) → Gives old new skipped (Err stop.Device)
device_gives None new skipped = tt
device_gives (Some records) new skipped = tt

-- all but whether the reader still reads is the same
pub record IsHalted {R : Type 0} (old new : RecordReader R) : Type 0 where
  pub layout : layout_of new ≡ layout_of old
  pub lines : lines_of new ≡ lines_of old
  pub skipped : skipped_of new ≡ skipped_of old
  pub source : source_of new ≡ source_of old
  pub pending : pending_of new ≡ pending_of old

-- a failed read is answered, and what was to come is still to come
pub answers_failed : {R : Type 0} (remaining : R → Option (List ℕ)) (failure_count : R → ℕ) (first before found after : RecordReader R)
    → PassesOver remaining failure_count first before → StepsTo remaining failure_count before found next.Failed
    → standing_of after ≡ Stopped stop.Device → IsHalted found after → Moves remaining failure_count first after (Err stop.Device)
answers_failed remaining failure_count first before found after passed step standing halted =
    let layout : after.layout ≡ before.layout = halted.layout ∙ step.progress.layout in
    let lines : after.lines ≡ before.lines = halted.lines ∙ step.progress.lines in
    let skipped : after.skipped ≡ before.skipped = halted.skipped ∙ step.progress.skipped in
    let same : unjudged remaining after ≡ unjudged remaining found = rw (halted.source, halted.pending) refl in
    record {
      gives = device_gives (to_come remaining first) (outcome remaining after) after.skipped;
      settles = standing;
      counts = omega (arith, passed.counts, lines, skipped);
      failures = ap failure_count halted.source ∙ step.failures ∙ ap one_more passed.failures;
      whole = record {
        pending = ap line_feeds halted.pending ∙ step.pending;
        feeds = CountsLineFeeds-trans _ _ _ _ _ _ passed.feeds
            (rw (same, lines) (feeds_failed before.layout before.lines (unjudged remaining before) (unjudged remaining found) step.finds));
        coming = KeepsRecords-trans _ _ _ passed.coming
            (rw (same, layout, lines, skipped) (read_failed before.layout before.lines before.skipped (unjudged remaining before) (unjudged remaining found) step.finds));
      };
      refusals = KeepsRefusals-trans _ _ _ passed.refusals
          (rw (standing, same, layout, lines) (failed_refusals before.layout before.lines (unjudged remaining before) (unjudged remaining found) step.finds));
    }

-- ---- the record's place

keeps_any : (answer : Result (Option ℕ) ReadStop) (old new : Record) → new ≡ old → KeepsUnanswered answer old new
keeps_any (Ok (Some number)) old new same = tt
keeps_any (Ok None) old new same = same
keeps_any (Err stop) old new same = same

-- a line that is answered leaves the place as it was, unless a record is answered
pub line_keeps : (meaning : Meaning) (answer : Result (Option ℕ) ReadStop) (number : ℕ) (first before new : Record) → before ≡ first → KeepsUnread meaning before new
    → Some (answer_with answer new) ≡ answer_of number (judgement_with meaning new) → KeepsUnanswered answer first new
line_keeps meaning.PassedOver answer number first before new same kept is = keeps_any answer first new (kept ∙ same)
line_keeps meaning.Read (Ok (Some n)) number first before new same kept is = tt
line_keeps meaning.Read (Ok None) number first before new same kept is = absurd (let wrong = is in cc)
line_keeps meaning.Read (Err stop) number first before new same kept is = absurd (let wrong = is in cc)
line_keeps (meaning.Refused cause) answer number first before new same kept is = keeps_any answer first new (kept ∙ same)

-- and so does one that is passed over
pub passed_keeps : (meaning : Meaning) (number : ℕ) (before new : Record) → KeepsUnread meaning before new → None ≡ answer_of number (judgement_with meaning new) → new ≡ before
passed_keeps meaning.PassedOver number before new kept is = kept
passed_keeps meaning.Read number before new kept is = absurd (let wrong = is in cc)
passed_keeps (meaning.Refused cause) number before new kept is = kept

pub last_keeps : (meaning : Meaning) (told : Option (Result (Option ℕ) ReadStop)) (number : ℕ) (first before new : Record) → before ≡ first → KeepsUnread meaning before new
    → option_map (λ answer. answer_with answer new) told ≡ answer_of number (judgement_with meaning new) → KeepsUnanswered (unwrap_or told (Ok None)) first new
last_keeps meaning None number first before new same kept is = passed_keeps meaning number before new kept is ∙ same
last_keeps meaning (Some answer) number first before new same kept is = line_keeps meaning answer number first before new same kept is

pub unwrapped_with : (told : Option (Result (Option ℕ) ReadStop)) (r : Record)
    → unwrap_or (option_map (λ answer. answer_with answer r) told) (Ok None) ≡ answer_with (unwrap_or told (Ok None)) r
unwrapped_with None r = refl
unwrapped_with (Some answer) r = refl
