-- What the next line takes from what is left without refused lines.
use Rattle.std.proofs.Common.{◌≡◌, ℕ, ◌+◌, ◌≤◌, ◌∷◌, List, [], map, Option, None, Some, Ok, Err, refl, sym, ap, ◌∙◌, subst, arith}
use Rattle.std.specs.List.{filter_map}
use Rattle.std.specs.Option.{option_map, unwrap_or}
use Rattle.std.specs.Io.KnownBytes.{prepend_known}
use Rattle.tl_record.specs.declared.layout.Layout.{Layout}
use Rattle.tl_record.specs.declared.record.Record.{Record}
use Rattle.tl_record.specs.declared.stop.Cause.{Cause}
use Rattle.tl_record.specs.declared.stop.ReadStop.TheVariants as stop
use Rattle.tl_record.specs.declared.judge.Judgement.{Judgement}
use Rattle.tl_record.specs.declared.judge.Judgement.TheVariants.{PassedOver, Read, Refused}
use Rattle.tl_record.specs.declared.reader.NextLine.TheVariants as next
use Rattle.tl_record.specs.declared.reader.Standing.TheVariants.{Reading, Ended, Stopped}
use Rattle.tl_record.specs.declared.reader.RecordReader.{RecordReader}
use Rattle.tl_record.specs.Limits.{most_lines}
use Rattle.tl_record.specs.Lines.{raw_lines, after_first_line}
use Rattle.tl_record.specs.Records.{Records, judgements, records_judged, refusal_of, lines_read}
use Rattle.tl_record.specs.Refusals.{refused}
use Rattle.tl_record.specs.Left.{left_of, judged_left, records_left}
use Rattle.tl_record.specs.NextLine.{JudgesFirst, FindsNext}
use Rattle.tl_record.specs.Reader.{Answer, lines_of, skipped_of, standing_of, unjudged, with_skipped, with_entry, nothing_after, StepsTo, CountsLine, PassesOver, KeepsRecords, KeepsRefusals}
use Rattle.tl_record.specs.Leaving.{left_in, behind_line, left_reading, left_to_come, GivesLeft, IsFirst, LeavesOn, Leaves}
use Rattle.tl_record.proofs.RecordLemmas.{same_records, records_passed, records_read, records_none, judgements-first}
use Rattle.tl_record.proofs.RefusalLemmas.{refused_in}
use Rattle.tl_record.proofs.MoveLemmas.{KeepsRecords-trans}
use Rattle.tl_record.proofs.LeftLemmas.{empty_passed, read_of_left}
use Rattle.tl_record.specs.Fronts.{TakesLines, lines_ahead}
use Rattle.tl_record.proofs.FrontLemmas.{ahead_passed, ahead_read, ahead_refused, ahead_last, is_front, passes_to}
use Rattle.tl_record.proofs.ReadOn.{IsAccepted}

abbrev left_text : Layout → ℕ → ℕ → List ℕ → Records
left_text layout lines skipped text = with_skipped skipped (records_left layout lines (raw_lines text))

first_passed : (layout : Layout) (lines skipped : ℕ) (text : List ℕ) → JudgesFirst layout (lines + 1) text PassedOver
    → left_text layout lines skipped text ≡ left_text layout (lines + 1) (skipped + 1) (after_first_line text)
first_passed layout lines skipped text first =
    ap (λ js. with_skipped skipped (records_judged (map (judged_left layout) js))) (judgements-first layout lines text PassedOver first.some first.is)
    ∙ records_passed (lines + 1) skipped (map (judged_left layout) (judgements layout (lines + 1) (raw_lines (after_first_line text))))

first_read : (layout : Layout) (lines skipped : ℕ) (text : List ℕ) (r : Record) → JudgesFirst layout (lines + 1) text (Read r)
    → left_text layout lines skipped text ≡ with_entry (lines + 1, r) (left_text layout (lines + 1) skipped (after_first_line text))
first_read layout lines skipped text r first =
    ap (λ js. with_skipped skipped (records_judged (map (judged_left layout) js))) (judgements-first layout lines text (Read r) first.some first.is)
    ∙ records_read (lines + 1) skipped r (map (judged_left layout) (judgements layout (lines + 1) (raw_lines (after_first_line text))))

-- a refused line is as an empty one
first_refused : (layout : Layout) (lines skipped : ℕ) (text : List ℕ) (cause : Cause) → lines + 1 ≤ most_lines → JudgesFirst layout (lines + 1) text (Refused cause)
    → left_text layout lines skipped text ≡ left_text layout (lines + 1) (skipped + 1) (after_first_line text)
first_refused layout lines skipped text cause few first =
    let js = map (judged_left layout) (judgements layout (lines + 1) (raw_lines (after_first_line text))) in
    ap (λ js. with_skipped skipped (records_judged (map (judged_left layout) js))) (judgements-first layout lines text (Refused cause) first.some first.is)
    ∙ ap (λ (j : Judgement). with_skipped skipped (records_judged ((lines + 1, j) ∷ js))) (empty_passed layout (lines + 1) few)
    ∙ records_passed (lines + 1) skipped js

-- what a reader that read nothing has to give
pub left_first : (layout : Layout) (known : Option (List ℕ)) → left_in layout 0 0 (prepend_known [] known) ≡ option_map (λ text. lines_read layout (left_of layout text)) known
left_first layout None = refl
left_first layout (Some text) = ap (λ (records : Records). Some records) (same_records _ _ _ _ _ _ refl refl (omega arith) ∙ sym (read_of_left layout text))

line_passed : (layout : Layout) (lines skipped : ℕ) (old new : Option (List ℕ)) → FindsNext layout (lines + 1) old new (next.Line PassedOver)
    → KeepsRecords (left_in layout lines skipped old) (left_in layout (lines + 1) (skipped + 1) new)
line_passed layout lines skipped None new found = tt
line_passed layout lines skipped (Some text) new found =
    ap (left_in layout (lines + 1) (skipped + 1)) found.rest ∙ ap (λ (records : Records). Some records) (sym (first_passed layout lines skipped text found.first))

line_read : (layout : Layout) (lines skipped : ℕ) (old new : Option (List ℕ)) (r : Record) (n : ℕ) → FindsNext layout (lines + 1) old new (next.Line (Read r))
    → GivesLeft (left_in layout lines skipped old) (left_in layout (lines + 1) skipped new) n (Ok (Some (lines + 1, r)))
line_read layout lines skipped None new r n found = tt
line_read layout lines skipped (Some text) new r n found =
    (left_text layout (lines + 1) skipped (after_first_line text), ap (left_in layout (lines + 1) skipped) found.rest, first_read layout lines skipped text r found.first)

-- where a text begins with a refused line, and none of it is taken off
stays_left : (layout : Layout) (lines skipped : ℕ) (text : List ℕ) (new : Option (List ℕ)) (cause : Cause) (n : ℕ) → JudgesFirst layout (lines + 1) text (Refused cause) → new ≡ Some text
    → GivesLeft (left_in layout lines skipped (Some text)) (left_in layout (lines + 1) (skipped + 1) (behind_line new)) n (Err (stop.Refused (lines + 1) cause))
stays_left layout lines skipped text new cause n first stays =
    λ few. ap (λ (t : Option (List ℕ)). left_in layout (lines + 1) (skipped + 1) (behind_line t)) stays
    ∙ ap (λ (records : Records). Some records) (sym (first_refused layout lines skipped text cause few first))

is_first : (layout : Layout) (lines : ℕ) (text : List ℕ) (new : Option (List ℕ)) (cause : Cause) → JudgesFirst layout (lines + 1) text (Refused cause) → new ≡ Some text
    → IsFirst (refused layout lines (Some text)) (refused layout (lines + 1) (behind_line new)) (lines + 1, cause)
is_first layout lines text new cause first stays = (
  refused_in layout (lines + 1) (after_first_line text),
  ap (λ (t : Option (List ℕ)). refused layout (lines + 1) (behind_line t)) stays,
  ap (filter_map refusal_of) (judgements-first layout lines text (Refused cause) first.some first.is),
)

line_refused : (layout : Layout) (lines skipped : ℕ) (old new : Option (List ℕ)) (cause : Cause) (n : ℕ) → FindsNext layout (lines + 1) old new (next.Line (Refused cause))
    → GivesLeft (left_in layout lines skipped old) (left_in layout (lines + 1) (skipped + 1) (behind_line new)) n (Err (stop.Refused (lines + 1) cause))
line_refused layout lines skipped None new cause n found = tt
line_refused layout lines skipped (Some text) new cause n found = stays_left layout lines skipped text new cause n found.first found.stays

line_first : (layout : Layout) (lines : ℕ) (old new : Option (List ℕ)) (cause : Cause) → FindsNext layout (lines + 1) old new (next.Line (Refused cause))
    → IsFirst (refused layout lines old) (refused layout (lines + 1) (behind_line new)) (lines + 1, cause)
line_first layout lines None new cause found = tt
line_first layout lines (Some text) new cause found = is_first layout lines text new cause found.first found.stays

-- the same of a last line, which nothing follows
last_passed : (layout : Layout) (lines skipped : ℕ) (old left : Option (List ℕ)) (new : Option Records) → FindsNext layout (lines + 1) old left (next.Last PassedOver)
    → GivesLeft (left_in layout lines skipped old) new (skipped + 1) (Ok None)
last_passed layout lines skipped None left new found = tt
last_passed layout lines skipped (Some text) left new found =
    first_passed layout lines skipped text found.first ∙ ap (left_text layout (lines + 1) (skipped + 1)) found.rest ∙ records_none layout (lines + 1) (skipped + 1)

last_read : (layout : Layout) (lines skipped : ℕ) (old left : Option (List ℕ)) (r : Record) (n : ℕ) → FindsNext layout (lines + 1) old left (next.Last (Read r))
    → GivesLeft (left_in layout lines skipped old) (Some (nothing_after skipped)) n (Ok (Some (lines + 1, r)))
last_read layout lines skipped None left r n found = tt
last_read layout lines skipped (Some text) left r n found = (
  nothing_after skipped,
  refl,
  first_read layout lines skipped text r found.first
      ∙ ap (λ rest. with_entry (lines + 1, r) (left_text layout (lines + 1) skipped rest)) found.rest ∙ ap (with_entry (lines + 1, r)) (records_none layout (lines + 1) skipped),
)

last_refused : (layout : Layout) (lines skipped : ℕ) (old new : Option (List ℕ)) (cause : Cause) (n : ℕ) → FindsNext layout (lines + 1) old new (next.Last (Refused cause))
    → GivesLeft (left_in layout lines skipped old) (left_in layout (lines + 1) (skipped + 1) (behind_line new)) n (Err (stop.Refused (lines + 1) cause))
last_refused layout lines skipped None new cause n found = tt
last_refused layout lines skipped (Some text) new cause n found = stays_left layout lines skipped text new cause n found.first found.stays

last_first : (layout : Layout) (lines : ℕ) (old new : Option (List ℕ)) (cause : Cause) → FindsNext layout (lines + 1) old new (next.Last (Refused cause))
    → IsFirst (refused layout lines old) (refused layout (lines + 1) (behind_line new)) (lines + 1, cause)
last_first layout lines None new cause found = tt
last_first layout lines (Some text) new cause found = is_first layout lines text new cause found.first found.stays

-- no line is left
end_reached : (layout : Layout) (lines skipped : ℕ) (old left : Option (List ℕ)) (new : Option Records) → FindsNext layout (lines + 1) old left next.End
    → GivesLeft (left_in layout lines skipped old) new skipped (Ok None)
end_reached layout lines skipped None left new found = tt
end_reached layout lines skipped (Some text) left new found = ap (left_text layout lines skipped) found ∙ records_none layout lines skipped

-- ---- what lines that were passed over keep

gives_after : (a b c : Option Records) (n : ℕ) (answer : Answer) → KeepsRecords a b → GivesLeft b c n answer → GivesLeft a c n answer
gives_after None b c n answer p q = tt
gives_after (Some r) b c n answer p q = rw p at q

first_after : (a b c : Option (List (ℕ × Cause))) (refusal : ℕ × Cause) → KeepsRefusals a b → IsFirst b c refusal → IsFirst a c refusal
first_after None b c refusal p q = tt
first_after (Some r) b c refusal p q = rw p at q

pub left_on : {R : Type 0} (remaining : R → Option (List ℕ)) (failure_count : R → ℕ) (first before found after : RecordReader R) (j : Judgement)
    → LeavesOn remaining first before → StepsTo remaining failure_count before found (next.Line j) → CountsLine found after j None
    → LeavesOn remaining first after
left_on remaining failure_count first before found after PassedOver passed step counted =
    let layout : after.layout ≡ before.layout = counted.layout ∙ step.progress.layout in
    let lines : after.lines ≡ before.lines + 1 = counted.lines ∙ ap (λ n. n + 1) step.progress.lines in
    let skipped : after.skipped ≡ before.skipped + 1 = counted.skipped ∙ ap (λ n. n + 1) step.progress.skipped in
    let same : unjudged remaining after ≡ unjudged remaining found = rw (counted.source, counted.pending) refl in
    record {
      left = KeepsRecords-trans _ _ _ passed.left
          (rw (same, layout, lines, skipped) (line_passed before.layout before.lines before.skipped (unjudged remaining before) (unjudged remaining found) step.finds));
      ahead = rw same (passes_to first.lines before.lines after.lines 1 (lines_ahead remaining first) _ _ passed.ahead
          (ahead_passed before.layout (before.lines + 1) (unjudged remaining before) (unjudged remaining found) step.finds) passed.onward lines);
      onward = omega (arith, passed.onward, lines);
    }
left_on remaining failure_count first before found after (Read r) passed step counted = let bad = counted.is in cc
left_on remaining failure_count first before found after (Refused cause) passed step counted = let bad = counted.is in cc

-- a line whose line feed was read is answered
pub leaves_line : {R : Type 0} (remaining : R → Option (List ℕ)) (failure_count : R → ℕ) (first before found after : RecordReader R) (j : Judgement) (answer : Answer)
    → PassesOver remaining failure_count first before → LeavesOn remaining first before
    → StepsTo remaining failure_count before found (next.Line j) → CountsLine found after j (Some answer) → Leaves remaining first after answer
leaves_line remaining failure_count first before found after PassedOver answer passed left step counted = let bad = counted.is in cc
leaves_line remaining failure_count first before found after (Read r) answer passed left step counted =
    let layout : after.layout ≡ before.layout = counted.layout ∙ step.progress.layout in
    let lines : after.lines ≡ before.lines + 1 = counted.lines ∙ ap (λ n. n + 1) step.progress.lines in
    let skipped : after.skipped ≡ before.skipped = counted.skipped ∙ step.progress.skipped in
    let standing : after.standing ≡ Reading = counted.standing ∙ step.progress.standing ∙ passed.standing in
    let told : answer ≡ Ok (Some (found.lines + 1, r)) = let is = counted.is in cc in
    let is : answer ≡ Ok (Some (before.lines + 1, r)) = told ∙ ap (λ n. Ok (Some (n + 1, r))) step.progress.lines in
    let now : left_to_come remaining after ≡ left_in before.layout (before.lines + 1) before.skipped (unjudged remaining found) =
    rw (standing, layout, lines, skipped, counted.source, counted.pending) refl in
    rw is record {
      gives = gives_after _ _ _ _ _ left.left
          (rw now (line_read before.layout before.lines before.skipped (unjudged remaining before) (unjudged remaining found) r after.skipped step.finds));
      stops = tt;
      ahead = rw (standing, counted.source, counted.pending) (passes_to first.lines before.lines after.lines 1 (lines_ahead remaining first) _ _ left.ahead
          (ahead_read before.layout (before.lines + 1) (unjudged remaining before) (unjudged remaining found) r step.finds) left.onward lines);
      onward = omega (arith, left.onward, lines);
    }
leaves_line remaining failure_count first before found after (Refused cause) answer passed left step counted =
    let layout : after.layout ≡ before.layout = counted.layout ∙ step.progress.layout in
    let judged : after.judged ≡ before.lines = counted.judged ∙ step.progress.lines in
    let lines : after.lines ≡ before.lines = counted.lines ∙ step.progress.lines in
    let skipped : after.skipped ≡ before.skipped = counted.skipped ∙ step.progress.skipped in
    let told : answer ≡ Err (stop.Refused (found.lines + 1) cause) = let is = counted.is in cc in
    let is : answer ≡ Err (stop.Refused (before.lines + 1) cause) = told ∙ ap (λ n. Err (stop.Refused (n + 1) cause)) step.progress.lines in
    let standing : after.standing ≡ Stopped (stop.Refused (before.lines + 1) cause) = counted.standing ∙ ap (λ n. Stopped (stop.Refused (n + 1) cause)) step.progress.lines in
    rw is record {
      gives = gives_after _ _ _ _ _ left.left
          (rw (standing, layout, lines, skipped, counted.source, counted.pending)
          (line_refused before.layout before.lines before.skipped (unjudged remaining before) (unjudged remaining found) cause before.skipped step.finds));
      stops = (
        judged ∙ sym lines,
        first_after _ _ _ _ passed.refusals
            (rw (layout, lines, counted.source, counted.pending) (line_first before.layout before.lines (unjudged remaining before) (unjudged remaining found) cause step.finds)),
      );
      ahead = rw (counted.source, counted.pending) (
        passes_to first.lines before.lines after.lines 0 (lines_ahead remaining first) _ _ left.ahead
            (ahead_refused before.layout (before.lines + 1) (unjudged remaining before) (unjudged remaining found) cause step.finds) left.onward (omega (arith, lines)),
        is_front found.buffer (unjudged remaining found) step.front,
      );
      onward = omega (arith, left.onward, lines);
    }

-- a last line with no line feed is answered, or the end where it is passed over
pub leaves_last : {R : Type 0} (remaining : R → Option (List ℕ)) (failure_count : R → ℕ) (first before found after : RecordReader R) (j : Judgement) (told : Option Answer)
    → PassesOver remaining failure_count first before → LeavesOn remaining first before
    → StepsTo remaining failure_count before found (next.Last j) → IsAccepted found after j told → Leaves remaining first after (unwrap_or told (Ok None))
leaves_last remaining failure_count first before found after PassedOver told passed left step counted =
    let lines : after.lines ≡ before.lines + 1 = counted.lines ∙ ap (λ n. n + 1) step.progress.lines in
    let skipped : after.skipped ≡ before.skipped + 1 = counted.skipped ∙ ap (λ n. n + 1) step.progress.skipped in
    rw counted.is record {
      gives = gives_after _ _ _ _ _ left.left
          (subst (λ (n : ℕ). GivesLeft (left_reading remaining before) (left_to_come remaining after) n (Ok None)) (sym skipped)
          (last_passed before.layout before.lines before.skipped (unjudged remaining before) (unjudged remaining found) (left_to_come remaining after) step.finds));
      stops = tt;
      ahead = rw counted.standing tt;
      onward = omega (arith, left.onward, lines);
    }
leaves_last remaining failure_count first before found after (Read r) told passed left step counted =
    let lines : after.lines ≡ before.lines + 1 = counted.lines ∙ ap (λ n. n + 1) step.progress.lines in
    let skipped : after.skipped ≡ before.skipped = counted.skipped ∙ step.progress.skipped in
    let is : told ≡ Some (Ok (Some (before.lines + 1, r))) = counted.is ∙ ap (λ n. Some (Ok (Some (n + 1, r)))) step.progress.lines in
    let now : left_to_come remaining after ≡ Some (nothing_after before.skipped) = rw (counted.standing, skipped) refl in
    rw is record {
      gives = gives_after _ _ _ _ _ left.left
          (rw now (last_read before.layout before.lines before.skipped (unjudged remaining before) (unjudged remaining found) r after.skipped step.finds));
      stops = tt;
      ahead = rw counted.standing tt;
      onward = omega (arith, left.onward, lines);
    }
leaves_last remaining failure_count first before found after (Refused cause) told passed left step counted =
    let layout : after.layout ≡ before.layout = counted.layout ∙ step.progress.layout in
    let judged : after.judged ≡ before.lines = counted.judged ∙ step.progress.lines in
    let lines : after.lines ≡ before.lines = counted.lines ∙ step.progress.lines in
    let skipped : after.skipped ≡ before.skipped = counted.skipped ∙ step.progress.skipped in
    let is : told ≡ Some (Err (stop.Refused (before.lines + 1) cause)) = counted.is ∙ ap (λ n. Some (Err (stop.Refused (n + 1) cause))) step.progress.lines in
    let standing : after.standing ≡ Stopped (stop.Refused (before.lines + 1) cause) = counted.standing ∙ ap (λ n. Stopped (stop.Refused (n + 1) cause)) step.progress.lines in
    rw is record {
      gives = gives_after _ _ _ _ _ left.left
          (rw (standing, layout, lines, skipped, counted.source, counted.pending)
          (last_refused before.layout before.lines before.skipped (unjudged remaining before) (unjudged remaining found) cause before.skipped step.finds));
      stops = (
        judged ∙ sym lines,
        first_after _ _ _ _ passed.refusals
            (rw (layout, lines, counted.source, counted.pending) (last_first before.layout before.lines (unjudged remaining before) (unjudged remaining found) cause step.finds)),
      );
      ahead = rw (counted.source, counted.pending) (
        passes_to first.lines before.lines after.lines 0 (lines_ahead remaining first) _ _ left.ahead
            (ahead_last before.layout (before.lines + 1) (unjudged remaining before) (unjudged remaining found) (Refused cause) step.finds) left.onward (omega (arith, lines)),
        is_front found.buffer (unjudged remaining found) step.front,
      );
      onward = omega (arith, left.onward, lines);
    }

-- where no line is left, the end is answered
pub leaves_end : {R : Type 0} (remaining : R → Option (List ℕ)) (failure_count : R → ℕ) (first before found after : RecordReader R)
    → LeavesOn remaining first before → StepsTo remaining failure_count before found next.End
    → standing_of after ≡ Ended → lines_of after ≡ lines_of found → skipped_of after ≡ skipped_of found → Leaves remaining first after (Ok None)
leaves_end remaining failure_count first before found after left step standing lines skipped =
    let lines_are : after.lines ≡ before.lines = lines ∙ step.progress.lines in
    let skipped_are : after.skipped ≡ before.skipped = skipped ∙ step.progress.skipped in
    record {
      gives = gives_after _ _ _ _ _ left.left
          (subst (λ (n : ℕ). GivesLeft (left_reading remaining before) (left_to_come remaining after) n (Ok None)) (sym skipped_are)
          (end_reached before.layout before.lines before.skipped (unjudged remaining before) (unjudged remaining found) (left_to_come remaining after) step.finds));
      stops = tt;
      ahead = rw standing tt;
      onward = omega (arith, left.onward, lines_are);
    }

device_gives : (old new : Option Records) (skipped : ℕ) → GivesLeft old new skipped (Err stop.Device)
device_gives None new skipped = tt
device_gives (Some records) new skipped = tt

-- a failed read is answered
pub leaves_failed : {R : Type 0} (remaining : R → Option (List ℕ)) (failure_count : R → ℕ) (first before found after : RecordReader R)
    → LeavesOn remaining first before → StepsTo remaining failure_count before found next.Failed → lines_of after ≡ lines_of found
    → Leaves remaining first after (Err stop.Device)
leaves_failed remaining failure_count first before found after left step lines =
    let lines_are : after.lines ≡ before.lines = lines ∙ step.progress.lines in
    record {
      gives = device_gives (left_reading remaining first) (left_to_come remaining after) after.skipped;
      stops = tt;
      ahead = tt;
      onward = omega (arith, left.onward, lines_are);
    }
