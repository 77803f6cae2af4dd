-- What a search for refused lines answers, from the lines that were judged.
use Rattle.std.proofs.Common.{◌≡◌, ◌≢◌, ℕ, ◌+◌, ◌≤◌, List, [], ◌∷◌, length, Option, None, Some, Ok, Err, refl, ap, ◌∙◌, arith, inl, inr}
use Rattle.std.proofs.lemmas.Bool.{cases_Bool}
use Rattle.memchr.specs.Find.{is_byte}
use Rattle.tl_record.specs.declared.layout.Layout.{Layout}
use Rattle.tl_record.specs.declared.stop.Cause.{Cause}
use Rattle.tl_record.specs.declared.refusal.Refusal.{Refusal}
use Rattle.tl_record.specs.declared.refusal.RefusalStop.{RefusalStop}
use Rattle.tl_record.specs.Failures.{one_more}
use Rattle.tl_record.specs.declared.refusal.RefusalStop.TheVariants.{Device, Endless}
use Rattle.tl_record.specs.declared.reader.Standing.TheVariants.{Ended, Stopped}
use Rattle.tl_record.specs.declared.stop.ReadStop.TheVariants.{Refused}
use Rattle.tl_record.specs.declared.stop.ReadStop.TheVariants as read
use Rattle.tl_record.specs.declared.take.Taken.TheVariants as taken
use Rattle.tl_record.specs.declared.reader.RecordReader.{RecordReader}
use Rattle.tl_record.specs.Lines.{line_feed, after_first_line}
use Rattle.tl_record.specs.Reader.{source_of, layout_of, judged_of, standing_of, unjudged, KeepsRefusals}
use Rattle.tl_record.specs.Searching.{Found, extent, extent_of, GivesRefusal, GivesUp, Shrinks, TakesNext, SearchesOn, Finds}
use Rattle.tl_record.proofs.RefusalLemmas.{KeepsRefusals-refl, KeepsRefusals-trans, gives_taken, keeps_taken, end_taken}

-- what follows a line is shorter than the text
after_within : (text : List ℕ) → length (after_first_line text) ≤ length text
after_within [] = omega arith
after_within (byte ∷ text) =
    elim (cases_Bool (is_byte line_feed byte)) [
      | inl is ↦ rw is (omega arith)
      | inr is ↦ let within = after_within text in rw is (omega (arith, within))
    ]

after_shorter : (text : List ℕ) → text ≢ [] → length (after_first_line text) + 1 ≤ length text
after_shorter [] some = absurd (some refl)
after_shorter (byte ∷ text) some =
    elim (cases_Bool (is_byte line_feed byte)) [
      | inl is ↦ rw is (omega arith)
      | inr is ↦ let within = after_within text in rw is (omega (arith, within))
    ]

taken_shrinks : (layout : Layout) (lines : ℕ) (old new : Option (List ℕ)) (cause : Option Cause) → TakesNext layout (lines + 1) old new (taken.Line cause)
    → Shrinks (extent_of lines old) (extent_of (lines + 1) new)
taken_shrinks layout lines None new cause takes = tt
taken_shrinks layout lines (Some text) new cause takes =
    let shorter = after_shorter text takes.some in
    (lines + 1 + length (after_first_line text), ap (extent_of (lines + 1)) takes.rest, omega (arith, shorter))

Shrinks-refl : (a : Option ℕ) → Shrinks a a
Shrinks-refl None = tt
Shrinks-refl (Some n) = (n, refl, omega arith)

Shrinks-trans : (a b c : Option ℕ) → Shrinks a b → Shrinks b c → Shrinks a c
Shrinks-trans None b c p q = tt
Shrinks-trans (Some n) None c p q = absurd (let wrong = p.1 in cc)
Shrinks-trans (Some n) (Some m) c p q = let same : m ≡ p.0 = let is = p.1 in cc in (q.0, q.1, omega (arith, p.2, q.2, same))

Gives-after : (a b c : Option (List (ℕ × Cause))) (answer : Found) → KeepsRefusals a b → GivesRefusal b c answer → GivesRefusal a c answer
Gives-after None b c answer p q = tt
Gives-after (Some r) b c answer p q = rw p at q

GivesUp-after : (a b c : Option ℕ) (answer : Found) → Shrinks a b → GivesUp b c answer → GivesUp a c answer
GivesUp-after None b c answer p q = tt
GivesUp-after (Some n) None c answer p q = absurd (let wrong = p.1 in cc)
GivesUp-after (Some n) (Some m) c (Ok (Some refusal)) p q = let same : m ≡ p.0 = let is = p.1 in cc in (q.0, q.1, omega (arith, p.2, q.2, same))
GivesUp-after (Some n) (Some m) c (Ok None) p q = tt
GivesUp-after (Some n) (Some m) c (Err Device) p q = tt
GivesUp-after (Some n) (Some m) c (Err Endless) p q = let same : m ≡ p.0 = let is = p.1 in cc in omega (arith, p.2, q, same)

shrunk : (a b : Option ℕ) (refusal : Refusal) → Shrinks a b → GivesUp a b (Ok (Some refusal))
shrunk None b refusal p = tt
shrunk (Some n) b refusal p = p

end_up : (a b : Option ℕ) → GivesUp a b (Ok None)
end_up None b = tt
end_up (Some n) b = tt

failure_up : (a b : Option ℕ) → GivesUp a b (Err Device)
failure_up None b = tt
failure_up (Some n) b = tt

stop_gives : (a b : Option (List (ℕ × Cause))) (stop : RefusalStop) → GivesRefusal a b (Err stop)
stop_gives None b stop = tt
stop_gives (Some all) b stop = tt

pub searches-refl : {R : Type 0} (remaining : R → Option (List ℕ)) (failure_count : R → ℕ) (reader : RecordReader R) → SearchesOn remaining failure_count reader reader
searches-refl remaining failure_count reader = record {
  layout = refl;
  standing = refl;
  failures = refl;
  coming = KeepsRefusals-refl _;
  shrinks = Shrinks-refl _;
}

-- one more line isn't refused
pub searches_on : {R : Type 0} (remaining : R → Option (List ℕ)) (failure_count : R → ℕ) (first before after : RecordReader R)
    → SearchesOn remaining failure_count first before → TakesNext before.layout (before.judged + 1) (unjudged remaining before) (unjudged remaining after) (taken.Line None)
    → failure_count (source_of after) ≡ failure_count (source_of before)
    → layout_of after ≡ layout_of before → judged_of after ≡ judged_of before + 1 → standing_of after ≡ standing_of before
    → SearchesOn remaining failure_count first after
searches_on remaining failure_count first before after passed takes failures layout judged standing = record {
  layout = layout ∙ passed.layout;
  standing = standing ∙ passed.standing;
  failures = failures ∙ passed.failures;
  coming = KeepsRefusals-trans _ _ _ passed.coming (rw (layout, judged) (keeps_taken before.layout before.judged _ (unjudged remaining after) takes));
  shrinks = Shrinks-trans _ _ _ passed.shrinks (rw judged (taken_shrinks before.layout before.judged _ (unjudged remaining after) None takes));
}

-- a line is refused
pub finds_refusal : {R : Type 0} (remaining : R → Option (List ℕ)) (failure_count : R → ℕ) (first before after : RecordReader R) (cause : Cause)
    → SearchesOn remaining failure_count first before → TakesNext before.layout (before.judged + 1) (unjudged remaining before) (unjudged remaining after) (taken.Line (Some cause))
    → failure_count (source_of after) ≡ failure_count (source_of before)
    → layout_of after ≡ layout_of before → judged_of after ≡ judged_of before + 1 → standing_of after ≡ Stopped (Refused (before.judged + 1) cause)
    → Finds remaining failure_count first after (Ok (Some (record { line = before.judged + 1; cause = cause })))
finds_refusal remaining failure_count first before after cause passed takes failures layout judged standing = record {
  gives = Gives-after _ _ _ _ passed.coming (rw (standing, layout, judged) (gives_taken before.layout before.judged _ (unjudged remaining after) cause takes));
  settles = standing;
  failures = failures ∙ passed.failures;
  endless = GivesUp-after _ _ _ _ passed.shrinks (shrunk _ _ _ (rw (standing, judged) (taken_shrinks before.layout before.judged _ (unjudged remaining after) (Some cause) takes)));
}

-- no line is left
pub finds_end : {R : Type 0} (remaining : R → Option (List ℕ)) (failure_count : R → ℕ) (first before after : RecordReader R)
    → SearchesOn remaining failure_count first before → TakesNext before.layout (before.judged + 1) (unjudged remaining before) (unjudged remaining after) taken.End
    → failure_count (source_of after) ≡ failure_count (source_of before) → standing_of after ≡ Ended
    → Finds remaining failure_count first after (Ok None)
finds_end remaining failure_count first before after passed takes failures standing = record {
  gives = Gives-after _ _ _ _ passed.coming (end_taken before.layout before.judged _ (unjudged remaining after) _ takes);
  settles = standing;
  failures = failures ∙ passed.failures;
  endless = end_up _ _;
}

-- a read failed
pub finds_failure : {R : Type 0} (remaining : R → Option (List ℕ)) (failure_count : R → ℕ) (first before after : RecordReader R)
    → SearchesOn remaining failure_count first before
    → failure_count (source_of after) ≡ one_more (failure_count (source_of before)) → standing_of after ≡ Stopped read.Device
    → Finds remaining failure_count first after (Err Device)
finds_failure remaining failure_count first before after passed failures standing = record {
  gives = stop_gives _ _ _;
  settles = standing;
  failures = failures ∙ ap one_more passed.failures;
  endless = failure_up _ _;
}

-- it is given up
pub finds_no_end : {R : Type 0} (remaining : R → Option (List ℕ)) (failure_count : R → ℕ) (first before after : RecordReader R)
    → SearchesOn remaining failure_count first before → GivesUp (extent_of (judged_of before) (unjudged remaining before)) (extent remaining after) (Err Endless)
    → failure_count (source_of after) ≡ failure_count (source_of before)
    → Finds remaining failure_count first after (Err Endless)
finds_no_end remaining failure_count first before after passed up failures = record {
  gives = stop_gives _ _ _;
  settles = tt;
  failures = failures ∙ passed.failures;
  endless = GivesUp-after _ _ _ _ passed.shrinks up;
}

-- where lines can't be counted on, or a line had no end
pub no_number : (judged : ℕ) (text : Option (List ℕ)) (new : Option ℕ) → judged ≡ 18446744073709551615 → GivesUp (extent_of judged text) new (Err Endless)
no_number judged None new is = tt
no_number judged (Some bytes) new is = omega (arith, is)

pub no_line_end : (layout : Layout) (judged number : ℕ) (text left : Option (List ℕ)) (new : Option ℕ) → TakesNext layout number text left (taken.Stopped Endless) → GivesUp (extent_of judged text) new (Err Endless)
no_line_end layout judged number None left new takes = tt
no_line_end layout judged number (Some bytes) left new takes = omega (arith, takes)
