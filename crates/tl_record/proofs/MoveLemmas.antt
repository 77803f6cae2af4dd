-- What the next line takes from the records that were to come.
use Rattle.std.proofs.Common.{◌≡◌, ℕ, ◌+◌, List, Option, None, Some, Ok, Err, refl, sym, ap, ◌∙◌, arith}
use Rattle.std.specs.Option.{option_map}
use Rattle.tl_record.specs.declared.layout.Layout.{Layout}
use Rattle.tl_record.specs.declared.record.Record.{Record}
use Rattle.tl_record.specs.declared.stop.Cause.{Cause}
use Rattle.tl_record.specs.declared.stop.ReadStop.TheVariants as stop
use Rattle.tl_record.specs.declared.judge.Judgement.TheVariants.{PassedOver, Read, Refused}
use Rattle.tl_record.specs.declared.reader.NextLine.TheVariants as next
use Rattle.tl_record.specs.Lines.{raw_lines, line_feeds, after_first_line}
use Rattle.tl_record.specs.Records.{Records, judgements, records_judged, records_of_lines}
use Rattle.tl_record.specs.NextLine.{JudgesFirst, FindsNext}
use Rattle.tl_record.specs.Reader.{Answer, with_skipped, with_entry, nothing_after, refusal_after, Gives, KeepsRecords, CountsLineFeeds}
use Rattle.tl_record.proofs.RecordLemmas.{records_passed, records_read, records_refused, records_none, judgements-first}

-- the records of a text, by its lines
abbrev pub coming_of : Layout → ℕ → ℕ → List ℕ → Records
coming_of layout lines skipped text = with_skipped skipped (records_of_lines layout lines (raw_lines text))

abbrev pub coming : Layout → ℕ → ℕ → Option (List ℕ) → Option Records
coming layout lines skipped text = option_map (coming_of layout lines skipped) text

pub first_passed : (layout : Layout) (lines skipped : ℕ) (text : List ℕ) → JudgesFirst layout (lines + 1) text PassedOver
    → coming_of layout lines skipped text ≡ coming_of layout (lines + 1) (skipped + 1) (after_first_line text)
first_passed layout lines skipped text first =
    ap (λ js. with_skipped skipped (records_judged js)) (judgements-first layout lines text PassedOver first.some first.is)
    ∙ records_passed (lines + 1) skipped (judgements layout (lines + 1) (raw_lines (after_first_line text)))

pub first_read : (layout : Layout) (lines skipped : ℕ) (text : List ℕ) (r : Record) → JudgesFirst layout (lines + 1) text (Read r)
    → coming_of layout lines skipped text ≡ with_entry (lines + 1, r) (coming_of layout (lines + 1) skipped (after_first_line text))
first_read layout lines skipped text r first =
    ap (λ js. with_skipped skipped (records_judged js)) (judgements-first layout lines text (Read r) first.some first.is)
    ∙ records_read (lines + 1) skipped r (judgements layout (lines + 1) (raw_lines (after_first_line text)))

pub first_refused : (layout : Layout) (lines skipped : ℕ) (text : List ℕ) (cause : Cause) → JudgesFirst layout (lines + 1) text (Refused cause)
    → coming_of layout lines skipped text ≡ refusal_after skipped (lines + 1) cause
first_refused layout lines skipped text cause first =
    ap (λ js. with_skipped skipped (records_judged js)) (judgements-first layout lines text (Refused cause) first.some first.is)
    ∙ records_refused (lines + 1) skipped cause (judgements layout (lines + 1) (raw_lines (after_first_line text)))

-- a line that is passed over keeps what is to come
pub line_passed : (layout : Layout) (lines skipped : ℕ) (old new : Option (List ℕ)) → FindsNext layout (lines + 1) old new (next.Line PassedOver)
    → KeepsRecords (coming layout lines skipped old) (coming layout (lines + 1) (skipped + 1) new)
line_passed layout lines skipped None new found = tt
line_passed layout lines skipped (Some text) new found =
    ap (coming layout (lines + 1) (skipped + 1)) found.rest ∙ ap (λ (records : Records). Some records) (sym (first_passed layout lines skipped text found.first))

pub feed_passed : (layout : Layout) (lines : ℕ) (old new : Option (List ℕ)) → FindsNext layout (lines + 1) old new (next.Line PassedOver)
    → CountsLineFeeds old lines new (lines + 1)
feed_passed layout lines None new found = tt
feed_passed layout lines (Some text) new found =
    let counted : line_feeds text + lines ≡ line_feeds (after_first_line text) + (lines + 1) = omega (arith, found.feeds) in
    rw found.rest counted

-- a line that holds a record gives the first entry
pub line_read : (layout : Layout) (lines skipped : ℕ) (old new : Option (List ℕ)) (r : Record) (n : ℕ) → FindsNext layout (lines + 1) old new (next.Line (Read r))
    → Gives (coming layout lines skipped old) (coming layout (lines + 1) skipped new) n (Ok (Some (lines + 1, r)))
line_read layout lines skipped None new r n found = tt
line_read layout lines skipped (Some text) new r n found =
    (coming_of layout (lines + 1) skipped (after_first_line text), ap (coming layout (lines + 1) skipped) found.rest, first_read layout lines skipped text r found.first)

pub line_refused : (layout : Layout) (lines skipped : ℕ) (old left : Option (List ℕ)) (new : Option Records) (cause : Cause)
    → FindsNext layout (lines + 1) old left (next.Line (Refused cause))
    → Gives (coming layout lines skipped old) new skipped (Err (stop.Refused (lines + 1) cause))
line_refused layout lines skipped None left new cause found = tt
line_refused layout lines skipped (Some text) left new cause found = first_refused layout lines skipped text cause found.first

-- the same of a last line, which nothing follows
pub last_passed : (layout : Layout) (lines skipped : ℕ) (old left : Option (List ℕ)) (new : Option Records) → FindsNext layout (lines + 1) old left (next.Last PassedOver)
    → Gives (coming layout lines skipped old) new (skipped + 1) (Ok None)
last_passed layout lines skipped None left new found = tt
last_passed layout lines skipped (Some text) left new found =
    first_passed layout lines skipped text found.first ∙ ap (coming_of layout (lines + 1) (skipped + 1)) found.rest ∙ records_none layout (lines + 1) (skipped + 1)

pub last_read : (layout : Layout) (lines skipped : ℕ) (old left : Option (List ℕ)) (r : Record) (n : ℕ) → FindsNext layout (lines + 1) old left (next.Last (Read r))
    → Gives (coming layout lines skipped old) (Some (nothing_after skipped)) n (Ok (Some (lines + 1, r)))
last_read layout lines skipped None left r n found = tt
last_read layout lines skipped (Some text) left r n found = (
  nothing_after skipped,
  refl,
  first_read layout lines skipped text r found.first
      ∙ ap (λ rest. with_entry (lines + 1, r) (coming_of layout (lines + 1) skipped rest)) found.rest ∙ ap (with_entry (lines + 1, r)) (records_none layout (lines + 1) skipped),
)

pub last_refused : (layout : Layout) (lines skipped : ℕ) (old left : Option (List ℕ)) (new : Option Records) (cause : Cause)
    → FindsNext layout (lines + 1) old left (next.Last (Refused cause))
    → Gives (coming layout lines skipped old) new skipped (Err (stop.Refused (lines + 1) cause))
last_refused layout lines skipped None left new cause found = tt
last_refused layout lines skipped (Some text) left new cause found = first_refused layout lines skipped text cause found.first

-- no line is left
pub end_reached : (layout : Layout) (lines skipped : ℕ) (old left : Option (List ℕ)) (new : Option Records) → FindsNext layout (lines + 1) old left next.End
    → Gives (coming layout lines skipped old) new skipped (Ok None)
end_reached layout lines skipped None left new found = tt
end_reached layout lines skipped (Some text) left new found = ap (coming_of layout lines skipped) found ∙ records_none layout lines skipped

-- a failed read keeps what is to come
pub read_failed : (layout : Layout) (lines skipped : ℕ) (old new : Option (List ℕ)) → FindsNext layout (lines + 1) old new next.Failed
    → KeepsRecords (coming layout lines skipped old) (coming layout lines skipped new)
read_failed layout lines skipped None new found = tt
read_failed layout lines skipped (Some text) new found = ap (coming layout lines skipped) found

pub feeds_failed : (layout : Layout) (lines : ℕ) (old new : Option (List ℕ)) → FindsNext layout (lines + 1) old new next.Failed → CountsLineFeeds old lines new lines
feeds_failed layout lines None new found = tt
feeds_failed layout lines (Some text) new found = let same : line_feeds text + lines ≡ line_feeds text + lines = refl in rw found same

pub KeepsRecords-trans : (a b c : Option Records) → KeepsRecords a b → KeepsRecords b c → KeepsRecords a c
KeepsRecords-trans None b c p q = tt
KeepsRecords-trans (Some r) b c p q = rw p at q

pub Gives-after : (a b c : Option Records) (n : ℕ) (answer : Answer) → KeepsRecords a b → Gives b c n answer → Gives a c n answer
Gives-after None b c n answer p q = tt
Gives-after (Some r) b c n answer p q = rw p at q

pub CountsLineFeeds-trans : (a b c : Option (List ℕ)) (k m n : ℕ) → CountsLineFeeds a k b m → CountsLineFeeds b m c n → CountsLineFeeds a k c n
CountsLineFeeds-trans None b c k m n p q = tt
CountsLineFeeds-trans (Some x) None c k m n p q = absurd p
CountsLineFeeds-trans (Some x) (Some y) None k m n p q = absurd q
CountsLineFeeds-trans (Some x) (Some y) (Some z) k m n p q = p ∙ q
