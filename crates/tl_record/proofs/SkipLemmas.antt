-- Lines that are taken off a text, however long they are.
use Rattle.std.proofs.Common.{◌≡◌, ◌≢◌, ℕ, ◌+◌, ◌≤◌, ◌<◌, List, [], ◌∷◌, ◌++◌, Option, None, Some, Ok, Err, length, take, drop, refl, sym, ap, ◌∙◌, arith, append_assoc, append-nil}
use Rattle.std.specs.List.{slice_index}
use Rattle.std.proofs.lemmas.List.{length-append}
use Rattle.std.specs.Io.KnownBytes.{Keeps, IsAtEnd, prepend_known}
use Rattle.tl_record.specs.Lines.{line_feed, line_feeds, first_line, after_first_line}
use Rattle.tl_record.specs.declared.layout.Layout.{Layout}
use Rattle.tl_record.specs.declared.stop.Cause.{Cause}
use Rattle.tl_record.specs.declared.judge.Judgement.TheVariants.{Refused}
use Rattle.tl_record.specs.declared.refusal.RefusalStop.{RefusalStop}
use Rattle.tl_record.specs.declared.refusal.RefusalStop.TheVariants.{Device, Endless}
use Rattle.tl_record.specs.declared.take.Taken.TheVariants as taken
use Rattle.tl_record.specs.declared.judge.Meaning.{Meaning}
use Rattle.tl_record.specs.declared.judge.Meaning.TheVariants as meaning
use Rattle.tl_record.specs.declared.record.Record.{Record}
use Rattle.tl_record.specs.Meaning.{judgement_with}
use Rattle.tl_record.specs.Judgement.{judgement}
use Rattle.tl_record.specs.Refusals.{cause_of}
use Rattle.tl_record.specs.Searching.{TakesNext, SkipsLine}
use Rattle.tl_record.proofs.LineLemmas.{no_feed_here, after_first_line_before, first_line_whole, after_first_line_whole, split_at_feed}
use Rattle.tl_record.proofs.NextLemmas.{finds_line, finds_full}

-- so many bytes at least were taken off a text, and none of them is a line feed
abbrev pub SkipsOn : ℕ → Option (List ℕ) → Option (List ℕ) → Type 0
SkipsOn count None new = Unit {0}
SkipsOn count (Some text) None = ⊥
SkipsOn count (Some text) (Some rest) = (after_first_line rest ≡ after_first_line text) × (count + length rest ≤ length text)

pub SkipsOn-refl : (text : Option (List ℕ)) → SkipsOn 0 text text
SkipsOn-refl None = tt
SkipsOn-refl (Some text) = (refl, omega arith)

-- bytes with no line feed stand within the first line
over_no_feed : (front rest : List ℕ) → line_feeds front ≡ 0 → after_first_line (front ++ rest) ≡ after_first_line rest
over_no_feed [] rest none = refl
over_no_feed (byte ∷ front) rest none =
    let parts = no_feed_here byte front none in rw parts.0 (over_no_feed front rest parts.1)

-- a buffer that holds no line feed is emptied
pub skips_block : (count : ℕ) (first old left : Option (List ℕ)) (bytes : List ℕ) → SkipsOn count first old → Keeps old (prepend_known bytes left)
    → line_feeds bytes ≡ 0 → 0 < length bytes → SkipsOn (count + 1) first (prepend_known [] left)
skips_block count None old left bytes so_far kept none some = tt
skips_block count (Some text) None left bytes so_far kept none some = absurd so_far
skips_block count (Some text) (Some rest) None bytes so_far kept none some = absurd kept
skips_block count (Some text) (Some rest) (Some xs) bytes so_far kept none some = (
  sym (over_no_feed bytes xs none) ∙ ap after_first_line kept ∙ so_far.0,
  let size : length bytes + length xs ≡ length rest = sym (length-append bytes xs) ∙ ap (length {A = ℕ}) kept in omega (arith, so_far.1, size, some),
)

-- where a text's first line ends, whose line feed was fetched
pub line_taken : (old left : Option (List ℕ)) (bytes after : List ℕ) (len : ℕ) (text : List ℕ) → old ≡ Some text → Keeps old (prepend_known bytes left)
    → len < length bytes → slice_index bytes len ≡ line_feed → line_feeds (take len bytes) ≡ 0 → after ≡ drop (len + 1) bytes
    → prepend_known after left ≡ Some (after_first_line text)
line_taken old None bytes after len text known kept within feed none rest = absurd (rw known at kept)
line_taken old (Some xs) bytes after len text known kept within feed none rest =
    let same : bytes ++ xs ≡ text = rw known at kept in
    let split : text ≡ take len bytes ++ line_feed ∷ (drop (len + 1) bytes ++ xs) =
    sym same ∙ ap (λ (l : List ℕ). l ++ xs) (split_at_feed bytes len within feed) ∙ append_assoc (take len bytes) (line_feed ∷ drop (len + 1) bytes) xs in
    ap (λ (l : List ℕ). Some (l ++ xs)) rest ∙ ap (λ (l : List ℕ). Some l) (sym (ap after_first_line split ∙ after_first_line_before (take len bytes) (drop (len + 1) bytes ++ xs) none))

-- a text with no line feed, which was fetched whole, has nothing behind its first line
pub last_taken : (old left : Option (List ℕ)) (bytes : List ℕ) (text : List ℕ) → old ≡ Some text → Keeps old (prepend_known bytes left)
    → line_feeds bytes ≡ 0 → IsAtEnd left → (prepend_known [] left ≡ Some (after_first_line text)) × (text ≡ bytes)
last_taken old None bytes text known kept none ended = absurd (rw known at kept)
last_taken old (Some xs) bytes text known kept none ended =
    let same : bytes ++ xs ≡ text = rw known at kept in
    let whole : text ≡ bytes = sym same ∙ ap (λ (l : List ℕ). bytes ++ l) ended ∙ append-nil bytes in
    (ap (λ (l : List ℕ). Some l) (ended ∙ sym (ap after_first_line whole ∙ after_first_line_whole bytes none)), whole)

-- a line whose line feed was fetched, judged and taken off
pub takes_line : (layout : Layout) (number : ℕ) (old left : Option (List ℕ)) (bytes after : List ℕ) (len : ℕ) (cause : Option Cause) → Keeps old (prepend_known bytes left)
    → len < length bytes → slice_index bytes len ≡ line_feed → line_feeds (take len bytes) ≡ 0 → cause ≡ cause_of (judgement layout number (take len bytes)) → after ≡ drop (len + 1) bytes
    → TakesNext layout number old (prepend_known after left) (taken.Line cause)
takes_line layout number None left bytes after len cause kept within feed none is rest = tt
takes_line layout number (Some text) left bytes after len cause kept within feed none is rest =
    let found = finds_line layout number (Some text) left bytes _ len (judgement layout number (take len bytes)) kept within feed none refl refl in
    record {
      some = found.first.some;
      is = is ∙ ap cause_of found.first.is;
      rest = line_taken (Some text) left bytes after len text refl kept within feed none rest;
    }

-- a last line, judged and taken off
pub takes_last : (layout : Layout) (number : ℕ) (old left : Option (List ℕ)) (bytes : List ℕ) (cause : Option Cause) → Keeps old (prepend_known bytes left)
    → line_feeds bytes ≡ 0 → IsAtEnd left → bytes ≢ [] → cause ≡ cause_of (judgement layout number bytes)
    → TakesNext layout number old (prepend_known [] left) (taken.Line cause)
takes_last layout number None left bytes cause kept none ended some is = tt
takes_last layout number (Some text) left bytes cause kept none ended some is =
    let last = last_taken (Some text) left bytes text refl kept none ended in
    record {
      some = λ empty. some (sym last.1 ∙ empty);
      is = is ∙ ap (λ (l : List ℕ). cause_of (judgement layout number l)) (sym (ap first_line last.1 ∙ first_line_whole bytes none));
      rest = last.0;
    }

-- a line that fills the buffer, whose end was found
pub takes_full : (layout : Layout) (number : ℕ) (old left new : Option (List ℕ)) (bytes : List ℕ) (cause : Cause) → Keeps old (prepend_known bytes left)
    → line_feeds bytes ≡ 0 → 0 < length bytes → ((line : List ℕ) → length bytes ≤ length line → judgement layout number line ≡ Refused cause)
    → ((text : List ℕ) → prepend_known bytes left ≡ Some text → new ≡ Some (after_first_line text))
    → TakesNext layout number old new (taken.Line (Some cause))
takes_full layout number None left new bytes cause kept none some is behind = tt
takes_full layout number (Some text) None new bytes cause kept none some is behind = absurd kept
takes_full layout number (Some text) (Some xs) new bytes cause kept none some is behind =
    let found = finds_full layout number (Some text) (Some xs) bytes cause kept none some is in
    record {
      some = found.first.some;
      is = ap cause_of found.first.is;
      rest = behind text (ap (λ (l : List ℕ). Some l) kept);
    }

pub skipped_behind : {T : Type 0} (old new : Option (List ℕ)) (done : T) → SkipsLine old new (Ok done)
    → (text : List ℕ) → old ≡ Some text → new ≡ Some (after_first_line text)
skipped_behind None new done skips text is = absurd (let wrong = is in cc)
skipped_behind (Some bytes) new done skips text is = let same : bytes ≡ text = let all = is in cc in rw (← same) skips

-- the end of a line was found behind bytes that were taken off
pub skips_to_feed : (count : ℕ) (first old left : Option (List ℕ)) (bytes after : List ℕ) (len : ℕ) → SkipsOn count first old → Keeps old (prepend_known bytes left)
    → len < length bytes → slice_index bytes len ≡ line_feed → line_feeds (take len bytes) ≡ 0 → after ≡ drop (len + 1) bytes
    → SkipsLine {T = Unit {0}} first (prepend_known after left) (Ok tt)
skips_to_feed count None old left bytes after len so_far kept within feed none rest = tt
skips_to_feed count (Some text) None left bytes after len so_far kept within feed none rest = absurd so_far
skips_to_feed count (Some text) (Some now) left bytes after len so_far kept within feed none rest =
    line_taken (Some now) left bytes after len now refl kept within feed none rest ∙ ap (λ (l : List ℕ). Some l) so_far.0

-- or the end of the text was
pub skips_to_end : (count : ℕ) (first old left : Option (List ℕ)) (bytes : List ℕ) → SkipsOn count first old → Keeps old (prepend_known bytes left)
    → line_feeds bytes ≡ 0 → IsAtEnd left → SkipsLine {T = Unit {0}} first (prepend_known [] left) (Ok tt)
skips_to_end count None old left bytes so_far kept none ended = tt
skips_to_end count (Some text) None left bytes so_far kept none ended = absurd so_far
skips_to_end count (Some text) (Some now) left bytes so_far kept none ended =
    (last_taken (Some now) left bytes now refl kept none ended).0 ∙ ap (λ (l : List ℕ). Some l) so_far.0

pub skips_failed : (first new : Option (List ℕ)) → SkipsLine {T = Unit {0}} first new (Err Device)
skips_failed None new = tt
skips_failed (Some text) new = tt

-- what is told of a line that could not be skipped, in the words of the line that was to be taken
pub stops_full : (T : Type 0) (layout : Layout) (number : ℕ) (old left new : Option (List ℕ)) (bytes : List ℕ) (stop : RefusalStop) → Keeps old (prepend_known bytes left)
    → SkipsLine {T = T} (prepend_known bytes left) new (Err stop) → TakesNext layout number old new (taken.Stopped stop)
stops_full T layout number None left new bytes stop kept skips = tt
stops_full T layout number (Some text) None new bytes stop kept skips = absurd kept
stops_full T layout number (Some text) (Some xs) new bytes Device kept skips = tt
stops_full T layout number (Some text) (Some xs) new bytes Endless kept skips = rw kept at skips

-- a failed read tells nothing of the text
pub takes_failed : (layout : Layout) (number : ℕ) (old new : Option (List ℕ)) → TakesNext layout number old new (taken.Stopped Device)
takes_failed layout number None new = tt
takes_failed layout number (Some text) new = tt

-- why a line is refused, by what it means
pub cause_told : (told : Meaning) (cause : Cause) (r : Record) → told ≡ meaning.Refused cause → Some cause ≡ cause_of (judgement_with told r)
cause_told meaning.PassedOver cause r is = absurd (let wrong = is in cc)
cause_told meaning.Read cause r is = absurd (let wrong = is in cc)
cause_told (meaning.Refused c) cause r is = let same : c ≡ cause = let whole = is in cc in ap (λ (x : Cause). Some x) (sym same)

pub none_told : (told : Meaning) (r : Record) → ((cause : Cause) → told ≡ meaning.Refused cause → ⊥) → (let none : Option Cause = None in none ≡ cause_of (judgement_with told r))
none_told meaning.PassedOver r not = refl
none_told meaning.Read r not = refl
none_told (meaning.Refused c) r not = absurd (not c refl)
