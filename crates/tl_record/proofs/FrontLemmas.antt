-- Which lines are ahead of a reader, and the first bytes of a refused one.
use Rattle.std.proofs.Common.{◌≡◌, ◌≢◌, ℕ, ◌+◌, ◌-◌, ◌<◌, ◌≤◌, zero, suc, List, [], ◌∷◌, ◌++◌, Option, None, Some, length, take, drop, refl, sym, ap, ◌∙◌, arith, inl, inr, subst, append_assoc, append-nil}
use Rattle.std.proofs.lemmas.List.{drop-drop, take-append-le, take_all}
use Rattle.std.proofs.lemmas.Bool.{cases_Bool, eqb-true}
use Rattle.std.specs.List.{slice_index, slice_index_or}
use Rattle.std.specs.Option.{option_map}
use Rattle.std.specs.Prelude.{Result, Ok}
use Rattle.std.specs.Io.KnownBytes.{prepend_known, IsAtEnd}
use Rattle.memchr.specs.Find.{IsFirstByte, is_byte}
use Rattle.tl_record.specs.declared.layout.Layout.{Layout}
use Rattle.tl_record.specs.declared.record.Record.{Record}
use Rattle.tl_record.specs.declared.stop.Cause.{Cause}
use Rattle.tl_record.specs.declared.judge.Judgement.{Judgement}
use Rattle.tl_record.specs.declared.judge.Meaning.{Meaning}
use Rattle.tl_record.specs.declared.judge.Meaning.TheVariants as meaning
use Rattle.tl_record.specs.Meaning.{judgement_with}
use Rattle.tl_record.specs.declared.judge.Judgement.TheVariants.{PassedOver, Read, Refused}
use Rattle.tl_record.specs.declared.reader.NextLine.TheVariants as next
use Rattle.tl_record.specs.Limits.{most_line_bytes}
use Rattle.tl_record.specs.Lines.{line_feed, line_feeds, raw_lines, first_line, after_first_line}
use Rattle.tl_record.specs.NextLine.{FindsNext, HasFront, IfRefused, front_of}
use Rattle.tl_record.specs.declared.refusal.RefusalStop.{RefusalStop}
use Rattle.tl_record.specs.Searching.{SkipsLine}
use Rattle.tl_record.specs.Fronts.{PassesLines, IsFront}
use Rattle.tl_record.proofs.LineLemmas.{none_below, first_line_before, first_line_whole, raw_lines-first, split_at_feed, line_ends}

-- a reader that read nothing has all lines ahead
pub ahead_first : (known : Option (List ℕ)) → option_map raw_lines (prepend_known [] known) ≡ option_map raw_lines known
ahead_first None = refl
ahead_first (Some text) = refl

-- ---- lines that are taken off

pub passes-trans : (n m : ℕ) (a b c : Option (List (List ℕ))) → PassesLines n a b → PassesLines m b c → PassesLines (n + m) a c
passes-trans n m None b c p q = tt
passes-trans n m (Some lines) b c p q = (rw p at q) ∙ ap (λ (l : List (List ℕ)). Some l) (drop-drop m n lines)

pub passes_none : (a : Option (List (List ℕ))) → PassesLines 0 a a
passes_none None = tt
passes_none (Some lines) = refl

-- the lines of a text behind its first
pub lines_behind : (text : List ℕ) → raw_lines (after_first_line text) ≡ drop 1 (raw_lines text)
lines_behind [] = refl
lines_behind (byte ∷ text) = sym (ap (λ (l : List (List ℕ)). drop 1 l) (raw_lines-first (byte ∷ text) (λ none. cc)))

pub passes_first : (old new : Option (List ℕ)) → ((text : List ℕ) → old ≡ Some text → new ≡ Some (after_first_line text))
    → PassesLines 1 (option_map raw_lines old) (option_map raw_lines new)
passes_first None new is = tt
passes_first (Some text) new is = ap (option_map raw_lines) (is text refl) ∙ ap (λ (l : List (List ℕ)). Some l) (lines_behind text)

-- ---- the first bytes of a line

first_line_take : (n : ℕ) (text : List ℕ) → first_line (take n text) ≡ take n (first_line text)
first_line_take zero text = refl
first_line_take (suc n) [] = refl
first_line_take (suc n) (byte ∷ text) =
    elim (cases_Bool (is_byte line_feed byte)) [
      | inl is ↦ rw is refl
      | inr is ↦ rw is (ap (λ (l : List ℕ). byte ∷ l) (first_line_take n text))
    ]

-- bytes up to the first line feed, or all where there is none
pub fed_line : (bytes : List ℕ) (len : ℕ) → IsFirstByte (is_byte line_feed) bytes (Some len) → take len bytes ≡ first_line bytes
fed_line bytes len first =
    let none = none_below bytes len (omega (arith, first.0.high)) (λ k less. first.0.before k (omega arith) less) in
    (line_ends bytes len first.0.high (eqb-true _ _ first.1) none).0

pub unfed_line : (bytes : List ℕ) → IsFirstByte (is_byte line_feed) bytes None → bytes ≡ first_line bytes
unfed_line bytes nowhere =
    let none = none_below bytes (length bytes) (omega arith) (λ k less. nowhere k (omega arith) less) in
    sym (first_line_whole bytes (sym (ap line_feeds (take_all (length bytes) bytes (omega arith))) ∙ none))

-- of a line whose line feed is fetched
pub front_fed : (left : Option (List ℕ)) (bytes : List ℕ) (len : ℕ) → len < length bytes → slice_index bytes len ≡ line_feed → line_feeds (take len bytes) ≡ 0
    → HasFront bytes (prepend_known bytes left)
front_fed None bytes len within feed none = tt
front_fed (Some xs) bytes len within feed none =
    let split = split_at_feed bytes len within feed in
    let behind = drop (len + 1) bytes in
    let more : bytes ++ xs ≡ take len bytes ++ line_feed ∷ (behind ++ xs) = ap (λ (l : List ℕ). l ++ xs) split ∙ append_assoc (take len bytes) (line_feed ∷ behind) xs in
    let whole : first_line (bytes ++ xs) ≡ take len bytes = ap first_line more ∙ first_line_before (take len bytes) (behind ++ xs) none in
    let own : first_line bytes ≡ take len bytes = ap first_line split ∙ first_line_before (take len bytes) behind none in
    first_line_take most_line_bytes bytes ∙ ap (take most_line_bytes) (own ∙ sym whole)

-- of a line that fills the buffer
pub front_full : (left : Option (List ℕ)) (bytes : List ℕ) → most_line_bytes ≤ length bytes → HasFront bytes (prepend_known bytes left)
front_full None bytes full = tt
front_full (Some xs) bytes full =
    ap first_line (sym (take-append-le most_line_bytes bytes xs full)) ∙ first_line_take most_line_bytes (bytes ++ xs)

-- of a last line
pub front_last : (left : Option (List ℕ)) (bytes : List ℕ) → IsAtEnd left → HasFront bytes (prepend_known bytes left)
front_last None bytes ended = tt
front_last (Some xs) bytes ended =
    first_line_take most_line_bytes bytes ∙ ap (λ (l : List ℕ). take most_line_bytes (first_line l)) (sym (ap (λ (l : List ℕ). bytes ++ l) ended ∙ append-nil bytes))

pub if_refused : (j : Judgement) (P : Type 0) → P → IfRefused j P
if_refused PassedOver P p = tt
if_refused (Read r) P p = tt
if_refused (Refused cause) P p = p

pub accepted_front : (told : Meaning) (r : Record) (P : Type 0) → ((cause : Cause) → told ≡ meaning.Refused cause → ⊥) → IfRefused (judgement_with told r) P
accepted_front meaning.PassedOver r P not = tt
accepted_front meaning.Read r P not = tt
accepted_front (meaning.Refused cause) r P not = absurd (not cause refl)

-- a front of the first line of a text is that of the next line
pub is_front : (pending : List ℕ) (text : Option (List ℕ)) → HasFront pending text → IsFront (option_map raw_lines text) (front_of pending)
is_front pending None front = tt
is_front pending (Some []) front = front
is_front pending (Some (byte ∷ bytes)) front =
    front ∙ ap (λ (lines : List (List ℕ)). take most_line_bytes (slice_index_or lines 0 [])) (sym (raw_lines-first (byte ∷ bytes) (λ none. cc)))

-- ---- what a line that is found takes off

pub ahead_passed : (layout : Layout) (number : ℕ) (old new : Option (List ℕ)) → FindsNext layout number old new (next.Line PassedOver)
    → PassesLines 1 (option_map raw_lines old) (option_map raw_lines new)
ahead_passed layout number None new found = tt
ahead_passed layout number (Some text) new found = passes_first (Some text) new (λ other is. found.rest ∙ ap (λ (t : Option (List ℕ)). option_map after_first_line t) is)

-- a record takes one line off, and a refused line none
pub ahead_read : (layout : Layout) (number : ℕ) (old new : Option (List ℕ)) (r : Record) → FindsNext layout number old new (next.Line (Read r))
    → PassesLines 1 (option_map raw_lines old) (option_map raw_lines new)
ahead_read layout number None new r found = tt
ahead_read layout number (Some text) new r found = passes_first (Some text) new (λ other is. found.rest ∙ ap (λ (t : Option (List ℕ)). option_map after_first_line t) is)

stays_ahead : (text : List ℕ) (new : Option (List ℕ)) → new ≡ Some text → PassesLines 0 (Some (raw_lines text)) (option_map raw_lines new)
stays_ahead text new is = ap (option_map raw_lines) is

pub ahead_refused : (layout : Layout) (number : ℕ) (old new : Option (List ℕ)) (cause : Cause) → FindsNext layout number old new (next.Line (Refused cause))
    → PassesLines 0 (option_map raw_lines old) (option_map raw_lines new)
ahead_refused layout number None new cause found = tt
ahead_refused layout number (Some text) new cause found = stays_ahead text new found.stays

pub ahead_last : (layout : Layout) (number : ℕ) (old new : Option (List ℕ)) (j : Judgement) → FindsNext layout number old new (next.Last j)
    → PassesLines 0 (option_map raw_lines old) (option_map raw_lines new)
ahead_last layout number None new j found = tt
ahead_last layout number (Some text) new j found = stays_ahead text new found.stays

-- behind lines that were passed over
pub passes_to : (first before after n : ℕ) (a b c : Option (List (List ℕ))) → PassesLines (before - first) a b → PassesLines n b c → first ≤ before → after ≡ before + n
    → PassesLines (after - first) a c
passes_to first before after n a b c p q onward is =
    subst (λ k. PassesLines k a c) (omega (arith, onward, is)) (passes-trans (before - first) n a b c p q)

-- a line that is skipped is taken off
pub passes_skipped : {T : Type 0} (old new : Option (List ℕ)) (done : T) → SkipsLine old new (let answer : Result T RefusalStop = Ok done in answer)
    → PassesLines 1 (option_map raw_lines old) (option_map raw_lines new)
passes_skipped None new done skips = tt
passes_skipped (Some text) new done skips = passes_first (Some text) new (λ other is. skips ∙ ap (λ (t : Option (List ℕ)). option_map after_first_line t) is)
