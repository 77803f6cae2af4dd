-- How the next line is found in the bytes that were fetched and those that the source has left.
use Rattle.std.specs.Prelude.{◌≡◌, ◌≢◌, ℕ, ◌+◌, ◌<◌, List, [], Option, None, Some, IfSome, length, slice_index, take, ⊤}
use Rattle.std.specs.Io.KnownBytes.{IsAtEnd}
use Rattle.tl_record.specs.declared.layout.Layout.{Layout}
use Rattle.tl_record.specs.declared.judge.Judgement.{Judgement}
use Rattle.tl_record.specs.declared.judge.Judgement.TheVariants.{PassedOver, Read, Refused}
use Rattle.tl_record.specs.declared.line_buffer.Fetched.{Fetched}
use Rattle.tl_record.specs.declared.line_buffer.Fetched.TheVariants.{Whole, Rest, Full, Failed}
use Rattle.tl_record.specs.declared.reader.NextLine.{NextLine}
use Rattle.tl_record.specs.declared.reader.NextLine.TheVariants as next
use Rattle.tl_record.specs.Failures.{one_more}
use Rattle.tl_record.specs.Limits.{most_line_bytes}
use Rattle.tl_record.specs.Lines.{line_feed, line_feeds, first_line, after_first_line}
use Rattle.tl_record.specs.Judgement.{judgement}
use Rattle.tl_record.specs.Meaning.{judgement_with, KeepsUnread}
use Rattle.tl_record.specs.declared.judge.Meaning.{Meaning}
use Rattle.tl_record.specs.declared.record.Record.{Record}

-- what the bytes of a buffer with so much room and the state of its source show: the line's length, that it is the
-- last, or neither
abbrev pub Shows : ℕ → List ℕ → Option (List ℕ) → Fetched → Type 0
Shows most bytes left (Whole len) = (len < length bytes) × (slice_index bytes len ≡ line_feed) × (line_feeds (take len bytes) ≡ 0)
Shows most bytes left Rest = (line_feeds bytes ≡ 0) × IsAtEnd left
Shows most bytes left Full = (line_feeds bytes ≡ 0) × (length bytes ≡ most)
Shows most bytes left Failed = line_feeds bytes ≡ 0

-- a failed fetch counts
abbrev pub CountsFetch : ℕ → ℕ → Fetched → Type 0
CountsFetch old new (Whole len) = new ≡ old
CountsFetch old new Rest = new ≡ old
CountsFetch old new Full = new ≡ old
CountsFetch old new Failed = new ≡ one_more old

-- the line's judgement, under this number
pub record JudgesFirst (layout : Layout) (number : ℕ) (text : List ℕ) (j : Judgement) : Type 0 where
  pub some : text ≢ []
  pub is : j ≡ judgement layout number (first_line text)

-- what holds where a line is accepted, that is, not refused
abbrev pub IfAccepted : Judgement → Type 0 → Type 0
IfAccepted PassedOver P = P
IfAccepted (Read r) P = P
IfAccepted (Refused cause) P = ⊤

-- what holds where a line is refused
abbrev pub IfRefused : Judgement → Type 0 → Type 0
IfRefused PassedOver P = ⊤
IfRefused (Read r) P = ⊤
IfRefused (Refused cause) P = P

-- some line has this judgement
abbrev pub JudgesSome : Layout → ℕ → NextLine Judgement → Type 0
JudgesSome layout number (next.Line j) = (line : List ℕ) × (j ≡ judgement layout number line)
JudgesSome layout number (next.Last j) = (line : List ℕ) × (j ≡ judgement layout number line)
JudgesSome layout number next.End = ⊤
JudgesSome layout number next.Failed = ⊤

-- a line that ends in a line feed was judged, and what follows it is left, or the line too where it is refused
pub record TakesLine (layout : Layout) (number : ℕ) (text : List ℕ) (new : Option (List ℕ)) (j : Judgement) : Type 0 where
  pub first : JudgesFirst layout number text j
  pub rest : IfAccepted j (new ≡ Some (after_first_line text))
  pub feeds : IfAccepted j (line_feeds text ≡ line_feeds (after_first_line text) + 1)
  pub stays : IfRefused j (new ≡ Some text)

-- a last line with no line feed was judged, and is left
pub record ShowsLast (layout : Layout) (number : ℕ) (text : List ℕ) (new : Option (List ℕ)) (j : Judgement) : Type 0 where
  pub first : JudgesFirst layout number text j
  pub rest : after_first_line text ≡ []
  pub stays : new ≡ Some text

-- what was found in the text that wasn't judged before, where that is known
abbrev pub FindsNext : Layout → ℕ → Option (List ℕ) → Option (List ℕ) → NextLine Judgement → Type 0
FindsNext layout number None new found = ⊤
FindsNext layout number (Some text) new (next.Line j) = TakesLine layout number text new j
FindsNext layout number (Some text) new (next.Last j) = ShowsLast layout number text new j
FindsNext layout number (Some text) new next.End = text ≡ []
FindsNext layout number (Some text) new next.Failed = new ≡ Some text

-- a failed fetch counts
abbrev pub CountsNext : ℕ → ℕ → NextLine Judgement → Type 0
CountsNext old new (next.Line j) = new ≡ old
CountsNext old new (next.Last j) = new ≡ old
CountsNext old new next.End = new ≡ old
CountsNext old new next.Failed = new ≡ one_more old

-- where a fetch failed, no line feed is among the bytes that were fetched
abbrev pub PendingWhole : List ℕ → NextLine Judgement → Type 0
PendingWhole pending (next.Line j) = ⊤
PendingWhole pending (next.Last j) = ⊤
PendingWhole pending next.End = ⊤
PendingWhole pending next.Failed = line_feeds pending ≡ 0

-- the first bytes of a line that is fetched, 1,024 at most
abbrev pub front_of : List ℕ → List ℕ
front_of bytes = first_line (take most_line_bytes bytes)

-- the first bytes of the first line of a text are fetched
abbrev pub HasFront : List ℕ → Option (List ℕ) → Type 0
HasFront pending text = IfSome text (λ bytes. front_of pending ≡ take most_line_bytes (first_line bytes))

-- of a refused line that was found the first bytes are fetched
abbrev pub KeepsFront : List ℕ → Option (List ℕ) → NextLine Judgement → Type 0
KeepsFront pending text (next.Line j) = IfRefused j (HasFront pending text)
KeepsFront pending text (next.Last j) = IfRefused j (HasFront pending text)
KeepsFront pending text next.End = ⊤
KeepsFront pending text next.Failed = ⊤

-- what was found, of what it means and what stands in the record's place
abbrev pub found_with : NextLine Meaning → Record → NextLine Judgement
found_with (next.Line meaning) r = next.Line (judgement_with meaning r)
found_with (next.Last meaning) r = next.Last (judgement_with meaning r)
found_with next.End r = next.End
found_with next.Failed r = next.Failed

-- where no record is found, its place stays as it was
abbrev pub KeepsUnfound : NextLine Meaning → Record → Record → Type 0
KeepsUnfound (next.Line meaning) old new = KeepsUnread meaning old new
KeepsUnfound (next.Last meaning) old new = KeepsUnread meaning old new
KeepsUnfound next.End old new = new ≡ old
KeepsUnfound next.Failed old new = new ≡ old
