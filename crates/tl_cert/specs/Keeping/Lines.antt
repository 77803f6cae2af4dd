-- What reading a line takes from a source, and what it says where no such line comes.
use Rattle.std.specs.Prelude.{◌≡◌, ℕ, ◌+◌, ◌≤◌, List, [], ◌∷◌, ◌++◌, length, Option, Result, Ok, Err, ⊤}
use Rattle.std.specs.Option.{IfSome}
use Rattle.std.specs.Io.KnownBytes.{Consumes, IsAtEnd, prepend_known}
use Rattle.tl_record.specs.Lines.{line_feed, line_feeds, joined_lines}
use Rattle.tl_record.specs.Failures.{one_more}
use Rattle.tl_cert.specs.declared.lines.Lines.{Lines}
use Rattle.tl_cert.specs.declared.stop.CertStop.{CertStop}
use Rattle.tl_cert.specs.declared.stop.CertStop.TheVariants.{Text, Memory, Device}

-- a source, the bytes that were fetched and not taken yet, and how many lines were taken
pub record LineState (R : Type 0) : Type 0 where
  pub source : R
  pub buffer : List ℕ
  pub lines : ℕ

abbrev pub at : {R : Type 0} → Lines → R → LineState R
at lines source = record { source = source; buffer = lines.buffer; lines = lines.lines }

-- how many lines were taken
abbrev pub taken : {R : Type 0} → LineState R → ℕ
taken reader = reader.lines

-- the bytes that weren't taken yet, fetched or not, where those that the source has left are known
abbrev pub untaken : {R : Type 0} → (R → Option (List ℕ)) → LineState R → Option (List ℕ)
untaken remaining reader = prepend_known reader.buffer (remaining reader.source)

-- no line of a certificate is longer, and none has a line feed in it
pub record IsShort (line : List ℕ) : Type 0 where
  pub none : line_feeds line ≡ 0
  pub few : length line ≤ 63

-- none of these lines begins the text
abbrev pub NoLineBegins : (List ℕ → Type 0) → List ℕ → Type 0
NoLineBegins P text = (line rest : List ℕ) → P line → IsShort line → ¬ (text ≡ line ++ line_feed ∷ rest)

-- the lines were taken, and no other
pub record TakesLines {R : Type 0} (remaining : R → Option (List ℕ)) (old new : LineState R) (lines : List (List ℕ)) : Type 0 where
  pub bytes : Consumes (untaken remaining old) (untaken remaining new) (joined_lines lines)
  pub counted : taken new ≡ taken old + length lines

-- the lines were taken from the bytes that were fetched, and nothing was fetched
pub record TakesFetched (old new : Lines) (lines : List (List ℕ)) : Type 0 where
  pub bytes : old.buffer ≡ joined_lines lines ++ new.buffer
  pub counted : new.lines ≡ old.lines + length lines

-- the value of a line that was taken; or no line that spells one comes next
abbrev pub ReadsLine : {R V : Type 0} → (R → Option (List ℕ)) → (V → List ℕ) → (V → Type 0) → LineState R → LineState R → Result V CertStop → Type 0
ReadsLine remaining spelt fits old new (Ok value) = fits value × TakesLines remaining old new (spelt value ∷ [])
ReadsLine {R} {V} remaining spelt fits old new (Err (Text line)) =
    (line ≡ 1 + taken old) × IfSome (untaken remaining old) (NoLineBegins (λ line. (value : V) × fits value × (line ≡ spelt value)))
ReadsLine remaining spelt fits old new (Err Memory) = ⊥
ReadsLine remaining spelt fits old new (Err Device) = ⊤

-- `Device` is answered where a read failed, and nowhere else
abbrev pub TellsRead : {V : Type 0} → ℕ → ℕ → Result V CertStop → Type 0
TellsRead old new (Ok value) = new ≡ old
TellsRead old new (Err (Text line)) = new ≡ old
TellsRead old new (Err Memory) = new ≡ old
TellsRead old new (Err Device) = new ≡ one_more old

-- the text is at its end, and its source with it; or it has a byte more
abbrev pub EndsText : {R : Type 0} → (R → Option (List ℕ)) → LineState R → LineState R → Result Unit CertStop → Type 0
EndsText remaining old new (Ok value) = IfSome (untaken remaining old) (λ text. text ≡ []) × IsAtEnd (remaining new.source) × (taken new ≡ taken old)
EndsText remaining old new (Err (Text line)) = (line ≡ 1 + taken old) × IfSome (untaken remaining old) (λ text. ¬ (text ≡ []))
EndsText remaining old new (Err Memory) = ⊥
EndsText remaining old new (Err Device) = ⊤
