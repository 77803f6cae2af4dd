-- What a reader of certificates keeps, and what each part that it gives says of the text.
use Rattle.std.specs.Prelude.{◌≡◌, ℕ, ◌<◌, List, ◌++◌, length, Option, None, Some, Result, Ok, Err, ⊤}
use Rattle.std.specs.Option.{IfSome}
use Rattle.std.specs.Io.KnownBytes.{IsAtEnd, prepend_known}
use Rattle.tl_record.specs.Lines.{joined_lines}
use Rattle.tl_record.specs.Failures.{one_more}
use Rattle.tl_cert.specs.declared.reader.CertReader.{CertReader}
use Rattle.tl_cert.specs.declared.reader.Standing.{Standing}
use Rattle.tl_cert.specs.declared.reader.Standing.TheVariants.{Reading, Ended, Stopped}
use Rattle.tl_cert.specs.declared.place.NextPart.{NextPart}
use Rattle.tl_cert.specs.declared.place.NextPart.TheVariants.{Start, Counted, Treed, Rounds, Walks}
use Rattle.tl_cert.specs.declared.place.CertPart.{CertPart}
use Rattle.tl_cert.specs.declared.stop.CertStop.{CertStop}
use Rattle.tl_cert.specs.declared.stop.CertStop.TheVariants.{Text, Memory, Device}
use Rattle.tl_cert.specs.Certificates.{TheCertificate, IsCertificate}
use Rattle.tl_cert.specs.Given.{AreGiven, given_lines, with_part, parts_left, LeadsTo, MayEnd}
use Rattle.tl_cert.specs.Beginnings.{IsTextOf, IsRefused}

-- its source, the lines that it has taken, and whether it still reads and where, or which answer it repeats
abbrev pub source_of : {R : Type 0} → CertReader R → R
source_of reader = reader.source

abbrev pub lines_of : {R : Type 0} → CertReader R → ℕ
lines_of reader = reader.lines.lines

abbrev pub standing_of : {R : Type 0} → CertReader R → Standing
standing_of reader = reader.standing

-- the bytes that weren't taken yet, fetched or not, where those that the source has left are known
abbrev pub unread : {R : Type 0} → (R → Option (List ℕ)) → CertReader R → Option (List ℕ)
unread remaining reader = prepend_known reader.lines.buffer (remaining (source_of reader))

-- the parts of c were given, and their lines are those that were taken
pub record IsBehind (lines : ℕ) (place : NextPart) (c : TheCertificate) : Type 0 where
  pub given : AreGiven place c
  pub counted : lines ≡ length (given_lines place c)

-- the text of the parts that were given, and what follows it
abbrev pub whole : NextPart → TheCertificate → List ℕ → List ℕ
whole place c rest = joined_lines (given_lines place c) ++ rest

abbrev pub Answer : Type 0
Answer = Result (Option CertPart) CertStop

-- a reader goes on at this place with a part more, which is what was read of a known text
abbrev pub GoesOn : Option (List ℕ) → Option (List ℕ) → NextPart → NextPart → TheCertificate → TheCertificate → Type 0
GoesOn None new place next c d = ⊤
GoesOn (Some text) None place next c d = ⊥
GoesOn (Some text) (Some rest) place next c d = whole place c text ≡ whole next d rest

-- where a text is refused: where no certificate's counts begin it, or no certificate's counts and tree; elsewhere behind them
abbrev pub BreaksOff : NextPart → List ℕ → Type 0
BreaksOff Start text = (c : TheCertificate) (rest : List ℕ) → IsCertificate c → ¬ (text ≡ whole (Counted c.version) c rest)
BreaksOff (Counted version) text = (c : TheCertificate) (rest : List ℕ) → IsCertificate c → ¬ (text ≡ whole (Treed c.version) c rest)
BreaksOff (Treed version) text = ⊤
BreaksOff (Rounds left) text = ⊤
BreaksOff (Walks left) text = ⊤

-- What an answer says, whatever parts c were given before: it is a part more, and the text behind it is what is left; or
-- the end, of the source too, and the whole text is that of c; or no certificate has the whole text, this is the line, and
-- the counts and the tree are what was given, or the text breaks off in the one that comes.
abbrev pub GivesAt : {R : Type 0} → (R → Option (List ℕ)) → NextPart → CertReader R → CertReader R → Answer → Type 0
GivesAt remaining place old new (Ok (Some given)) =
    (next : NextPart) × (standing_of new ≡ Reading next) × (parts_left next < parts_left place)
    × ((c : TheCertificate) → IsBehind (lines_of old) place c
    → IsBehind (lines_of new) next (with_part c given) × GoesOn (unread remaining old) (unread remaining new) place next c (with_part c given))
    × LeadsTo place given next
GivesAt remaining place old new (Ok None) =
    IsAtEnd (remaining (source_of new))
    × ((c : TheCertificate) → IsBehind (lines_of old) place c → IsCertificate c × IfSome (unread remaining old) (λ text. IsTextOf c (whole place c text)))
    × MayEnd place
GivesAt remaining place old new (Err (Text line)) =
    (c : TheCertificate) → IsBehind (lines_of old) place c → IfSome (unread remaining old) (λ text. IsRefused (whole place c text) line × BreaksOff place (whole place c text))
GivesAt remaining place old new (Err Memory) = ⊤
GivesAt remaining place old new (Err Device) = ⊤

abbrev pub Gives : {R : Type 0} → (R → Option (List ℕ)) → CertReader R → CertReader R → Answer → Standing → Type 0
Gives remaining old new answer (Reading place) = GivesAt remaining place old new answer
Gives remaining old new answer Ended = (answer ≡ Ok None) × (new ≡ old)
Gives remaining old new answer (Stopped stop) = (answer ≡ Err stop) × (new ≡ old)

-- after a part the reader reads on; after the end or a stop, that is the answer from then on
abbrev pub Settles : Standing → Answer → Type 0
Settles standing (Ok (Some given)) = (next : NextPart) × (standing ≡ Reading next)
Settles standing (Ok None) = standing ≡ Ended
Settles standing (Err stop) = standing ≡ Stopped stop

-- the source counts a failed read, and `Device` comes of nothing else
abbrev pub TellsFailure : Standing → ℕ → ℕ → Answer → Type 0
TellsFailure (Reading place) old new (Ok given) = new ≡ old
TellsFailure (Reading place) old new (Err (Text line)) = new ≡ old
TellsFailure (Reading place) old new (Err Memory) = new ≡ old
TellsFailure (Reading place) old new (Err Device) = new ≡ one_more old
TellsFailure Ended old new answer = new ≡ old
TellsFailure (Stopped stop) old new answer = new ≡ old

-- why a text gives no certificate: no certificate has it, and this is the line; or memory lacks, or a read failed
abbrev pub StopsReading : List ℕ → CertStop → Type 0
StopsReading text (Text line) = IsRefused text line
StopsReading text Memory = ⊤
StopsReading text Device = ⊤

-- `Device` is answered where a read failed, and nowhere else; the count of failures goes from old to new
abbrev pub TellsDevice : {T : Type 0} → ℕ → ℕ → Result T CertStop → Type 0
TellsDevice old new (Ok made) = new ≡ old
TellsDevice old new (Err (Text line)) = new ≡ old
TellsDevice old new (Err Memory) = new ≡ old
TellsDevice old new (Err Device) = new ≡ one_more old
