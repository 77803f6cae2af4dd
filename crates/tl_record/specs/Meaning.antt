-- What a line means, and its record in a place apart.
use Rattle.std.specs.Prelude.{◌≡◌, Result, Ok, Err, ⊤}
use Rattle.tl_record.specs.declared.record.Record.{Record}
use Rattle.tl_record.specs.declared.stop.Cause.{Cause}
use Rattle.tl_record.specs.declared.judge.Judgement.{Judgement}
use Rattle.tl_record.specs.declared.judge.Judgement.TheVariants as judged
use Rattle.tl_record.specs.declared.judge.Meaning.{Meaning}
use Rattle.tl_record.specs.declared.judge.Meaning.TheVariants.{PassedOver, Read, Refused}

-- a record that is read into its place, or why it isn't
abbrev pub with_record : {T : Type 0} → Result T Cause → Record → Result Record Cause
with_record (Ok done) r = Ok r
with_record (Err cause) r = Err cause

-- a judgement, of what the line means and what stands in the record's place
abbrev pub judgement_with : Meaning → Record → Judgement
judgement_with PassedOver r = judged.PassedOver
judgement_with Read r = judged.Read r
judgement_with (Refused cause) r = judged.Refused cause

-- where no record is read, its place stays as it was
abbrev pub KeepsUnread : Meaning → Record → Record → Type 0
KeepsUnread PassedOver old new = new ≡ old
KeepsUnread Read old new = ⊤
KeepsUnread (Refused cause) old new = new ≡ old
