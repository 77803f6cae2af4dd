-- What is printed of a stop, and when one may come.
use Rattle.std.specs.Prelude.{◌≡◌, ℕ, List, codes, Result, Err, ⊤}
use Rattle.tl_record.specs.Failures.{one_more}
use Rattle.tl_record.specs.Messages.{refusal_text}
use Rattle.tl_record.specs.declared.stop.ReadStop.{ReadStop}
use Rattle.tl_record.specs.declared.stop.ReadStop.TheVariants as read
use Rattle.tl_cert_output.specs.declared.stop.Stop.{Stop}
use Rattle.tl_cert_output.specs.declared.stop.Stop.TheVariants.{Record, Memory, Device, Budget}

-- the text of a stop
abbrev pub stop_text : Stop → List ℕ
stop_text (Record line cause) = refusal_text line cause
stop_text Memory = codes "stopped Memory"
stop_text Device = codes "stopped Device"
stop_text Budget = codes "stopped Budget"

-- why nothing comes of records that can't be read on
abbrev pub stop_of : ReadStop → Stop
stop_of (read.Refused line cause) = Record line cause
stop_of read.Device = Device

-- memory was refused, or a device failed, and then that is true
abbrev pub StopsFor : Type 0 → Stop → Type 0
StopsFor failed (Record line cause) = ⊥
StopsFor failed Memory = ⊤
StopsFor failed Device = failed
StopsFor failed Budget = ⊥

-- `Device` is answered where a read failed, and nowhere else; the count of failures goes from old to new
abbrev pub TellsDevice : {T : Type 0} → ℕ → ℕ → Result T Stop → Type 0
TellsDevice old new (Err Device) = new ≡ one_more old
TellsDevice old new other = new ≡ old
