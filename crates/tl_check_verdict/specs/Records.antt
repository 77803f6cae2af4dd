-- What is said of records beside the text of a certificate.
use Rattle.std.specs.Prelude.{◌≡◌, ◌⊎◌, ℕ, Bool, true, List, Option, Some, None, Ok, Err, ⊤}
use Rattle.std.specs.Option.{IfSome}
use Rattle.tl_record.specs.Failures.{one_more}
use Rattle.tl_record.specs.Records.{Records as AllRecords}
use Rattle.tl_map_rules.specs.Faults.{IsTrueOf}
use Rattle.tl_map_rules.specs.Lacking.{lacks}
use Rattle.tl_map_rules.specs.Reading.{records_in, lacking_of, IsReadFrom}
use Rattle.tl_map_county.specs.TheMap.{TheMap}
use Rattle.tl_check_planar.specs.Searching.{AreBeyond}
use Rattle.tl_check_verdict.specs.declared.fault.MapFault.{MapFault}
use Rattle.tl_check_verdict.specs.declared.fault.MapFault.TheVariants.{Records, NoRecords, Face}
use Rattle.tl_check_verdict.specs.declared.verdict.Verdict.TheVariants as verdict
use Rattle.tl_cert_output.specs.declared.stop.Stop.{Stop}
use Rattle.tl_cert_output.specs.declared.stop.Stop.TheVariants.{Record, Memory, Device, Budget}
use Rattle.tl_check_verdict.specs.Truth.{IsTrueOfMap, IsTrueOfMapFor}
use Rattle.tl_check_verdict.specs.Verdicts.{Answer}

-- no line of the records is refused, they have a map, and it is so
pub record HaveMap (all : AllRecords) (P : TheMap → Type 0) : Type 0 where
  pub map : TheMap
  pub is_read : IsReadFrom all map
  pub so : P map

-- where the bytes of record files are known: the records that are read of them have a map, and it is so
abbrev pub HaveMapOf : (List ℕ → AllRecords) → Option (List ℕ) → (TheMap → Type 0) → Type 0
HaveMapOf read text P = IfSome text (λ bytes. HaveMap (read bytes) P)

-- what a fault says of records for which no faces are asked: no line is refused and they have no map, for this reason; or none is
-- refused, and there are none of some type that is asked for; or they have a map, and the fault is true of it
abbrev pub IsTrueOfRecords : AllRecords → MapFault → Type 0
IsTrueOfRecords all (Records fault) = (all.refusal ≡ None) × IsTrueOf (records_in all) fault
IsTrueOfRecords all (NoRecords lacking) = (all.refusal ≡ None) × (lacking ≡ lacking_of all) × (lacks lacking ≡ true)
IsTrueOfRecords all fault = HaveMap all (λ m. IsTrueOfMap m fault)

-- what it says of records for which faces are asked or not
abbrev pub IsTrueOfRecordsFor : (faces : Bool) → AllRecords → MapFault → Type 0
IsTrueOfRecordsFor faces all (Face fault) = HaveMap all (λ m. IsTrueOfMapFor faces m (Face fault))
IsTrueOfRecordsFor faces all other = IsTrueOfRecords all other

-- why records aren't decided: this line is the first that is refused, memory was refused, a read failed, or more pairs of
-- segments of their map than the budget have rectangles that meet, and as many of these as the budget don't conflict
abbrev pub MayStopOn : AllRecords → ℕ → Stop → Type 0
MayStopOn all budget (Record line cause) = all.refusal ≡ Some (line, cause)
MayStopOn all budget Memory = ⊤
MayStopOn all budget Device = ⊤
MayStopOn all budget Budget = HaveMap all (λ m. AreBeyond m.chains budget)

-- `Device` is answered where a read of the records or of the certificate failed, and nowhere else; the counts of failures
-- go from old to new
abbrev pub TellsEither : (records_old records_new cert_old cert_new : ℕ) → Answer → Type 0
TellsEither records_old records_new cert_old cert_new (Err Device) =
    ((records_new ≡ one_more records_old) × (cert_new ≡ cert_old)) ⊎ ((records_new ≡ records_old) × (cert_new ≡ one_more cert_old))
TellsEither records_old records_new cert_old cert_new other = (records_new ≡ records_old) × (cert_new ≡ cert_old)

-- where a line is refused or the records have no map, the certificate is as it was
abbrev pub LeavesUnread : Answer → Type 0 → Type 0
LeavesUnread (Err (Record line cause)) P = P
LeavesUnread (Ok (verdict.MapFault (Records fault))) P = P
LeavesUnread (Ok (verdict.MapFault (NoRecords lacking))) P = P
LeavesUnread other P = ⊤
