-- What an answer says of what was read of records it says of the records.
use Rattle.std.proofs.Common.{◌≡◌, ◌↔◌, ℕ, List, Option, Result, Ok, Err, IfOk, IfErr, sym, subst, Bool}
use Rattle.std.specs.Option.{IfSome}
use Rattle.std.proofs.lemmas.Option.{IfSome_then}
use Rattle.tl_record.specs.Records.{Records as AllRecords}
use Rattle.tl_map_rules.specs.declared.fault.MapStop.{MapStop}
use Rattle.tl_map_rules.specs.declared.fault.MapStop.TheVariants as map
use Rattle.tl_map_county.specs.TheMap.{TheMap}
use Rattle.tl_map_county.specs.declared.map.Map.{Map}
use Rattle.tl_map_rules.specs.Reading.{IsReadFrom, StopsReading, TellsDevice as TellsReading}
use Rattle.tl_check_verdict.specs.declared.verdict.Report.{Report}
use Rattle.tl_check_verdict.specs.Sound.{IsSoundFor}
use Rattle.tl_check_verdict.specs.Verdicts.{IsReport}
use Rattle.tl_check_verdict.specs.Records.{HaveMap, IsTrueOfRecordsFor}
use Rattle.tl_check_verdict.proofs.Recording.{true_of_records}
use Rattle.tl_build.specs.declared.answer.Audit.TheVariants as audit
use Rattle.tl_cert_output.specs.declared.stop.Stop.{Stop}
use Rattle.tl_cert_output.specs.declared.stop.Stop.TheVariants as stop
use Rattle.tl_build.specs.Auditing.{Auditing, IfSound, IfFaulty, SaysSound, IsMemoryStop, IsNotBudget, MayStopAudit}
use Rattle.tl_cert_output.specs.Stops.{TellsDevice}
use Rattle.tl_build.specs.Keeping.Refusing.{refusal_of}
use Rattle.tl_build.specs.Keeping.Deciding.{AuditsFor, AuditsRead}
use Rattle.tl_build.proofs.Decided as decided
use Rattle.tl_build.proofs.Exactly.{of_map, of_refusal}

-- ---- an answer to the map of the records

module _ (faces : Bool) (of : List ℕ → AllRecords) (text : Option (List ℕ)) (m : TheMap) (is : IfSome text (λ t. IsReadFrom (of t) m)) where
  sound_so : (P : TheMap → Report → Type 0) → ((n : TheMap) (r : Report) → IsSoundFor faces n → IsReport n r → P n r) → (answer : Auditing) → AuditsFor faces m answer
      → IfSound answer (λ r. IfSome text (λ t. HaveMap (of t) (λ n. P n r)))
  sound_so P so (Ok (audit.Sound r)) says = IfSome_then text is (λ t read. record { map = m; is_read = read; so = so m r says.0 says.1 })
  sound_so P so (Ok (audit.Fault fault)) says = tt
  sound_so P so (Err why) says = tt

  fault_so : (answer : Auditing) → AuditsFor faces m answer → IfFaulty answer (λ f. IfSome text (λ t. IsTrueOfRecordsFor faces (of t) f))
  fault_so (Ok (audit.Sound report)) says = tt
  fault_so (Ok (audit.Fault f)) says = IfSome_then text is (λ t read. true_of_records faces (of t) m f read says)
  fault_so (Err why) says = tt

  -- why a map isn't decided is why its records aren't
  pub stop_so : (why : Stop) → IsMemoryStop why → IfSome text (λ t. MayStopAudit (of t) why)
  stop_so (stop.Record line cause) may = absurd may
  stop_so stop.Memory may = IfSome_then text is (λ t read. tt)
  stop_so stop.Device may = absurd may
  stop_so stop.Budget may = absurd may

  stops_so : (answer : Auditing) → AuditsFor faces m answer → IfErr answer (λ why. IfSome text (λ t. MayStopAudit (of t) why))
  stops_so (Ok told) says = tt
  stops_so (Err why) says = stop_so why says

-- it tells no failure
tells_none : (faces : Bool) (m : TheMap) (old new : ℕ) (answer : Auditing) → AuditsFor faces m answer → new ≡ old → TellsDevice old new answer
tells_none faces m old new (Ok told) says same = same
tells_none faces m old new (Err (stop.Record line cause)) says same = same
tells_none faces m old new (Err stop.Memory) says same = same
tells_none faces m old new (Err stop.Device) says same = absurd says
tells_none faces m old new (Err stop.Budget) says same = absurd says

-- ---- where the records have no map

refused_sound : (why : MapStop) (P : Report → Type 0) → IfSound (refusal_of why) P
refused_sound (map.Refused line cause) P = tt
refused_sound map.Device P = tt
refused_sound map.Memory P = tt
refused_sound (map.Fault fault) P = tt
refused_sound (map.NoRecords lacking) P = tt

refused_fault : (faces : Bool) (of : List ℕ → AllRecords) (text : Option (List ℕ)) (why : MapStop) → IfSome text (λ t. StopsReading (of t) why)
    → IfFaulty (refusal_of why) (λ f. IfSome text (λ t. IsTrueOfRecordsFor faces (of t) f))
refused_fault faces of text (map.Refused line cause) stops = tt
refused_fault faces of text map.Device stops = tt
refused_fault faces of text map.Memory stops = tt
refused_fault faces of text (map.Fault fault) stops = stops
refused_fault faces of text (map.NoRecords lacking) stops = stops

refused_stops : (of : List ℕ → AllRecords) (text : Option (List ℕ)) (why : MapStop) → IfSome text (λ t. StopsReading (of t) why)
    → IfErr (refusal_of why) (λ s. IfSome text (λ t. MayStopAudit (of t) s))
refused_stops of text (map.Refused line cause) stops = stops
refused_stops of text map.Device stops = stops
refused_stops of text map.Memory stops = stops
refused_stops of text (map.Fault fault) stops = tt
refused_stops of text (map.NoRecords lacking) stops = tt

refused_tells : (old new : ℕ) (why : MapStop) → TellsReading {T = Map} old new (Err why) → TellsDevice old new (refusal_of why)
refused_tells old new (map.Refused line cause) tells = tells
refused_tells old new map.Device tells = tells
refused_tells old new map.Memory tells = tells
refused_tells old new (map.Fault fault) tells = tells
refused_tells old new (map.NoRecords lacking) tells = tells

-- ---- what was read of records

module _ (faces : Bool) (of : List ℕ → AllRecords) (text : Option (List ℕ)) (answer : Auditing) where
  pub if_sound : (P : TheMap → Report → Type 0) → ((m : TheMap) (r : Report) → IsSoundFor faces m → IsReport m r → P m r) → (read : Result Map MapStop)
      → AuditsRead faces read answer → IfOk read (λ m. IfSome text (λ t. IsReadFrom (of t) m))
      → IfSound answer (λ r. IfSome text (λ t. HaveMap (of t) (λ m. P m r)))
  if_sound P so (Ok m) says is = sound_so faces of text m is P so answer says
  if_sound P so (Err why) says is =
      subst (λ a. IfSound a (λ r. IfSome text (λ t. HaveMap (of t) (λ m. P m r)))) (sym says)
      (refused_sound why (λ r. IfSome text (λ t. HaveMap (of t) (λ m. P m r))))

  pub faulty : (read : Result Map MapStop) → AuditsRead faces read answer → IfOk read (λ m. IfSome text (λ t. IsReadFrom (of t) m))
      → IfErr read (λ why. IfSome text (λ t. StopsReading (of t) why)) → IfFaulty answer (λ f. IfSome text (λ t. IsTrueOfRecordsFor faces (of t) f))
  faulty (Ok m) says is refused = fault_so faces of text m is answer says
  faulty (Err why) says is refused =
      subst (λ a. IfFaulty a (λ f. IfSome text (λ t. IsTrueOfRecordsFor faces (of t) f))) (sym says) (refused_fault faces of text why refused)

  pub exactly : (read : Result Map MapStop) → AuditsRead faces read answer → IfOk read (λ m. IfSome text (λ t. IsReadFrom (of t) m))
      → IfErr read (λ why. IfSome text (λ t. StopsReading (of t) why)) → IfOk answer (λ a. IfSome text (λ t. SaysSound a ↔ HaveMap (of t) (IsSoundFor faces)))
  exactly (Ok m) says is refused = of_map faces of text m answer is (decided.exactly faces m answer says)
  exactly (Err why) says is refused =
      subst (λ a. IfOk a (λ b. IfSome text (λ t. SaysSound b ↔ HaveMap (of t) (IsSoundFor faces)))) (sym says) (of_refusal faces of text why refused)

  pub stops : (read : Result Map MapStop) → AuditsRead faces read answer → IfOk read (λ m. IfSome text (λ t. IsReadFrom (of t) m))
      → IfErr read (λ why. IfSome text (λ t. StopsReading (of t) why)) → IfErr answer (λ why. IfSome text (λ t. MayStopAudit (of t) why))
  stops (Ok m) says is refused = stops_so faces of text m is answer says
  stops (Err why) says is refused = subst (λ a. IfErr a (λ s. IfSome text (λ t. MayStopAudit (of t) s))) (sym says) (refused_stops of text why refused)

-- failures are told
pub tells : (faces : Bool) (old new : ℕ) (answer : Auditing) (read : Result Map MapStop) → AuditsRead faces read answer → TellsReading old new read
    → TellsDevice old new answer
tells faces old new answer (Ok m) says told = tells_none faces m old new answer says told
tells faces old new answer (Err why) says told = subst (TellsDevice old new) (sym says) (refused_tells old new why told)

-- no budget is spent
map_unspent : (faces : Bool) (m : TheMap) (answer : Auditing) → AuditsFor faces m answer → IfErr answer IsNotBudget
map_unspent faces m (Ok told) says = tt
map_unspent faces m (Err (stop.Record line cause)) says = tt
map_unspent faces m (Err stop.Memory) says = tt
map_unspent faces m (Err stop.Device) says = tt
map_unspent faces m (Err stop.Budget) says = absurd says

refused_unspent : (why : MapStop) → IfErr (refusal_of why) IsNotBudget
refused_unspent (map.Refused line cause) = tt
refused_unspent map.Device = tt
refused_unspent map.Memory = tt
refused_unspent (map.Fault fault) = tt
refused_unspent (map.NoRecords lacking) = tt

pub unspent : (faces : Bool) (answer : Auditing) (read : Result Map MapStop) → AuditsRead faces read answer → IfErr answer IsNotBudget
unspent faces answer (Ok m) says = map_unspent faces m answer says
unspent faces answer (Err why) says = subst (λ a. IfErr a IsNotBudget) (sym says) (refused_unspent why)
