-- Answers that say of records whether their map is sound.
use Rattle.std.proofs.Common.{◌↔◌, ℕ, List, Option, Ok, Err, subst, Bool}
use Rattle.std.specs.Option.{IfSome}
use Rattle.std.specs.Result.{IfOk}
use Rattle.std.proofs.lemmas.Option.{IfSome_then}
use Rattle.tl_record.specs.Records.{Records as AllRecords}
use Rattle.tl_map_rules.specs.declared.fault.MapStop.{MapStop}
use Rattle.tl_map_rules.specs.declared.fault.MapStop.TheVariants as map
use Rattle.tl_map_county.specs.TheMap.{TheMap}
use Rattle.tl_map_rules.specs.Reading.{IsReadFrom, StopsReading}
use Rattle.tl_check_verdict.specs.Sound.{IsSoundFor}
use Rattle.tl_check_verdict.specs.Records.{HaveMap}
use Rattle.tl_check_verdict.proofs.OneMap.{same_map}
use Rattle.tl_build.specs.Auditing.{Auditing, SaysSound}
use Rattle.tl_build.specs.Keeping.Refusing.{refusal_of}
use Rattle.tl_check_verdict.specs.declared.fault.MapFault.TheVariants.{NoRecords}
use Rattle.tl_check_verdict.proofs.Deciding.{not_sound_records}

-- what is said of a map is said of the records that have it
pub of_map : (faces : Bool) (of : List ℕ → AllRecords) (text : Option (List ℕ)) (m : TheMap) (answer : Auditing) → IfSome text (λ t. IsReadFrom (of t) m) → IfOk answer (λ a. SaysSound a ↔ IsSoundFor faces m)
    → IfOk answer (λ a. IfSome text (λ t. SaysSound a ↔ HaveMap (of t) (IsSoundFor faces)))
of_map faces of text m (Ok a) is told = IfSome_then text is (λ t read. (
  (λ said. record { map = m; is_read = read; so = told.0 said }),
  (λ have. told.1 (subst (IsSoundFor faces) (same_map (of t) have.map m have.is_read read) have.so)),
))
of_map faces of text m (Err stop) is told = tt

-- records that have a fault have no map
pub of_refusal : (faces : Bool) (of : List ℕ → AllRecords) (text : Option (List ℕ)) (stop : MapStop) → IfSome text (λ t. StopsReading (of t) stop)
    → IfOk (refusal_of stop) (λ a. IfSome text (λ t. SaysSound a ↔ HaveMap (of t) (IsSoundFor faces)))
of_refusal faces of text (map.Fault f) is = IfSome_then text is (λ t true. ((λ said. absurd said), (λ have. absurd (have.is_read.no_fault f true.1))))
of_refusal faces of text (map.NoRecords lacking) is =
    IfSome_then text is (λ t true. ((λ said. absurd said), (λ have. absurd (not_sound_records faces (of t) (NoRecords lacking) true have))))
of_refusal faces of text (map.Refused line cause) is = tt
of_refusal faces of text map.Device is = tt
of_refusal faces of text map.Memory is = tt
