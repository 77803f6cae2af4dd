-- What an answer says of the map that was read of records, it says of the records.
use Rattle.std.proofs.Common.{◌≡◌, ℕ, Bool, List, Option, Result, Ok, Err, IfOk, IfErr, sym, subst}
use Rattle.std.specs.Option.{IfSome}
use Rattle.tl_record.specs.Records.{Records as AllRecords}
use Rattle.tl_map_rules.specs.declared.fault.MapStop.{MapStop}
use Rattle.tl_map_rules.specs.Reading.{IsReadFrom, StopsReading, TellsDevice as TellsReading}
use Rattle.tl_map_county.specs.TheMap.{TheMap}
use Rattle.tl_map_county.specs.declared.map.Map.{Map}
use Rattle.tl_check_planar.specs.Planar.{IsPlanar}
use Rattle.tl_check_verdict.specs.declared.fault.CertFault.{CertFault}
use Rattle.tl_check_verdict.specs.declared.verdict.Report.{Report}
use Rattle.tl_check_verdict.specs.Truth.{IsOfDarts}
use Rattle.tl_check_verdict.specs.Verdicts.{Answer, OnSound, OnSoundButFaces, IfSound, IfMapFault, IfCertFault, UnlessMeet, OnSearched}
use Rattle.tl_check_verdict.specs.Records.{HaveMap, IsTrueOfRecordsFor, MayStopOn, TellsEither, LeavesUnread}
use Rattle.tl_check.specs.Keeping.Answers.{refusal_of}
use Rattle.tl_check.specs.Keeping.Read.{IsOfText, IsOfRead}
use Rattle.tl_check.proofs.Recorded as recorded
use Rattle.tl_check.proofs.Meeting.{refused_meets}

module _ {S : Type 0} (remaining : S → Option (List ℕ)) (failures : S → ℕ) (of : List ℕ → AllRecords) (text : Option (List ℕ)) (faces : Bool) (budget : ℕ) (old new : S) (answer : Answer) where
  -- of a map, and of none
  by_read : (P : Answer → Type 0) (read : Result Map MapStop) → IsOfRead remaining failures read faces budget old new answer
      → IfOk read (λ m. IfSome text (λ t. IsReadFrom (of t) m)) → IfErr read (λ why. IfSome text (λ t. StopsReading (of t) why))
      → ((m : TheMap) → IfSome text (λ t. IsReadFrom (of t) m) → IsOfText m faces budget (remaining old) (failures old) (failures new) answer → P answer)
      → ((why : MapStop) → IfSome text (λ t. StopsReading (of t) why) → new ≡ old → P (refusal_of why)) → P answer
  by_read P (Ok m) so is stops f g = f m is so
  by_read P (Err why) so is stops f g = subst P (sym so.0) (g why stops so.1)

  module _ (read : Result Map MapStop) (so : IsOfRead remaining failures read faces budget old new answer) (is : IfOk read (λ m. IfSome text (λ t. IsReadFrom (of t) m))) (stops : IfErr read (λ why. IfSome text (λ t. StopsReading (of t) why))) where
    pub read_on_sound : (P : TheMap → Type 0) → ((m : TheMap) → IsOfText m faces budget (remaining old) (failures old) (failures new) answer → OnSound answer (P m)) → OnSound answer (IfSome text (λ t. HaveMap (of t) P))
    read_on_sound P f = by_read (λ a. OnSound a (IfSome text (λ t. HaveMap (of t) P))) read so is stops (λ m r k. recorded.on_sound of text m r P answer (f m k)) (λ why s e. recorded.refused_sound why _)

    pub read_but_faces : (P : TheMap → Type 0) → ((m : TheMap) → IsOfText m faces budget (remaining old) (failures old) (failures new) answer → OnSoundButFaces answer (P m))
        → OnSoundButFaces answer (IfSome text (λ t. HaveMap (of t) P))
    read_but_faces P f = by_read (λ a. OnSoundButFaces a (IfSome text (λ t. HaveMap (of t) P))) read so is stops
        (λ m r k. recorded.but_faces of text m r P answer (f m k)) (λ why s e. recorded.refused_but_faces why _)

    pub read_if_sound : (P : TheMap → Report → Type 0) → ((m : TheMap) → IsOfText m faces budget (remaining old) (failures old) (failures new) answer → IfSound answer (P m)) → IfSound answer (λ r. IfSome text (λ t. HaveMap (of t) (λ n. P n r)))
    read_if_sound P f = by_read (λ a. IfSound a (λ r. IfSome text (λ t. HaveMap (of t) (λ n. P n r)))) read so is stops (λ m r k. recorded.if_sound of text m r P answer (f m k)) (λ why s e. recorded.refused_sound why _)

    pub read_map_fault : IfMapFault answer (λ f. IfSome text (λ t. IsTrueOfRecordsFor faces (of t) f))
    read_map_fault = by_read (λ a. IfMapFault a (λ f. IfSome text (λ t. IsTrueOfRecordsFor faces (of t) f))) read so is stops (λ m r k. recorded.map_fault of text m r faces answer k.decides.map_fault) (λ why s e. recorded.refused_fault faces of text why s)

    pub read_cert_fault : (P : TheMap → CertFault → Type 0) → ((m : TheMap) → IsOfText m faces budget (remaining old) (failures old) (failures new) answer → IfCertFault answer (P m)) → IfCertFault answer (λ f. IfSome text (λ t. HaveMap (of t) (λ n. P n f)))
    read_cert_fault P f = by_read (λ a. IfCertFault a (λ f. IfSome text (λ t. HaveMap (of t) (λ n. P n f)))) read so is stops (λ m r k. recorded.cert_fault of text m r P answer (f m k)) (λ why s e. recorded.refused_cert why _)

    pub read_behind : IfCertFault answer (λ f. IsOfDarts f → IfSome text (λ t. HaveMap (of t) (λ n. IsPlanar n.chains)))
    read_behind = by_read (λ a. IfCertFault a (λ f. IsOfDarts f → IfSome text (λ t. HaveMap (of t) (λ n. IsPlanar n.chains)))) read so is stops (λ m r k. recorded.behind of text m r answer k.decides.behind) (λ why s e. recorded.refused_cert why _)

    pub read_searched : (P : TheMap → Type 0) → ((m : TheMap) → IsOfText m faces budget (remaining old) (failures old) (failures new) answer → OnSearched answer (P m)) → OnSearched answer (IfSome text (λ t. HaveMap (of t) P))
    read_searched P f = by_read (λ a. OnSearched a (IfSome text (λ t. HaveMap (of t) P))) read so is stops (λ m r k. recorded.searched of text m r P answer (f m k)) (λ why s e. recorded.refused_searched why _)

    pub read_meets : (P : TheMap → Type 0) → ((m : TheMap) → IsOfText m faces budget (remaining old) (failures old) (failures new) answer → UnlessMeet answer (P m)) → UnlessMeet answer (IfSome text (λ t. HaveMap (of t) P))
    read_meets P f = by_read (λ a. UnlessMeet a (IfSome text (λ t. HaveMap (of t) P))) read so is stops (λ m r k. recorded.meets of text m r P answer (f m k)) (λ why s e. refused_meets why _)

    pub read_stops : IfErr answer (λ why. IfSome text (λ t. MayStopOn (of t) budget why))
    read_stops = by_read (λ a. IfErr a (λ why. IfSome text (λ t. MayStopOn (of t) budget why))) read so is stops (λ m r k. recorded.stops of text m r budget answer k.decides.stops) (λ why s e. recorded.refused_stops of text budget why s)

    pub read_unread : LeavesUnread answer (new ≡ old)
    read_unread = by_read (λ a. LeavesUnread a (new ≡ old)) read so is stops (λ m r k. recorded.unread faces m budget _ answer k.decides.map_fault k.decides.stops) (λ why s e. recorded.refused_unread why _ e)

-- failures are told
pub read_tells : {S : Type 0} (remaining : S → Option (List ℕ)) (failures : S → ℕ) (faces : Bool) (budget : ℕ) (old new : S) (answer : Answer) (before behind : ℕ) (read : Result Map MapStop) → IsOfRead remaining failures read faces budget old new answer → TellsReading before behind read
    → TellsEither before behind (failures old) (failures new) answer
read_tells remaining failures faces budget old new answer before behind (Ok m) so tells = recorded.tells_either before behind (failures old) (failures new) answer tells so.failures
read_tells {S} remaining failures faces budget old new answer before behind (Err why) so tells =
    subst (λ (s : S). TellsEither before behind (failures old) (failures s) answer) (sym so.1)
    (subst (λ a. TellsEither before behind (failures old) (failures old) a) (sym so.0) (recorded.refused_tells Map before behind (failures old) why tells))
