-- What an answer says of a map, by a certificate in memory or its text, and of the map that was read of records.
use Rattle.std.specs.Prelude.{◌≡◌, ℕ, Bool, List, Option, Result, Ok, Err, IfErr}
use Rattle.tl_map_rules.specs.declared.fault.MapStop.{MapStop}
use Rattle.tl_map_county.specs.TheMap.{TheMap}
use Rattle.tl_map_county.specs.declared.map.Map.{Map}
use Rattle.tl_check_planar.specs.Planar.{IsPlanar}
use Rattle.tl_cert.specs.Certificates.{TheCertificate}
use Rattle.tl_check_verdict.specs.declared.fault.CertFault.{CertFault}
use Rattle.tl_cert_output.specs.declared.stop.Stop.{Stop}
use Rattle.tl_check_verdict.specs.Sound.{IsSoundFor}
use Rattle.tl_check_verdict.specs.Valid.{AllowsSearch, IsValid}
use Rattle.tl_check_verdict.specs.Truth.{IsTrueOfMapFor, IsTrueOfCert}
use Rattle.tl_check_verdict.specs.Verdicts.{Answer, OnSound, OnSoundButFaces, IfSound, IfMapFault, IfCertFault, OnDartFault, UnlessMeet, OnSearched, IsReport, IsWithinBudget, MayStop}
use Rattle.tl_check_verdict.specs.Texts.{IsTrueWhereKnown, IsValidWhereKnown, AllowsSearchWhereKnown, IsPlanarWhereAllowed, MayStopReading}
use Rattle.tl_cert_output.specs.Stops.{TellsDevice}
use Rattle.tl_check.specs.Keeping.Answers.{refusal_of}

-- What an answer says of a map, where faces are asked for or not. `valid` says that the certificate is valid, `faulty` what a fault
-- says of it, `allows` that a search may be made by it, and `met` that the chains are planar if one may.
pub record IsDecision (m : TheMap) (faces : Bool) (budget : ℕ) (valid : Type 0) (faulty : CertFault → Type 0) (allows met : Type 0)
    (why : Stop → Type 0) (answer : Answer) : Type 0 where
  pub sound : OnSound answer (IsSoundFor faces m)
  pub is_valid : OnSoundButFaces answer valid
  pub within : OnSoundButFaces answer (IsWithinBudget budget m)
  pub report : IfSound answer (IsReport m)
  pub map_fault : IfMapFault answer (IsTrueOfMapFor faces m)
  pub cert_fault : IfCertFault answer faulty
  pub behind : OnDartFault answer (IsPlanar m.chains)
  pub meets : UnlessMeet answer met
  pub searched : OnSearched answer allows
  pub stops : IfErr answer why

-- what it says of a map and a certificate in memory
abbrev pub IsOfCert : TheMap → Bool → ℕ → TheCertificate → Answer → Type 0
IsOfCert m faces budget c answer =
    IsDecision m faces budget (IsValid m c) (IsTrueOfCert m c) (AllowsSearch m c) (AllowsSearch m c → IsPlanar m.chains) (MayStop m budget) answer

-- what it says of a map and the text of a certificate
abbrev pub IsOfSpelt : TheMap → Bool → ℕ → Option (List ℕ) → Answer → Type 0
IsOfSpelt m faces budget text answer =
    IsDecision m faces budget (IsValidWhereKnown text m) (IsTrueWhereKnown text m) (AllowsSearchWhereKnown text m) (IsPlanarWhereAllowed text m)
    (MayStopReading m budget) answer

-- the same where so many reads failed before and behind
pub record IsOfText (m : TheMap) (faces : Bool) (budget : ℕ) (text : Option (List ℕ)) (old new : ℕ) (answer : Answer) : Type 0 where
  pub decides : IsOfSpelt m faces budget text answer
  pub failures : TellsDevice old new answer

-- the same of what was read of records: where there is no map, that is the answer, and the certificate is as it was
abbrev pub IsOfRead : {S : Type 0} → (S → Option (List ℕ)) → (S → ℕ) → Result Map MapStop → Bool → ℕ → S → S → Answer → Type 0
IsOfRead remaining failures (Ok m) faces budget old new answer = IsOfText m faces budget (remaining old) (failures old) (failures new) answer
IsOfRead remaining failures (Err why) faces budget old new answer = (answer ≡ refusal_of why) × (new ≡ old)
