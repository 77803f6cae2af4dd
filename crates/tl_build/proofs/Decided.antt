-- What the clauses of answers to maps read off what these say.
use Rattle.std.proofs.Common.{◌≡◌, ◌↔◌, List, [], ◌∷◌, Some, None, Ok, Err, refl, subst, Bool, false}
use Rattle.std.specs.Prelude.{IfOk, IfErr, slice_get}
use Rattle.tl_map_county.specs.TheMap.{TheMap}
use Rattle.tl_cert.specs.Certificates.{TheCertificate}
use Rattle.tl_check_verdict.specs.declared.fault.MapFault.{MapFault}
use Rattle.tl_check_verdict.specs.Sound.{IsSound, IsSoundFor}
use Rattle.tl_check_verdict.specs.Truth.{IsTrueOfMapFor}
use Rattle.tl_check_verdict.specs.Verdicts.{IsReport}
use Rattle.tl_check_verdict.proofs.Denials.{not_sound}
use Rattle.tl_decide.specs.Deciding.{IsOneIfAny}
use Rattle.tl_decide.proofs.Firsts.{sound_alone}
use Rattle.tl_record.specs.Records.{Records as AllRecords}
use Rattle.tl_check_verdict.specs.Records.{HaveMap}
use Rattle.tl_check_verdict.proofs.OneMap.{weaker}
use Rattle.tl_build.specs.declared.answer.Audit.{Audit}
use Rattle.tl_build.specs.declared.answer.Audit.TheVariants as audit
use Rattle.tl_build.specs.declared.answer.Built.{Built}
use Rattle.tl_build.specs.declared.answer.Built.TheVariants as built
use Rattle.tl_build.specs.Auditing.{Auditing, IfSound, OnSound, IfFaulty, SaysSound, IsMemoryStop}
use Rattle.tl_build.specs.Building.{Building, IfCert, OnCert, IfFault, HasCert}
use Rattle.tl_build.specs.Keeping.Deciding.{AuditsFor, BuildsFor, IsBuilt}

-- ---- audits

module _ (faces : Bool) (m : TheMap) where
  pub on_sound : (P : Type 0) → (IsSoundFor faces m → P) → (answer : Auditing) → AuditsFor faces m answer → OnSound answer P
  on_sound P leads (Ok (audit.Sound report)) says = leads says.0
  on_sound P leads (Ok (audit.Fault fault)) says = tt
  on_sound P leads (Err stop) says = tt

  pub reported : (answer : Auditing) → AuditsFor faces m answer → IfSound answer (IsReport m)
  reported (Ok (audit.Sound report)) says = says.1
  reported (Ok (audit.Fault fault)) says = tt
  reported (Err stop) says = tt

  pub faulty : (answer : Auditing) → AuditsFor faces m answer → IfFaulty answer (IsTrueOfMapFor faces m)
  faulty (Ok (audit.Sound report)) says = tt
  faulty (Ok (audit.Fault fault)) says = says
  faulty (Err stop) says = tt

  pub exactly : (answer : Auditing) → AuditsFor faces m answer → IfOk answer (λ a. SaysSound a ↔ IsSoundFor faces m)
  exactly (Ok (audit.Sound report)) says = ((λ said. says.0), (λ sound. tt))
  exactly (Ok (audit.Fault fault)) says = ((λ said. absurd said), (λ sound. absurd (not_sound faces m fault says sound)))
  exactly (Err stop) says = tt

  pub stops : (answer : Auditing) → AuditsFor faces m answer → IfErr answer IsMemoryStop
  stops (Ok told) says = tt
  stops (Err stop) says = says

  -- ---- builds

  pub built_stops : (answer : Building) → BuildsFor faces m answer → IfErr answer IsMemoryStop
  built_stops (Ok told) says = tt
  built_stops (Err stop) says = says

  pub on_cert : (P : Type 0) → (IsSoundFor faces m → P) → (answer : Building) → BuildsFor faces m answer → OnCert answer P
  on_cert P leads (Ok (built.Cert cert)) says = leads says.0
  on_cert P leads (Ok (built.Fault fault)) says = tt
  on_cert P leads (Err stop) says = tt

  pub if_cert : (P : TheCertificate → Type 0) → ((cert : TheCertificate) → IsBuilt m cert → P cert) → (answer : Building) → BuildsFor faces m answer → IfCert answer P
  if_cert P leads (Ok (built.Cert cert)) says = leads cert says.1
  if_cert P leads (Ok (built.Fault fault)) says = tt
  if_cert P leads (Err stop) says = tt

  pub if_fault : (answer : Building) → BuildsFor faces m answer → IfFault answer (IsTrueOfMapFor faces m)
  if_fault (Ok (built.Cert cert)) says = tt
  if_fault (Ok (built.Fault fault)) says = says
  if_fault (Err stop) says = tt

  pub built_exactly : (answer : Building) → BuildsFor faces m answer → IfOk answer (λ b. HasCert b ↔ IsSoundFor faces m)
  built_exactly (Ok (built.Cert cert)) says = ((λ said. says.0), (λ sound. tt))
  built_exactly (Ok (built.Fault fault)) says = ((λ said. absurd said), (λ sound. absurd (not_sound faces m fault says sound)))
  built_exactly (Err stop) says = tt

-- ---- one fault, or none

pub none_told : (faults : List MapFault) → slice_get faults 0 ≡ None → faults ≡ []
none_told [] is = refl
none_told (f ∷ rest) is = absurd (let wrong : Some f ≡ None = is in cc)

pub first_told : (faces : Bool) (m : TheMap) (faults : List MapFault) → IsOneIfAny faces m faults → (f : MapFault) → slice_get faults 0 ≡ Some f → IsTrueOfMapFor faces m f
first_told faces m [] told f is = absurd (let wrong : None ≡ Some f = is in cc)
first_told faces m (g ∷ []) told f is = let same : g ≡ f = (let e : Some g ≡ Some f = is in cc) in subst (IsTrueOfMapFor faces m) same told
first_told faces m (g ∷ h ∷ rest) told f is = absurd told

-- ---- what is so of another thing

pub sound_leads : (answer : Auditing) (P Q : Type 0) → OnSound answer P → (P → Q) → OnSound answer Q
sound_leads (Ok (audit.Sound report)) P Q p so = so p
sound_leads (Ok (audit.Fault fault)) P Q p so = tt
sound_leads (Err stop) P Q p so = tt

pub faulty_leads : (answer : Auditing) (P Q : MapFault → Type 0) → IfFaulty answer P → ((fault : MapFault) → P fault → Q fault) → IfFaulty answer Q
faulty_leads (Ok (audit.Sound report)) P Q p so = tt
faulty_leads (Ok (audit.Fault fault)) P Q p so = so fault p
faulty_leads (Err stop) P Q p so = tt

pub audit_leads : (answer : Auditing) (P Q : Audit → Type 0) → IfOk answer P → ((a : Audit) → P a → Q a) → IfOk answer Q
audit_leads (Ok a) P Q p so = so a p
audit_leads (Err stop) P Q p so = tt

pub cert_leads : (answer : Building) (P Q : Type 0) → OnCert answer P → (P → Q) → OnCert answer Q
cert_leads (Ok (built.Cert cert)) P Q p so = so p
cert_leads (Ok (built.Fault fault)) P Q p so = tt
cert_leads (Err stop) P Q p so = tt

pub fault_leads : (answer : Building) (P Q : MapFault → Type 0) → IfFault answer P → ((fault : MapFault) → P fault → Q fault) → IfFault answer Q
fault_leads (Ok (built.Cert cert)) P Q p so = tt
fault_leads (Ok (built.Fault fault)) P Q p so = so fault p
fault_leads (Err stop) P Q p so = tt

pub built_leads : (answer : Building) (P Q : Built → Type 0) → IfOk answer P → ((b : Built) → P b → Q b) → IfOk answer Q
built_leads (Ok b) P Q p so = so b p
built_leads (Err stop) P Q p so = tt

-- so are the maps of records
pub have_alone : (all : AllRecords) → HaveMap all (IsSoundFor false) → HaveMap all IsSound
have_alone all = weaker all (IsSoundFor false) IsSound (λ m so. so.sound)

pub have_for : (all : AllRecords) → HaveMap all IsSound → HaveMap all (IsSoundFor false)
have_for all = weaker all IsSound (IsSoundFor false) sound_alone
