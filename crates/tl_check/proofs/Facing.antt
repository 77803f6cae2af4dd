-- What an answer in which faces take part keeps of one in which they don't.
use Rattle.std.proofs.Common.{◌≡◌, ℕ, Bool, IsTrue, false, Ok, Err, Option, Some, None, refl, sym, subst}
use Rattle.std.specs.Prelude.{IfErr}
use Rattle.tl_map_county.specs.TheMap.{TheMap}
use Rattle.tl_check_verdict.specs.declared.fault.MapFault.{MapFault}
use Rattle.tl_check_verdict.specs.declared.fault.MapFault.TheVariants.{Records, NoRecords, Meet, Side, PolygonPoint, Cell, Face}
use Rattle.tl_check_verdict.specs.declared.fault.CertFault.{CertFault}
use Rattle.tl_check_verdict.specs.declared.verdict.Report.{Report}
use Rattle.tl_check_verdict.specs.declared.verdict.Verdict.TheVariants as verdict
use Rattle.tl_cert_output.specs.declared.stop.Stop.{Stop}
use Rattle.tl_check_verdict.specs.Sound.{IsSound, IsSoundFor}
use Rattle.tl_check_verdict.specs.Truth.{IsTrueOfMap, IsTrueOfMapFor}
use Rattle.tl_check_verdict.specs.Verdicts.{Answer, OnSound, OnSoundButFaces, IfSound, IfMapFault, IfCertFault, UnlessMeet, OnSearched}
use Rattle.tl_cert_output.specs.Stops.{TellsDevice}
use Rattle.tl_check_faces.specs.Crossings.Headings.{AreProper}
use Rattle.tl_check_faces.specs.declared.fault.FaceFault.{FaceFault}
use Rattle.tl_check_faces.specs.Facing.{FacesAgree}
use Rattle.tl_check_faces.specs.Faults.{IsTrueFaceFault}
use Rattle.tl_check_verdict.proofs.Denials.{true_still, true_alone}
use Rattle.tl_check_verdict.proofs.Asked.{keeps, disagrees}
use Rattle.tl_check.specs.Keeping.Faces.{IsOfFaces, IsFacing, IsWithFaces, verdict_of}
use Rattle.tl_check.specs.Keeping.Read.{IsDecision}

-- what is so of another thing
pub sound_so : (answer : Answer) (P Q : Type 0) → OnSound answer P → (P → Q) → OnSound answer Q
sound_so (Ok (verdict.Sound report)) P Q p so = so p
sound_so (Ok (verdict.MapFault fault)) P Q p so = tt
sound_so (Ok (verdict.CertFault fault)) P Q p so = tt
sound_so (Err why) P Q p so = tt

pub fault_so : (answer : Answer) (P Q : MapFault → Type 0) → IfMapFault answer P → ((fault : MapFault) → P fault → Q fault) → IfMapFault answer Q
fault_so (Ok (verdict.Sound report)) P Q p so = tt
fault_so (Ok (verdict.MapFault fault)) P Q p so = so fault p
fault_so (Ok (verdict.CertFault fault)) P Q p so = tt
fault_so (Err why) P Q p so = tt

-- what is decided by the faces that were found, if any were
pub by_found : (faces : Bool) (m : TheMap) (report : Report) → IsTrue faces → IsSound m → AreProper m.chains → (found : Option FaceFault) → (found ≡ None → FacesAgree m.chains)
    → ((fault : FaceFault) → found ≡ Some fault → IsTrueFaceFault m fault) → IsFacing faces m report (verdict_of report found)
by_found faces m report asked sound proper (Some fault) agree disagree = (tt, disagrees faces m fault asked sound proper (disagree fault refl))
by_found faces m report asked sound proper None agree disagree = (refl, keeps faces m sound (λ a. agree refl))

-- a sound map where no faces are asked for
pub alone : (m : TheMap) → IsSound m → IsSoundFor false m
alone m sound = record { sound = sound; facing = λ asked. absurd (cc) }

-- ---- an answer that is of faces

module _ (P : Type 0) (p : P) where
  of_faces_but : (fault : MapFault) → IsOfFaces fault → OnSoundButFaces (Ok (verdict.MapFault fault)) P
  of_faces_but (Records fault) is = absurd is
  of_faces_but (NoRecords lacking) is = absurd is
  of_faces_but (Meet meet) is = absurd is
  of_faces_but (Side node first next) is = absurd is
  of_faces_but (PolygonPoint fault) is = absurd is
  of_faces_but (Cell odds) is = absurd is
  of_faces_but (Face fault) is = p

  of_faces_meets : (fault : MapFault) → IsOfFaces fault → UnlessMeet (Ok (verdict.MapFault fault)) P
  of_faces_meets (Records fault) is = absurd is
  of_faces_meets (NoRecords lacking) is = absurd is
  of_faces_meets (Meet meet) is = absurd is
  of_faces_meets (Side node first next) is = absurd is
  of_faces_meets (PolygonPoint fault) is = absurd is
  of_faces_meets (Cell odds) is = absurd is
  of_faces_meets (Face fault) is = p

of_faces_searched : (P : Type 0) (fault : MapFault) → IsOfFaces fault → OnSearched (Ok (verdict.MapFault fault)) P
of_faces_searched P (Records fault) is = absurd is
of_faces_searched P (NoRecords lacking) is = absurd is
of_faces_searched P (Meet meet) is = absurd is
of_faces_searched P (Side node first next) is = absurd is
of_faces_searched P (PolygonPoint fault) is = absurd is
of_faces_searched P (Cell odds) is = absurd is
of_faces_searched P (Face fault) is = tt

-- one that is true without faces isn't of faces
not_of_faces : (P : Type 0) (m : TheMap) (fault : MapFault) → IsTrueOfMap m fault → OnSoundButFaces (Ok (verdict.MapFault fault)) P
not_of_faces P m (Records fault) true = tt
not_of_faces P m (NoRecords lacking) true = tt
not_of_faces P m (Meet meet) true = tt
not_of_faces P m (Side node first next) true = tt
not_of_faces P m (PolygonPoint fault) true = tt
not_of_faces P m (Cell odds) true = tt
not_of_faces P m (Face fault) true = absurd true

-- ---- what holds of the answer

module _ (faces : Bool) (m : TheMap) where
  sound : (check answer : Answer) → IsWithFaces faces m check answer → OnSound answer (IsSoundFor faces m)
  sound (Ok (verdict.Sound report)) (Ok (verdict.Sound told)) is = is.1
  sound (Ok (verdict.Sound report)) (Ok (verdict.MapFault fault)) is = tt
  sound (Ok (verdict.Sound report)) (Ok (verdict.CertFault fault)) is = tt
  sound (Ok (verdict.Sound report)) (Err why) is = absurd is
  sound (Ok (verdict.MapFault fault)) answer is = subst (λ a. OnSound a (IsSoundFor faces m)) (sym is) tt
  sound (Ok (verdict.CertFault fault)) answer is = subst (λ a. OnSound a (IsSoundFor faces m)) (sym is) tt
  sound (Err why) answer is = subst (λ a. OnSound a (IsSoundFor faces m)) (sym is) tt

  but_faces : (P : Type 0) (check answer : Answer) → IsWithFaces faces m check answer → IfMapFault check (IsTrueOfMap m) → OnSoundButFaces check P
      → OnSoundButFaces answer P
  but_faces P (Ok (verdict.Sound report)) (Ok (verdict.Sound told)) is true p = p
  but_faces P (Ok (verdict.Sound report)) (Ok (verdict.MapFault fault)) is true p = of_faces_but P p fault is.0
  but_faces P (Ok (verdict.Sound report)) (Ok (verdict.CertFault fault)) is true p = tt
  but_faces P (Ok (verdict.Sound report)) (Err why) is true p = absurd is
  but_faces P (Ok (verdict.MapFault fault)) answer is true p = subst (λ a. OnSoundButFaces a P) (sym is) (not_of_faces P m fault true)
  but_faces P (Ok (verdict.CertFault fault)) answer is true p = subst (λ a. OnSoundButFaces a P) (sym is) tt
  but_faces P (Err why) answer is true p = subst (λ a. OnSoundButFaces a P) (sym is) tt

  reported : (P : Report → Type 0) (check answer : Answer) → IsWithFaces faces m check answer → IfSound check P → IfSound answer P
  reported P (Ok (verdict.Sound report)) (Ok (verdict.Sound told)) is p = subst P (sym is.0) p
  reported P (Ok (verdict.Sound report)) (Ok (verdict.MapFault fault)) is p = tt
  reported P (Ok (verdict.Sound report)) (Ok (verdict.CertFault fault)) is p = tt
  reported P (Ok (verdict.Sound report)) (Err why) is p = absurd is
  reported P (Ok (verdict.MapFault fault)) answer is p = subst (λ a. IfSound a P) (sym is) tt
  reported P (Ok (verdict.CertFault fault)) answer is p = subst (λ a. IfSound a P) (sym is) tt
  reported P (Err why) answer is p = subst (λ a. IfSound a P) (sym is) tt

  map_fault : (check answer : Answer) → IsWithFaces faces m check answer → IfMapFault check (IsTrueOfMap m) → IfMapFault answer (IsTrueOfMapFor faces m)
  map_fault (Ok (verdict.Sound report)) (Ok (verdict.Sound told)) is true = tt
  map_fault (Ok (verdict.Sound report)) (Ok (verdict.MapFault fault)) is true = is.1
  map_fault (Ok (verdict.Sound report)) (Ok (verdict.CertFault fault)) is true = tt
  map_fault (Ok (verdict.Sound report)) (Err why) is true = absurd is
  map_fault (Ok (verdict.MapFault fault)) answer is true = subst (λ a. IfMapFault a (IsTrueOfMapFor faces m)) (sym is) (true_still faces m fault true)
  map_fault (Ok (verdict.CertFault fault)) answer is true = subst (λ a. IfMapFault a (IsTrueOfMapFor faces m)) (sym is) tt
  map_fault (Err why) answer is true = subst (λ a. IfMapFault a (IsTrueOfMapFor faces m)) (sym is) tt

  cert_fault : (P : CertFault → Type 0) (check answer : Answer) → IsWithFaces faces m check answer → IfCertFault check P → IfCertFault answer P
  cert_fault P (Ok (verdict.Sound report)) (Ok (verdict.Sound told)) is p = tt
  cert_fault P (Ok (verdict.Sound report)) (Ok (verdict.MapFault fault)) is p = tt
  cert_fault P (Ok (verdict.Sound report)) (Ok (verdict.CertFault fault)) is p = absurd is
  cert_fault P (Ok (verdict.Sound report)) (Err why) is p = absurd is
  cert_fault P (Ok (verdict.MapFault fault)) answer is p = subst (λ a. IfCertFault a P) (sym is) tt
  cert_fault P (Ok (verdict.CertFault fault)) answer is p = subst (λ a. IfCertFault a P) (sym is) p
  cert_fault P (Err why) answer is p = subst (λ a. IfCertFault a P) (sym is) tt

  meets : (P : Type 0) (check answer : Answer) → IsWithFaces faces m check answer → UnlessMeet check P → UnlessMeet answer P
  meets P (Ok (verdict.Sound report)) (Ok (verdict.Sound told)) is p = p
  meets P (Ok (verdict.Sound report)) (Ok (verdict.MapFault fault)) is p = of_faces_meets P p fault is.0
  meets P (Ok (verdict.Sound report)) (Ok (verdict.CertFault fault)) is p = p
  meets P (Ok (verdict.Sound report)) (Err why) is p = absurd is
  meets P (Ok (verdict.MapFault fault)) answer is p = subst (λ a. UnlessMeet a P) (sym is) p
  meets P (Ok (verdict.CertFault fault)) answer is p = subst (λ a. UnlessMeet a P) (sym is) p
  meets P (Err why) answer is p = subst (λ a. UnlessMeet a P) (sym is) tt

  searched : (P : Type 0) (check answer : Answer) → IsWithFaces faces m check answer → OnSearched check P → OnSearched answer P
  searched P (Ok (verdict.Sound report)) (Ok (verdict.Sound told)) is p = tt
  searched P (Ok (verdict.Sound report)) (Ok (verdict.MapFault fault)) is p = of_faces_searched P fault is.0
  searched P (Ok (verdict.Sound report)) (Ok (verdict.CertFault fault)) is p = tt
  searched P (Ok (verdict.Sound report)) (Err why) is p = absurd is
  searched P (Ok (verdict.MapFault fault)) answer is p = subst (λ a. OnSearched a P) (sym is) p
  searched P (Ok (verdict.CertFault fault)) answer is p = subst (λ a. OnSearched a P) (sym is) tt
  searched P (Err why) answer is p = subst (λ a. OnSearched a P) (sym is) p

  stopped : (P : Stop → Type 0) → (check answer : Answer) → IsWithFaces faces m check answer → IfErr check P → IfErr answer P
  stopped P (Ok (verdict.Sound report)) (Ok v) is p = tt
  stopped P (Ok (verdict.Sound report)) (Err why) is p = absurd is
  stopped P (Ok (verdict.MapFault fault)) answer is p = subst (λ a. IfErr a P) (sym is) tt
  stopped P (Ok (verdict.CertFault fault)) answer is p = subst (λ a. IfErr a P) (sym is) tt
  stopped P (Err why) answer is p = subst (λ a. IfErr a P) (sym is) p

  pub told : (old new : ℕ) (check answer : Answer) → IsWithFaces faces m check answer → TellsDevice old new check → TellsDevice old new answer
  told old new (Ok (verdict.Sound report)) (Ok v) is p = p
  told old new (Ok (verdict.Sound report)) (Err why) is p = absurd is
  told old new (Ok (verdict.MapFault fault)) answer is p = subst (TellsDevice old new) (sym is) p
  told old new (Ok (verdict.CertFault fault)) answer is p = subst (TellsDevice old new) (sym is) p
  told old new (Err why) answer is p = subst (TellsDevice old new) (sym is) p

-- all of it
module _ (faces : Bool) (m : TheMap) (budget : ℕ) (valid : Type 0) (faulty : CertFault → Type 0) (allows met : Type 0) (why : Stop → Type 0)
    (check answer : Answer) (is : IsWithFaces faces m check answer) where
  pub decided : IsDecision m false budget valid faulty allows met why check → IsDecision m faces budget valid faulty allows met why answer
  decided so = let alone_true = fault_so check _ (IsTrueOfMap m) so.map_fault (true_alone m) in record {
    sound = sound faces m check answer is;
    is_valid = but_faces faces m valid check answer is alone_true so.is_valid;
    within = but_faces faces m _ check answer is alone_true so.within;
    report = reported faces m _ check answer is so.report;
    map_fault = map_fault faces m check answer is alone_true;
    cert_fault = cert_fault faces m faulty check answer is so.cert_fault;
    behind = cert_fault faces m _ check answer is so.behind;
    meets = meets faces m met check answer is so.meets;
    searched = searched faces m allows check answer is so.searched;
    stops = stopped faces m why check answer is so.stops;
  }

-- what holds where the map is sound holds but for its faces
pub but : (m : TheMap) (P : Type 0) (answer : Answer) → IfMapFault answer (IsTrueOfMap m) → OnSound answer P → OnSoundButFaces answer P
but m P (Ok (verdict.Sound report)) true p = p
but m P (Ok (verdict.MapFault fault)) true p = not_of_faces P m fault true
but m P (Ok (verdict.CertFault fault)) true p = tt
but m P (Err why) true p = tt
