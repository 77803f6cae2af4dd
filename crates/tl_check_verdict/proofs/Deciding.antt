-- What is answered of records whose map is sound, and of the text of a certificate that is valid for it.
use Rattle.std.proofs.Common.{◌≡◌, ◌↔◌, ℕ, Bool, IsTrue, List, Ok, Err, sym, subst, ◌∙◌}
use Rattle.std.specs.Result.{IfOk, IfErr}
use Rattle.tl_record.specs.Records.{Records as AllRecords}
use Rattle.tl_map_county.specs.TheMap.{TheMap}
use Rattle.tl_check_planar.specs.Planar.{IsPlanar}
use Rattle.tl_check_planar.specs.Searching.{AreBeyond}
use Rattle.tl_check_sides.specs.Sides.{SidesAgree}
use Rattle.tl_check_inside.specs.Placed.{ArePlaced}
use Rattle.tl_check_sides.specs.Cells.Cells.{CellsAgree}
use Rattle.tl_check_faces.specs.Truth.{AreFacesTrue}
use Rattle.tl_cert.specs.Certificates.{TheCertificate}
use Rattle.tl_cert.specs.Beginnings.{IsTextOf}
use Rattle.tl_cert.proofs.OneText.{one_by_text}
use Rattle.tl_check_verdict.specs.declared.fault.MapFault.{MapFault}
use Rattle.tl_check_verdict.specs.declared.fault.MapFault.TheVariants.{Records, NoRecords, Meet, Side, PolygonPoint, Cell, Face}
use Rattle.tl_check_verdict.specs.declared.fault.CertFault.{CertFault}
use Rattle.tl_check_verdict.specs.declared.fault.CertFault.TheVariants.{Text, Counts, Tree, TooDeep, Round, Walk}
use Rattle.tl_check_verdict.specs.declared.verdict.Verdict.TheVariants as verdict
use Rattle.tl_cert_output.specs.declared.stop.Stop.TheVariants.{Record, Memory, Device, Budget}
use Rattle.tl_check_verdict.specs.Sound.{IsSoundFor, AreClosed}
use Rattle.tl_check_verdict.specs.Valid.{IsValid}
use Rattle.tl_check_verdict.specs.Truth.{IsTrueOfMapFor, IsTrueOfCert}
use Rattle.tl_check_verdict.specs.Texts.{IsValidText, IsTrueOfText}
use Rattle.tl_check_verdict.specs.Records.{HaveMap, IsTrueOfRecordsFor, MayStopOn}
use Rattle.tl_check_verdict.specs.Verdicts.{Answer, OnSound, IfMapFault, IfCertFault}
use Rattle.tl_check_verdict.specs.Deciding.{SaysSound, PassesOrStops}
use Rattle.tl_check_verdict.proofs.Denials.{not_sound, not_valid}
use Rattle.tl_check_verdict.proofs.OneMap.{both}

-- a fault of the records' map denies that what is asked of it is met
not_sound_map : (faces : Bool) (all : AllRecords) (f : MapFault) → HaveMap all (λ m. IsTrueOfMapFor faces m f) → ¬ HaveMap all (IsSoundFor faces)
not_sound_map faces all f true sound =
    let one = both all (λ m. IsTrueOfMapFor faces m f) (IsSoundFor faces) true sound in
    not_sound faces one.map f one.so.0 one.so.1

pub not_sound_records : (faces : Bool) (all : AllRecords) (f : MapFault) → IsTrueOfRecordsFor faces all f → ¬ HaveMap all (IsSoundFor faces)
not_sound_records faces all (Records f) true sound = sound.is_read.no_fault f true.1
not_sound_records faces all (NoRecords lacking) true sound =
    let none = sound.is_read.none_lacking in
    let same = true.1 in
    let some = true.2 in
    absurd (cc)
not_sound_records faces all (Meet meet) true sound = not_sound_map faces all (Meet meet) true sound
not_sound_records faces all (Side node first next) true sound = not_sound_map faces all (Side node first next) true sound
not_sound_records faces all (PolygonPoint fault) true sound = not_sound_map faces all (PolygonPoint fault) true sound
not_sound_records faces all (Cell odds) true sound = not_sound_map faces all (Cell odds) true sound
not_sound_records faces all (Face fault) true sound = not_sound_map faces all (Face fault) true sound

-- a text has one certificate, so a fault of it denies that it is valid
not_valid_one : (m : TheMap) (text : List ℕ) (f : CertFault) (c d : TheCertificate) → IsTextOf c text → IsTextOf d text → IsTrueOfCert m c f → IsValid m d → ⊥
not_valid_one m text f c d is other true valid =
    let same : c ≡ d = one_by_text c d is.certificate other.certificate (sym is.spelt ∙ other.spelt) in
    not_valid m d f (subst (λ e. IsTrueOfCert m e f) same true) valid

pub not_valid_text : (m : TheMap) (text : List ℕ) (f : CertFault) → IsTrueOfText m text f → ¬ IsValidText m text
not_valid_text m text (Text line) true valid = true.none valid.0 valid.1
not_valid_text m text Counts true valid = not_valid_one m text Counts true.0 valid.0 true.1 valid.1 true.2 valid.2
not_valid_text m text (Tree f) true valid = not_valid_one m text (Tree f) true.0 valid.0 true.1 valid.1 true.2 valid.2
not_valid_text m text TooDeep true valid = not_valid_one m text TooDeep true.0 valid.0 true.1 valid.1 true.2 valid.2
not_valid_text m text (Round f) true valid = not_valid_one m text (Round f) true.0 valid.0 true.1 valid.1 true.2 valid.2
not_valid_text m text (Walk f) true valid = not_valid_one m text (Walk f) true.0 valid.0 true.1 valid.1 true.2 valid.2

pub passes : (faces : Bool) (all : AllRecords) (spelt : List ℕ) (budget : ℕ) (answer : Answer) → HaveMap all (IsSoundFor faces)
    → HaveMap all (λ m. IsValidText m spelt) → IfMapFault answer (IsTrueOfRecordsFor faces all)
    → IfCertFault answer (λ f. HaveMap all (λ m. IsTrueOfText m spelt f)) → IfErr answer (MayStopOn all budget)
    → PassesOrStops (HaveMap all (λ m. AreBeyond m.chains budget)) answer
passes faces all spelt budget (Ok (verdict.Sound report)) sound valid map_fault cert_fault stops = tt
passes faces all spelt budget (Ok (verdict.MapFault f)) sound valid map_fault cert_fault stops = not_sound_records faces all f map_fault sound
passes faces all spelt budget (Ok (verdict.CertFault f)) sound valid map_fault cert_fault stops =
    let one = both all (λ m. IsTrueOfText m spelt f) (λ m. IsValidText m spelt) cert_fault valid in
    not_valid_text one.map spelt f one.so.0 one.so.1
passes faces all spelt budget (Err (Record line cause)) sound valid map_fault cert_fault stops = cc (sym sound.is_read.no_refusal ∙ stops)
passes faces all spelt budget (Err Memory) sound valid map_fault cert_fault stops = tt
passes faces all spelt budget (Err Device) sound valid map_fault cert_fault stops = tt
passes faces all spelt budget (Err Budget) sound valid map_fault cert_fault stops = stops

pub decides : (faces : Bool) (m : TheMap) (c : TheCertificate) (answer : Answer) → IsValid m c → OnSound answer (IsPlanar m.chains)
    → OnSound answer (SidesAgree m.chains) → OnSound answer (AreClosed m) → OnSound answer (ArePlaced m) → OnSound answer (CellsAgree m.chains)
    → OnSound answer (IsTrue faces → AreFacesTrue m.chains) → IfMapFault answer (IsTrueOfMapFor faces m)
    → IfCertFault answer (IsTrueOfCert m c) → IfOk answer (λ v. SaysSound v ↔ IsSoundFor faces m)
decides faces m c (Ok (verdict.Sound report)) valid planar sides closed points cells facing map_fault cert_fault = (
  (λ said. record {
    sound = record { planar = planar; sides = sides; closed = closed; points = points; cells = cells };
    facing = facing;
  }),
  (λ is. tt),
)
decides faces m c (Ok (verdict.MapFault f)) valid planar sides closed points cells facing map_fault cert_fault =
    (λ said. absurd said, λ is. not_sound faces m f map_fault is)
decides faces m c (Ok (verdict.CertFault f)) valid planar sides closed points cells facing map_fault cert_fault =
    absurd (not_valid m c f cert_fault valid)
decides faces m c (Err stop) valid planar sides closed points cells facing map_fault cert_fault = tt
