-- What is answered: which text, with which status, and what is true then.
--
-- `known` is the text of the record files, where it is known, and `spelt` that of the certificate that is read; `w` is what became of
-- files, and `name` that of the one that is made.
use Rattle.std.specs.Prelude.{◌≡◌, ◌⊎◌, ℕ, List, Option, Some, IfSome, Result, Ok, Err, length, ⊤}
use Rattle.tl_record.specs.declared.layout.Layout.{Layout}
use Rattle.tl_record.specs.declared.options.Options.{Options}
use Rattle.tl_record.specs.Records.{records_of}
use Rattle.tl_geom.specs.declared.point.Point.{Point}
use Rattle.tl_map_county.specs.Chains.{ChainList}
use Rattle.tl_map_county.specs.TheMap.{TheMap}
use Rattle.tl_map_rules.specs.declared.fault.RecordFault.{RecordFault}
use Rattle.tl_map_rules.specs.Faults.{IsFaultOfChains}
use Rattle.tl_map_rules.specs.Reading.{AreReadFrom}
use Rattle.tl_check_inside.specs.declared.place.Place.{Place as ThePlace}
use Rattle.tl_check_inside.specs.Places.{IsPlaceOf}
use Rattle.tl_cert_output.specs.Writing.{line_of}
use Rattle.tigertopo_program.specs.Print.Printing.{shown_text, listing_text}
use Rattle.tl_cert.specs.Certificates.{TheCertificate, IsCertificate}
use Rattle.tl_cert.specs.Text.{certificate_text}
use Rattle.tl_cert.specs.Beginnings.{IsTextOf, IsRefused}
use Rattle.tl_check_verdict.specs.declared.fault.MapFault.{MapFault}
use Rattle.tl_check_verdict.specs.declared.fault.CertFault.{CertFault}
use Rattle.tl_check_verdict.specs.declared.fault.CertFault.TheVariants as cert_fault
use Rattle.tl_check_verdict.specs.declared.verdict.Verdict.{Verdict as TheVerdict}
use Rattle.tl_check_verdict.specs.Messages.{map_fault_text, cert_fault_text}
use Rattle.tigertopo_files.specs.Files.{StandsUnder}
use Rattle.tigertopo_files.specs.World.{World, Unmade}
use Rattle.tigertopo_program.specs.declared.answer.Converted.{Converted}
use Rattle.tigertopo_program.specs.declared.answer.Answer.{Answer}
use Rattle.tigertopo_program.specs.declared.answer.Answer.TheVariants.{Converted as Conversion}
use Rattle.tigertopo_program.specs.Texts.{answer_text, answer_status, verdict_text, verdict_status, counts_text}
use Rattle.tigertopo_program.specs.Places.{place_text}
use Rattle.tigertopo_program.specs.Records.{IsOfRecords, IsMapOf, IsAudited, IsChecked}

-- what holds of a status and a text holds of an answer
abbrev pub IsSaid : (ℕ → List ℕ → Type 0) → Answer → Type 0
IsSaid answers answer = answers (answer_status answer) (answer_text answer)

-- this is answered, and this text stands under the name
pub record AnswersBeside (w : World) (name text : List ℕ) (answer told : Answer) : Type 0 where
  pub is : told ≡ answer
  pub kept : StandsUnder w.after name text

-- with the status 1 the line of a fault of the records, of those that are sought, which they have
pub record TellsRecordFault (layout : Layout) (known : Option (List ℕ)) (sought : RecordFault → Type 0) (status : ℕ) (text : List ℕ) : Type 0 where
  pub fault : MapFault
  pub of : IsOfRecords layout known sought fault
  pub is : status ≡ 1
  pub line : text ≡ line_of (map_fault_text fault)

-- with the status 0 the lines of chains, and their counts: those that the records draw, where no line is refused and no fault of the
-- chains is true
pub record TellsChains (layout : Layout) (known : Option (List ℕ)) (status : ℕ) (text : List ℕ) : Type 0 where
  pub list : ChainList
  pub drawn : IfSome known (λ text. AreReadFrom (records_of layout text) list)
  pub is : status ≡ 0
  pub lines : text ≡ shown_text list

-- with the status 0 the lines of landmarks, and their number: those of the map that the records draw
pub record TellsLandmarks (layout : Layout) (known : Option (List ℕ)) (status : ℕ) (text : List ℕ) : Type 0 where
  pub map : TheMap
  pub drawn : IsMapOf layout known map
  pub is : status ≡ 0
  pub lines : text ≡ listing_text map

-- with the status 0 the line of a place: where the point lies in the map that the records draw
pub record TellsPlace (layout : Layout) (point : Point) (known : Option (List ℕ)) (status : ℕ) (text : List ℕ) : Type 0 where
  pub map : TheMap
  pub place : ThePlace
  pub lies : IsPlaceOf map point place
  pub drawn : IsMapOf layout known map
  pub is : status ≡ 0
  pub line : text ≡ place_text map place

-- what `show` answers
abbrev pub ShowAnswers : Layout → Option (List ℕ) → ℕ → List ℕ → Type 0
ShowAnswers layout known status text = TellsChains layout known status text ⊎ TellsRecordFault layout known IsFaultOfChains status text

-- what `landmarks` answers
abbrev pub LandmarksAnswers : Layout → Option (List ℕ) → ℕ → List ℕ → Type 0
LandmarksAnswers layout known status text = TellsLandmarks layout known status text ⊎ TellsRecordFault layout known (λ fault. ⊤) status text

-- what `locate` answers
abbrev pub LocateAnswers : Layout → Point → Option (List ℕ) → ℕ → List ℕ → Type 0
LocateAnswers layout point known status text = TellsPlace layout point known status text ⊎ TellsRecordFault layout known (λ fault. ⊤) status text

-- the line of a verdict that is so, with its status
pub record TellsVerdict (is_so : TheVerdict → Type 0) (status : ℕ) (text : List ℕ) : Type 0 where
  pub verdict : TheVerdict
  pub so : is_so verdict
  pub is : status ≡ verdict_status verdict
  pub line : text ≡ line_of (verdict_text verdict)

-- what `audit` answers where it is asked for one line, and what `check` answers
abbrev pub AuditAnswers : Options → Option (List ℕ) → ℕ → List ℕ → Type 0
AuditAnswers options known = TellsVerdict (IsAudited options known)

abbrev pub CheckAnswers : Options → (budget : ℕ) → (known spelt : Option (List ℕ)) → ℕ → List ℕ → Type 0
CheckAnswers options budget known spelt = TellsVerdict (IsChecked options budget known spelt)

-- the certificate of a text, or the line that no certificate has
abbrev pub IsReadCertificate : (spelt : Option (List ℕ)) → Result TheCertificate CertFault → Type 0
IsReadCertificate spelt (Ok certificate) = IsCertificate certificate × IfSome spelt (IsTextOf certificate)
IsReadCertificate spelt (Err fault) = (number : ℕ) × (fault ≡ cert_fault.Text number) × IfSome spelt (λ held. IsRefused held number)

-- the counts of a certificate
abbrev pub counts_of : TheCertificate → Converted
counts_of c = record { nodes = length c.tree; rounds = length c.rounds; walks = length c.walks }

-- the line of a conversion was answered, and the text of this certificate stands under the name
pub record IsConversionOf (w : World) (name : List ℕ) (c : TheCertificate) (answer : Answer) : Type 0 where
  pub is : answer ≡ Conversion (counts_of c)
  pub kept : StandsUnder w.after name (certificate_text c)

-- with the status 0 the line of a conversion; the text of the certificate that was read stands under the name, in version 2
pub record TellsConversion (w : World) (spelt : Option (List ℕ)) (name : List ℕ) (status : ℕ) (text : List ℕ) : Type 0 where
  pub certificate : TheCertificate
  pub certifies : IsCertificate certificate
  pub read : IfSome spelt (IsTextOf certificate)
  pub kept : StandsUnder w.after name (certificate_text (record certificate { version = 2 }))
  pub is : status ≡ 0
  pub line : text ≡ line_of (counts_text (length certificate.tree) (length certificate.rounds) (length certificate.walks))

-- with the status 2 the line that no certificate has; no file was made
pub record TellsBadLine (w : World) (spelt : Option (List ℕ)) (name : List ℕ) (status : ℕ) (text : List ℕ) : Type 0 where
  pub number : ℕ
  pub refused : IfSome spelt (λ held. IsRefused held number)
  pub unmade : Unmade w (Some name)
  pub is : status ≡ 2
  pub line : text ≡ line_of (cert_fault_text (cert_fault.Text number))

-- what `convert` answers
abbrev pub ConvertAnswers : World → (spelt : Option (List ℕ)) → (name : List ℕ) → ℕ → List ℕ → Type 0
ConvertAnswers w spelt name status text = TellsConversion w spelt name status text ⊎ TellsBadLine w spelt name status text

-- the map of the records, or the fault of records that have none
abbrev pub IsReadMap : Layout → Option (List ℕ) → Result TheMap MapFault → Type 0
IsReadMap layout known (Ok map) = IsMapOf layout known map
IsReadMap layout known (Err fault) = IsOfRecords layout known (λ fault. ⊤) fault
