-- What is answered where a certificate is made.
--
-- `w` is what became of files, `name` that of the certificate, and `known` the text of the records, where it is known.
use Rattle.std.specs.Prelude.{◌≡◌, ◌⊎◌, ℕ, Bool, List, ◌++◌, Option, Some, codes}
use Rattle.tl_record.specs.declared.options.Options.{Options}
use Rattle.tl_record.specs.Layout.{layout_with}
use Rattle.tl_record.specs.Records.{records_of}
use Rattle.tl_map_county.specs.TheMap.{TheMap}
use Rattle.tl_cert_output.specs.Writing.{line_of}
use Rattle.tigertopo_files.specs.Files.{StandsUnder}
use Rattle.tigertopo_files.specs.World.{World, Unmade}
use Rattle.tl_cert.specs.Certificates.{TheCertificate, IsCertificate}
use Rattle.tl_cert.specs.Text.{certificate_text}
use Rattle.tl_check_verdict.specs.declared.fault.MapFault.{MapFault as TheMapFault}
use Rattle.tl_check_verdict.specs.declared.verdict.Report.{Report}
use Rattle.tl_check_verdict.specs.declared.verdict.Verdict.TheVariants.{MapFault}
use Rattle.tl_check_verdict.specs.Messages.{report_text, map_fault_text}
use Rattle.tl_check_verdict.specs.Records.{HaveMap}
use Rattle.tl_check_verdict.specs.Sound.{IsSoundFor}
use Rattle.tl_check_verdict.specs.Texts.{IsValidText}
use Rattle.tl_check_verdict.specs.Truth.{IsTrueOfMapFor}
use Rattle.tl_check_verdict.specs.Valid.{IsValid}
use Rattle.tigertopo_program.specs.declared.answer.Answer.TheVariants.{Built, Verdict}
use Rattle.tigertopo_program.specs.declared.answer.Answer.{Answer}
use Rattle.tigertopo_program.specs.Records.{IsMapOf, IsSoundWith, IsTrueFault}

-- the text of a certificate of version 2 that is valid for the map, which keeps what is asked of it, stands under the name, and the
-- report is the map's
pub record IsBuilt (w : World) (name : List ℕ) (faces : Bool) (m : TheMap) (report : Report) : Type 0 where
  pub certificate : TheCertificate
  pub certifies : IsCertificate certificate
  pub decided : IsSoundWith faces report m
  pub valid : IsValid m certificate
  pub version : certificate.version ≡ 2
  pub kept : StandsUnder w.after name (certificate_text certificate)

-- so a map is answered, by its line; or by that of a fault that is true of it, and then no file was made
abbrev pub IsBuildOf : World → (name : List ℕ) → (faces : Bool) → TheMap → Answer → Type 0
IsBuildOf w name faces m answer =
    ((report : Report) × IsBuilt w name faces m report × (answer ≡ Built report))
    ⊎ ((fault : TheMapFault) × IsTrueOfMapFor faces m fault × Unmade w (Some name) × (answer ≡ Verdict (MapFault fault)))

-- with the status 0 the line of a certificate that was made of the records' map
pub record TellsBuilt (w : World) (options : Options) (known : Option (List ℕ)) (name : List ℕ) (status : ℕ) (text : List ℕ) : Type 0 where
  pub map : TheMap
  pub drawn : IsMapOf (layout_with options) known map
  pub report : Report
  pub built : IsBuilt w name options.faces map report
  pub is : status ≡ 0
  pub line : text ≡ line_of (codes "built " ++ report_text report)

-- with the status 1 the line of a fault that is true of the records or of their map; no file was made
pub record TellsFault (w : World) (options : Options) (known : Option (List ℕ)) (name : List ℕ) (status : ℕ) (text : List ℕ) : Type 0 where
  pub fault : TheMapFault
  pub holds : IsTrueFault options known fault
  pub unmade : Unmade w (Some name)
  pub is : status ≡ 1
  pub line : text ≡ line_of (map_fault_text fault)

-- what `build` answers
abbrev pub BuildAnswers : World → Options → (known : Option (List ℕ)) → (name : List ℕ) → ℕ → List ℕ → Type 0
BuildAnswers w options known name status text = TellsBuilt w options known name status text ⊎ TellsFault w options known name status text

-- the records of a text have a map that keeps what is asked of it, and the other text is that of a certificate that is valid for it
pub record AreSoundWith (options : Options) (text spelt : List ℕ) : Type 0 where
  pub sound : HaveMap (records_of (layout_with options) text) (IsSoundFor options.faces)
  pub valid : HaveMap (records_of (layout_with options) text) (λ m. IsValidText m spelt)
