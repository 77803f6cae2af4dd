-- What is said of a map beside the text of a certificate.
use Rattle.std.specs.Prelude.{◌≡◌, ℕ, List, ◌∷◌, ◌++◌, Option, ⊤}
use Rattle.std.specs.Option.{IfSome}
use Rattle.tl_record.specs.Lines.{joined_lines}
use Rattle.tl_map_county.specs.TheMap.{TheMap}
use Rattle.tl_check_planar.specs.Planar.{IsPlanar}
use Rattle.tl_check_planar.specs.Searching.{AreBeyond}
use Rattle.tl_cert.specs.Certificates.{TheCertificate, IsCertificate}
use Rattle.tl_cert.specs.Text.{head_line, counts_line, tree_lines}
use Rattle.tl_cert.specs.Beginnings.{IsTextOf, IsRefused}
use Rattle.tl_check_verdict.specs.declared.fault.CertFault.{CertFault}
use Rattle.tl_check_verdict.specs.declared.fault.CertFault.TheVariants.{Text}
use Rattle.tl_cert_output.specs.declared.stop.Stop.{Stop}
use Rattle.tl_cert_output.specs.declared.stop.Stop.TheVariants.{Record, Memory, Device, Budget}
use Rattle.tl_check_verdict.specs.Valid.{AllowsSearch, IsValid}
use Rattle.tl_check_verdict.specs.Truth.{IsTrueOfCert}

-- the text is that of a certificate that is valid for the map
abbrev pub IsValidText : TheMap → List ℕ → Type 0
IsValidText m text = (c : TheCertificate) × IsTextOf c text × IsValid m c

-- where it is known, the text is such a one
abbrev pub IsValidWhereKnown : Option (List ℕ) → TheMap → Type 0
IsValidWhereKnown text m = IfSome text (IsValidText m)

-- the lines with which the text of a certificate begins: its head, its counts and its tree
abbrev pub leading_text : TheCertificate → List ℕ
leading_text c = joined_lines (head_line c.version ∷ counts_line c.counts ∷ tree_lines c.version c.tree)

-- a search may be made by the text: it begins with the counts and the tree of a certificate that allows it
pub record TextAllowsSearch (m : TheMap) (text : List ℕ) : Type 0 where
  pub certificate : TheCertificate
  pub is_one : IsCertificate certificate
  pub rest : List ℕ
  pub begins : text ≡ leading_text certificate ++ rest
  pub allows : AllowsSearch m certificate

-- where the text is known, a search may be made by it
abbrev pub AllowsSearchWhereKnown : Option (List ℕ) → TheMap → Type 0
AllowsSearchWhereKnown text m = IfSome text (TextAllowsSearch m)

-- where the text is known, the map's chains are planar if a search may be made by it
abbrev pub IsPlanarWhereAllowed : Option (List ℕ) → TheMap → Type 0
IsPlanarWhereAllowed text m = IfSome text (λ known. TextAllowsSearch m known → IsPlanar m.chains)

-- what a fault says of a text beside a map: no certificate has it, and this is the line; or it is the text of a certificate
-- of which the fault is true
abbrev pub IsTrueOfText : TheMap → List ℕ → CertFault → Type 0
IsTrueOfText m text (Text line) = IsRefused text line
IsTrueOfText m text fault = (c : TheCertificate) × IsTextOf c text × IsTrueOfCert m c fault

-- what it says of the text where that is known
abbrev pub IsTrueWhereKnown : Option (List ℕ) → TheMap → CertFault → Type 0
IsTrueWhereKnown text m fault = IfSome text (λ known. IsTrueOfText m known fault)

-- why a map isn't decided by a text: memory was refused, a read failed, or more pairs of its segments than the budget have
-- rectangles that meet, and as many of these as the budget don't conflict
abbrev pub MayStopReading : TheMap → ℕ → Stop → Type 0
MayStopReading m budget (Record line cause) = ⊥
MayStopReading m budget Memory = ⊤
MayStopReading m budget Device = ⊤
MayStopReading m budget Budget = AreBeyond m.chains budget
