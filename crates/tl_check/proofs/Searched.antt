-- Answers that come of the search or behind it, and those that don't.
use Rattle.std.proofs.Common.{ℕ, List, Option, None, Some, Ok, Err}
use Rattle.std.specs.Option.{IfSome}
use Rattle.tl_map_county.specs.TheMap.{TheMap}
use Rattle.tl_cert.specs.declared.place.NextPart.TheVariants.{Treed}
use Rattle.tl_cert.specs.declared.reader.CertReader.{CertReader}
use Rattle.tl_cert.specs.declared.stop.CertStop.{CertStop}
use Rattle.tl_cert.specs.declared.stop.CertStop.TheVariants as cert
use Rattle.tl_cert.specs.Certificates.{TheCertificate, IsCertificate}
use Rattle.tl_cert.specs.Reading.{unread}
use Rattle.tl_cert.specs.Keeping.Collecting.{Collects, Follows}
use Rattle.tl_check_verdict.specs.declared.fault.MapFault.{MapFault}
use Rattle.tl_check_verdict.specs.declared.fault.MapFault.TheVariants.{Records, NoRecords, Meet, Side, PolygonPoint, Cell, Face}
use Rattle.tl_check_verdict.specs.declared.verdict.Verdict.TheVariants as verdict
use Rattle.tl_cert_output.specs.declared.stop.Stop.TheVariants.{Record, Memory, Device, Budget}
use Rattle.tl_check.specs.declared.state.Halt.{Halt}
use Rattle.tl_check.specs.declared.state.Halt.TheVariants as halt
use Rattle.tl_check_verdict.specs.Valid.{AllowsSearch}
use Rattle.tl_check_verdict.specs.Truth.{IsOfDarts}
use Rattle.tl_check_verdict.specs.Texts.{TextAllowsSearch}
use Rattle.tl_check_verdict.specs.Verdicts.{Answer, OnSound, OnSearched, IfCertFault}
use Rattle.tl_check.specs.Keeping.Answers.{answer_of, stop_of}
use Rattle.tl_check.specs.Keeping.Parts.{UnlessMemory}

-- where the certificate can't be read on
pub stopped_searched : (why : CertStop) (P : Type 0) → OnSearched (stop_of why) P
stopped_searched (cert.Text line) P = tt
stopped_searched cert.Memory P = tt
stopped_searched cert.Device P = tt

pub stopped_behind : (why : CertStop) (P : Type 0) → IfCertFault (stop_of why) (λ fault. IsOfDarts fault → P)
stopped_behind (cert.Text line) P = λ of_darts. absurd of_darts
stopped_behind cert.Memory P = tt
stopped_behind cert.Device P = tt

pub stopped_within : (why : CertStop) (P : Type 0) → OnSound (stop_of why) P
stopped_within (cert.Text line) P = tt
stopped_within cert.Memory P = tt
stopped_within cert.Device P = tt

-- where no further part is looked at
pub answered_behind : (why : Halt) (P : Type 0) → IfCertFault (answer_of why) (λ fault. IsOfDarts fault → P)
answered_behind (halt.Fault fault) P = tt
answered_behind halt.Memory P = tt
answered_behind halt.Budget P = tt

pub answered_within : (why : Halt) (P : Type 0) → OnSound (answer_of why) P
answered_within (halt.Fault fault) P = tt
answered_within halt.Memory P = tt
answered_within halt.Budget P = tt

pub fault_searched : (fault : MapFault) (P : Type 0) → P → OnSearched (Ok (verdict.MapFault fault)) P
fault_searched (Records fault) P p = tt
fault_searched (NoRecords lacking) P p = tt
fault_searched (Meet meet) P p = p
fault_searched (Side node first next) P p = p
fault_searched (PolygonPoint fault) P p = p
fault_searched (Cell odds) P p = p
fault_searched (Face fault) P p = tt

pub halted_searched : (why : Halt) (P Q : Type 0) → UnlessMemory why Q → (Q → P) → OnSearched (answer_of why) P
halted_searched (halt.Fault fault) P Q q so = fault_searched fault P (so q)
halted_searched halt.Memory P Q q so = tt
halted_searched halt.Budget P Q q so = so q

pub ended_searched : (why : Halt) (P : Type 0) → P → OnSearched (answer_of why) P
ended_searched (halt.Fault fault) P p = fault_searched fault P p
ended_searched halt.Memory P p = tt
ended_searched halt.Budget P p = p

-- what is so of another thing
pub searched_so : (answer : Answer) (P Q : Type 0) → OnSearched answer P → (P → Q) → OnSearched answer Q
searched_so (Ok (verdict.Sound report)) P Q p so = tt
searched_so (Ok (verdict.CertFault fault)) P Q p so = tt
searched_so (Ok (verdict.MapFault (Records fault))) P Q p so = tt
searched_so (Ok (verdict.MapFault (NoRecords lacking))) P Q p so = tt
searched_so (Ok (verdict.MapFault (Meet meet))) P Q p so = so p
searched_so (Ok (verdict.MapFault (Side node first next))) P Q p so = so p
searched_so (Ok (verdict.MapFault (PolygonPoint fault))) P Q p so = so p
searched_so (Ok (verdict.MapFault (Cell odds))) P Q p so = so p
searched_so (Ok (verdict.MapFault (Face fault))) P Q p so = tt
searched_so (Err (Record line cause)) P Q p so = tt
searched_so (Err Memory) P Q p so = tt
searched_so (Err Device) P Q p so = tt
searched_so (Err Budget) P Q p so = so p

-- the text of which the counts and the tree were read
text_allows : (m : TheMap) (version : ℕ) (c : TheCertificate) (first now : Option (List ℕ)) → Follows first now (Treed version) c → IsCertificate c → AllowsSearch m c → IfSome first (TextAllowsSearch m)
text_allows m version c None now so is allows = tt
text_allows m version c (Some text) None so is allows = absurd so
text_allows m version c (Some text) (Some rest) so is allows = record { certificate = c; is_one = is; rest = rest; begins = so; allows = allows }

pub reads_allowed : {R : Type 0} (remaining : R → Option (List ℕ)) (m : TheMap) (version : ℕ) (c : TheCertificate) (first now : CertReader R) → Collects remaining (Treed version) first now c → AllowsSearch m c → IfSome (unread remaining first) (TextAllowsSearch m)
reads_allowed remaining m version c first now so allows = text_allows m version c (unread remaining first) (unread remaining now) so.text so.behind.given.0 allows
