-- What is said of a certificate that was built, and of a fault that was found in its place.
use Rattle.std.specs.Prelude.{Result, Ok, ⊤}
use Rattle.tl_cert.specs.Certificates.{TheCertificate}
use Rattle.tl_check_verdict.specs.declared.fault.MapFault.{MapFault}
use Rattle.tl_build.specs.declared.answer.Built.{Built}
use Rattle.tl_build.specs.declared.answer.Built.TheVariants.{Cert, Fault}
use Rattle.tl_cert_output.specs.declared.stop.Stop.{Stop}

abbrev pub Building : Type 0
Building = Result Built Stop

-- if a certificate was built, it is so
abbrev pub IfCert : Building → (TheCertificate → Type 0) → Type 0
IfCert (Ok (Cert cert)) P = P cert
IfCert other P = ⊤

-- so that is true of the map, if a certificate was built
abbrev pub OnCert : Building → Type 0 → Type 0
OnCert building P = IfCert building (λ cert. P)

-- if the answer is a fault, the fault is so
abbrev pub IfFault : Building → (MapFault → Type 0) → Type 0
IfFault (Ok (Fault fault)) P = P fault
IfFault other P = ⊤

-- a certificate was built
abbrev pub HasCert : Built → Type 0
HasCert (Cert cert) = ⊤
HasCert (Fault fault) = ⊥
