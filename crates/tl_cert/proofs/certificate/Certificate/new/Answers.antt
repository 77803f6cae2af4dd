use Rattle.std.proofs.Common.{subst, sym, refl, ◌∙◌}
use Rattle.tl_cert.specs.Certificates.{MakesCertificate}
use Rattle.tl_cert.proofs.certificate.Certificate.new.Goals as goal

pub returns-then-not-make_certificate : goal.returns-then-not-make_certificate
returns-then-not-make_certificate c = λ makes. let no = c.if-not-make_certificate.ensures.1 (subst MakesCertificate (sym c.new-parts.ensures) makes) in cc no

pub returns : goal.returns
returns c = (c.of_parts.ensures ∙ c.new-parts.ensures, subst MakesCertificate (sym c.of_parts.ensures) (c.if-not-make_certificate.ensures.0 refl))
