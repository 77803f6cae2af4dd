-- What is answered of a certificate that is read.
use Rattle.std.proofs.Common.{◌≡◌, inl, inr, ℕ, List, Option, Some, Ok, Err, refl, sym, ap, subst, ◌∙◌}
use Rattle.tl_cert_output.specs.Writing.{line_of}
use Rattle.tl_cert.specs.Certificates.{TheCertificate}
use Rattle.tl_check_verdict.specs.declared.fault.CertFault.{CertFault}
use Rattle.tl_check_verdict.specs.Messages.{cert_fault_text}
use Rattle.tigertopo_files.specs.World.{World, Unmade}
use Rattle.tigertopo_program.specs.declared.answer.Answer.{Answer}
use Rattle.tigertopo_program.specs.Answers.{IsReadCertificate, IsConversionOf, IsSaid, ConvertAnswers, counts_of}
use Rattle.tigertopo_program.specs.declared.answer.Answer.TheVariants.{Converted as Conversion}
use Rattle.tl_cert.specs.Text.{certificate_text}
use Rattle.tigertopo_files.specs.Files.{StandsUnder}

-- the line of such a fault is told
pub tells_fault : (w : World) (spelt : Option (List ℕ)) (name : List ℕ) (fault : CertFault) → IsReadCertificate spelt (Err fault) → Unmade w (Some name) → ConvertAnswers w spelt name 2 (line_of (cert_fault_text fault))
tells_fault w spelt name fault is unmade = inr (record { number = is.0; refused = is.2; unmade = unmade; is = refl; line = ap (λ f. line_of (cert_fault_text f)) is.1 })

-- the line of a conversion is told
pub tells_conversion : (w v : World) (spelt : Option (List ℕ)) (name : List ℕ) (c d : TheCertificate) (answer : Answer) → v.after ≡ w.after → d ≡ record c { version = 2 } → IsReadCertificate spelt (Ok c)
    → IsConversionOf v name d answer → IsSaid (ConvertAnswers w spelt name) answer
tells_conversion w v spelt name c d answer same is_v2 is made =
    let kept = subst (λ u. StandsUnder u name (certificate_text (record c { version = 2 }))) same (subst (λ e. StandsUnder v.after name (certificate_text e)) is_v2 made.kept) in
    let told : answer ≡ Conversion (counts_of (record c { version = 2 })) = made.is ∙ ap (λ e. Conversion (counts_of e)) is_v2 in
    subst (IsSaid (ConvertAnswers w spelt name)) (sym told) (inl (record { certificate = c; certifies = is.0; read = is.1; kept = kept; is = refl; line = refl }))
