use Rattle.std.proofs.Common.{◌∷◌, [], Some, Ok, string_bytes, refl, sym, subst}
use Rattle.tigertopo_files.specs.Files.{bytes_under, IsFree}
use Rattle.tigertopo_files.specs.World.{world}
use Rattle.tigertopo_files.specs.declared.beginning.FileKind.TheVariants.{Certificate}
use Rattle.tigertopo_files.proofs.WorldLemmas.{does_then, does_read, does_stop, none_made}
use Rattle.tigertopo_program.specs.Answers.{ConvertAnswers, IsReadCertificate, IsSaid}
use Rattle.tl_check_verdict.specs.declared.verdict.Verdict.TheVariants.{CertFault}
use Rattle.tigertopo_program.specs.declared.answer.Answer.TheVariants.{Verdict}
use Rattle.tigertopo_program.specs.Records.{StopsNever}
use Rattle.tigertopo_program.proofs.ConvertLemmas.{tells_fault, tells_conversion}
use Rattle.tigertopo_program.proofs.convert.convert.Goals as goal

pub returns-in_err-certificate : goal.returns-in_err-certificate
returns-in_err-certificate g c =
    let w = world g.F.FileSystem.under g.F.FileSystem.log g.F.FileSystem.knows c.args.files.now c.read_files.new.files in
    does_stop w (string_bytes c.args.cert.now ∷ []) (IsReadCertificate (bytes_under w.before (string_bytes c.args.cert.now))) StopsNever (Some (string_bytes c.args.made.now)) StopsNever c.in_err-certificate.field-0.0
    c.in_err-certificate.ensures (λ s so. so) _ c.from_residual.result c.from_residual.ensures.1

pub make-requires : goal.make-requires
make-requires g c = subst (λ under. IsFree under (string_bytes c.args.made.now) (string_bytes c.args.cert.now ∷ []) Certificate) (sym c.in_ok-certificate.ensures.keeps) c.requires

pub returns-in-Err : goal.returns-in-Err
returns-in-Err g c =
    let w = world g.F.FileSystem.under g.F.FileSystem.log g.F.FileSystem.knows c.args.files.now c.read_files.new.files in
    does_read w (string_bytes c.args.cert.now ∷ []) (IsReadCertificate (bytes_under w.before (string_bytes c.args.cert.now))) StopsNever (Some (string_bytes c.args.made.now)) _ c.in_ok-certificate.ensures
    (IsSaid (ConvertAnswers w (bytes_under w.before (string_bytes c.args.cert.now)) (string_bytes c.args.made.now))) (Verdict (CertFault c.in-Err.fault))
    (tells_fault w (bytes_under w.before (string_bytes c.args.cert.now)) (string_bytes c.args.made.now) c.in-Err.fault (rw c.in-Err.is at c.in_ok-certificate.ensures.answered)
    (none_made w (Some (string_bytes c.args.made.now)) c.in_ok-certificate.ensures.keeps))

pub returns-in-Ok : goal.returns-in-Ok
returns-in-Ok g c =
    let w = world g.F.FileSystem.under g.F.FileSystem.log g.F.FileSystem.knows c.args.files.now c.make-in-Ok.new.files in
    let name = string_bytes c.args.made.now in
    let spelt = bytes_under w.before (string_bytes c.args.cert.now) in
    does_then w.before (g.F.FileSystem.under c.read_files.new.files) w.after w.log (g.F.FileSystem.log c.read_files.new.files) w.logged w.knows (string_bytes c.args.cert.now ∷ []) (Some name)
    (IsReadCertificate spelt) StopsNever (Ok c.in-Ok.certificate) (rw c.in-Ok.is at c.in_ok-certificate.ensures) _ (IsSaid (ConvertAnswers w spelt name)) StopsNever c.make-in-Ok.result c.make-in-Ok.ensures
    (λ t made. tells_conversion w w spelt name c.in-Ok.certificate c.to_v2.result t refl c.to_v2.ensures (rw c.in-Ok.is at c.in_ok-certificate.ensures.answered) (record { is = made.is; kept = made.kept })) (λ s so. so)
