-- Certificates that go on with nothing, and what is shown of valid ones.
use Rattle.std.proofs.Common.{[], refl, sym}
use Rattle.std.proofs.lemmas.List.{append-nil}
use Rattle.tl_cert.specs.Certificates.{TheCertificate}
use Rattle.tl_check.specs.Keeping.Parts.{Continues}

pub goes_on_with_nothing : (c : TheCertificate) → Continues c c
goes_on_with_nothing c = record {
  counts = refl;
  tree = refl;
  more_rounds = [];
  rounds = sym (append-nil c.rounds);
  more_walks = [];
  walks = sym (append-nil c.walks);
}
