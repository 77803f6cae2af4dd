-- What was collected of a text's parts.
use Rattle.std.specs.Prelude.{◌≡◌, ℕ, List, Option, None, Some, ⊤}
use Rattle.tl_cert.specs.declared.place.NextPart.{NextPart}
use Rattle.tl_cert.specs.declared.reader.CertReader.{CertReader}
use Rattle.tl_cert.specs.declared.reader.Standing.{Standing}
use Rattle.tl_cert.specs.declared.reader.Standing.TheVariants.{Reading, Ended, Stopped}
use Rattle.tl_cert.specs.Certificates.{TheCertificate}
use Rattle.tl_cert.specs.Given.{parts_left}
use Rattle.tl_cert.specs.Keeping.Lines.{LineState, at}
use Rattle.tl_cert.specs.Reading.{IsBehind, whole, unread, lines_of, standing_of}

-- so far the parts of c were given, and what follows their lines is still to be read
abbrev pub Follows : Option (List ℕ) → Option (List ℕ) → NextPart → TheCertificate → Type 0
Follows None after place c = ⊤
Follows (Some text) None place c = ⊥
Follows (Some text) (Some rest) place c = text ≡ whole place c rest

pub record Collects {R : Type 0} (remaining : R → Option (List ℕ)) (place : NextPart) (old new : CertReader R) (c : TheCertificate) : Type 0 where
  pub standing : standing_of new ≡ Reading place
  pub behind : IsBehind (lines_of new) place c
  pub text : Follows (unread remaining old) (unread remaining new) place c

-- at most how many parts still come
abbrev pub left_of : Standing → ℕ
left_of (Reading place) = parts_left place
left_of Ended = 0
left_of (Stopped stop) = 0

-- the reader's lines and its source
abbrev pub state_of : {R : Type 0} → CertReader R → LineState R
state_of reader = at reader.lines reader.source
