-- Parts that are collected one after the other.
use Rattle.std.proofs.Common.{◌≡◌, ℕ, List, [], Option, None, Some, Result, Ok, Err, refl, sym, subst, ◌∙◌}
use Rattle.std.specs.Option.{IfSome}
use Rattle.std.proofs.lemmas.Option.{IfSome_then}
use Rattle.tl_cert.specs.declared.place.NextPart.{NextPart}
use Rattle.tl_cert.specs.declared.place.NextPart.TheVariants.{Start}
use Rattle.tl_cert.specs.declared.place.CertPart.{CertPart}
use Rattle.tl_cert.specs.declared.reader.CertReader.{CertReader}
use Rattle.tl_cert.specs.declared.reader.Standing.{Standing}
use Rattle.tl_cert.specs.declared.reader.Standing.TheVariants.{Reading}
use Rattle.tl_cert.specs.declared.stop.CertStop.{CertStop}
use Rattle.tl_cert.specs.declared.stop.CertStop.TheVariants.{Text, Memory, Device}
use Rattle.tl_cert.specs.Certificates.{TheCertificate, IsCertificate}
use Rattle.tl_cert.specs.Beginnings.{IsTextOf, IsRefused}
use Rattle.tl_cert.specs.Given.{with_part}
use Rattle.tl_cert.specs.Reading.{GivesAt, Gives, GoesOn, StopsReading, BreaksOff, unread, lines_of, standing_of, whole, TellsFailure}
use Rattle.tl_cert.specs.Keeping.Collecting.{Collects, Follows}

-- where the reader reads
pub gives_here : {R : Type 0} (remaining : R → Option (List ℕ)) (old new : CertReader R) (answer : Result (Option CertPart) CertStop) (place : NextPart)
    → standing_of old ≡ Reading place → Gives remaining old new answer (standing_of old) → GivesAt remaining place old new answer
gives_here remaining old new answer place is gives = subst (Gives remaining old new answer) is gives

pub tells_here : (standing : Standing) (place : NextPart) (old new : ℕ) (answer : Result (Option CertPart) CertStop) → standing ≡ Reading place
    → TellsFailure standing old new answer → TellsFailure (Reading place) old new answer
tells_here standing place old new answer is tells = subst (λ s. TellsFailure s old new answer) is tells

follows_on : (first left after : Option (List ℕ)) (place next : NextPart) (c d : TheCertificate) → Follows first left place c → GoesOn left after place next c d → Follows first after next d
follows_on None left after place next c d so goes = tt
follows_on (Some text) None after place next c d so goes = absurd so
follows_on (Some text) (Some rest) None place next c d so goes = absurd goes
follows_on (Some text) (Some rest) (Some more) place next c d so goes = so ∙ goes

-- a part more
pub collects_more : {R : Type 0} (remaining : R → Option (List ℕ)) (place : NextPart) (first old new : CertReader R) (c d : TheCertificate) (given : CertPart) → Collects remaining place first old c
    → (gives : GivesAt remaining place old new (Ok (Some given))) → d ≡ with_part c given → Collects remaining gives.0 first new d
collects_more remaining place first old new c d given so gives is =
    let more = gives.3 c so.behind in
    rw is record {
      standing = gives.1;
      behind = more.0;
      text = follows_on (unread remaining first) (unread remaining old) (unread remaining new) place gives.0 c (with_part c given) so.text more.1;
    }

-- the end
whole_of : (first left : Option (List ℕ)) (place : NextPart) (c : TheCertificate) → Follows first left place c → IfSome left (λ text. IsTextOf c (whole place c text)) → IfSome first (λ text. IsTextOf c text)
whole_of None left place c so is = tt
whole_of (Some text) None place c so is = absurd so
whole_of (Some text) (Some rest) place c so is = subst (IsTextOf c) (sym so) is

pub collects_all : {R : Type 0} (remaining : R → Option (List ℕ)) (place : NextPart) (first old new : CertReader R) (c : TheCertificate) → Collects remaining place first old c
    → GivesAt remaining place old new (Ok None) → IsCertificate c × IfSome (unread remaining first) (λ text. IsTextOf c text)
collects_all remaining place first old new c so gives =
    let last = gives.1 c so.behind in (last.0, whole_of (unread remaining first) (unread remaining old) place c so.text last.1)

-- a stop
refused_of : (first left : Option (List ℕ)) (place : NextPart) (c : TheCertificate) (line : ℕ) → Follows first left place c → IfSome left (λ text. IsRefused (whole place c text) line × BreaksOff place (whole place c text))
    → IfSome first (λ text. IsRefused text line × BreaksOff place text)
refused_of None left place c line so is = tt
refused_of (Some text) None place c line so is = absurd so
refused_of (Some text) (Some rest) place c line so is = subst (λ b. IsRefused b line × BreaksOff place b) (sym so) is

always : (first : Option (List ℕ)) → IfSome first (λ text. Unit {0})
always None = tt
always (Some text) = tt

pub stops_all : {R : Type 0} (remaining : R → Option (List ℕ)) (place : NextPart) (first old new : CertReader R) (c : TheCertificate) (stop : CertStop) → Collects remaining place first old c
    → GivesAt remaining place old new (Err stop) → IfSome (unread remaining first) (λ text. StopsReading text stop)
stops_all remaining place first old new c (Text line) so gives = IfSome_then (unread remaining first) (refused_of (unread remaining first) (unread remaining old) place c line so.text (gives c so.behind)) (λ text is. is.0)
stops_all remaining place first old new c Memory so gives = always (unread remaining first)
stops_all remaining place first old new c Device so gives = always (unread remaining first)

-- where the whole text breaks off
pub breaks_all : {R : Type 0} (remaining : R → Option (List ℕ)) (place : NextPart) (first old new : CertReader R) (c : TheCertificate) (line : ℕ) → Collects remaining place first old c
    → GivesAt remaining place old new (Err (Text line)) → IfSome (unread remaining first) (BreaksOff place)
breaks_all remaining place first old new c line so gives = IfSome_then (unread remaining first) (refused_of (unread remaining first) (unread remaining old) place c line so.text (gives c so.behind)) (λ text is. is.1)

-- before any part
follows_none : (first : Option (List ℕ)) (c : TheCertificate) → Follows first first Start c
follows_none None c = tt
follows_none (Some text) c = refl

pub collects_none : {R : Type 0} (remaining : R → Option (List ℕ)) (reader : CertReader R) (c : TheCertificate) → standing_of reader ≡ Reading Start → lines_of reader ≡ 0
    → (c.tree ≡ []) × (c.rounds ≡ []) × (c.walks ≡ []) → Collects remaining Start reader reader c
collects_none remaining reader c is none empty = record {
  standing = is;
  behind = record { given = empty; counted = none };
  text = follows_none (unread remaining reader) c;
}

pub memory_lacks : {R : Type 0} (remaining : R → Option (List ℕ)) (reader : CertReader R) → IfSome (unread remaining reader) (λ text. StopsReading text Memory)
memory_lacks remaining reader = always (unread remaining reader)
