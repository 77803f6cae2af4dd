-- What a reader of parts keeps at each place, and what a part adds.
use Rattle.std.specs.Prelude.{◌≡◌, ℕ, ◌+◌, ◌*◌, ◌^◌, ◌<◌, ◌≤◌, List, ◌++◌, Option, None, Some, Result, Ok, Err, ⊤}
use mathlib.Core.HLevel.{×_prop, Unit-prop}
use native.Mathlib.Bridge.{le_prop}
use Rattle.std.specs.Option.{IfSome}
use Rattle.std.specs.Io.KnownBytes.{IsAtEnd}
use Rattle.tl_record.specs.Lines.{joined_lines}
use Rattle.tl_cert.specs.declared.place.NextPart.{NextPart}
use Rattle.tl_cert.specs.declared.place.NextPart.TheVariants.{Start, Counted, Treed, Rounds, Walks}
use Rattle.tl_cert.specs.declared.place.CertPart.{CertPart}
use Rattle.tl_cert.specs.declared.reader.Standing.{Standing}
use Rattle.tl_cert.specs.declared.reader.Standing.TheVariants.{Reading, Ended, Stopped}
use Rattle.tl_cert.specs.declared.stop.CertStop.{CertStop}
use Rattle.tl_cert.specs.declared.stop.CertStop.TheVariants.{Text, Memory, Device}
use Rattle.tl_cert.specs.Certificates.{TheCertificate, IsCertificate}
use Rattle.tl_cert.specs.Text.{certificate_lines}
use Rattle.tl_cert.specs.Given.{AreGiven, given_lines, with_part, parts_left, LeadsTo, MayEnd}
use Rattle.tl_cert.specs.Keeping.Lines.{LineState, taken, untaken, TakesLines}
use Rattle.tl_cert.specs.Keeping.Parts.{Sticks}
use Rattle.tl_cert.specs.Keeping.Steps.{State, start, counted, tree, rounds, walks}

-- the state of a place
abbrev pub state_at : NextPart → State
state_at Start = start
state_at (Counted version) = counted version
state_at (Treed version) = tree version 0 0 0
state_at (Rounds left) = rounds left 0
state_at (Walks left) = walks left 0

-- the version of a place, and how many lines were taken at most
abbrev pub FitsPlace : NextPart → ℕ → Type 0
FitsPlace Start lines = lines ≤ 0
FitsPlace (Counted version) lines = (1 ≤ version) × ((version ≤ 2) × (lines ≤ 2))
FitsPlace (Treed version) lines = (1 ≤ version) × ((version ≤ 2) × (lines ≤ 2 ^ 40))
FitsPlace (Rounds left) lines = lines + left * 2 ^ 33 ≤ 2 ^ 66
FitsPlace (Walks left) lines = lines + left * 2 ^ 33 ≤ 2 ^ 68

abbrev pub FitsStanding : Standing → ℕ → Type 0
FitsStanding (Reading place) lines = FitsPlace place lines
FitsStanding Ended lines = ⊤
FitsStanding (Stopped stop) lines = ⊤

pub FitsPlace-prop : (place : NextPart) (lines : ℕ) → IsProp (FitsPlace place lines)
FitsPlace-prop Start lines = le_prop
FitsPlace-prop (Counted version) lines = ×_prop le_prop (×_prop le_prop le_prop)
FitsPlace-prop (Treed version) lines = ×_prop le_prop (×_prop le_prop le_prop)
FitsPlace-prop (Rounds left) lines = le_prop
FitsPlace-prop (Walks left) lines = le_prop

pub FitsStanding-prop : (standing : Standing) (lines : ℕ) → IsProp (FitsStanding standing lines)
FitsStanding-prop (Reading place) lines = FitsPlace-prop place lines
FitsStanding-prop Ended lines = Unit-prop
FitsStanding-prop (Stopped stop) lines = Unit-prop

-- a part that takes these lines leads from one place to the next
abbrev pub Adds : NextPart → NextPart → CertPart → List (List ℕ) → Type 0
Adds place next given lines =
    (c : TheCertificate) → AreGiven place c → AreGiven next (with_part c given) × (given_lines next (with_part c given) ≡ given_lines place c ++ lines)

-- these lines are the last
abbrev pub Ends : NextPart → List (List ℕ) → Type 0
Ends place lines = (c : TheCertificate) → AreGiven place c → IsCertificate c × (certificate_lines c ≡ given_lines place c ++ lines)

-- a part with the place behind it; or the end, also of the source; or the text is refused
abbrev pub ReadsPart : {R : Type 0} → (R → Option (List ℕ)) → NextPart → LineState R → LineState R → Result (Option (CertPart × NextPart)) CertStop → Type 0
ReadsPart remaining place old new (Ok (Some (given, next))) =
    (lines : List (List ℕ)) × TakesLines remaining old new lines × Adds place next given lines × FitsPlace next (taken new) × (parts_left next < parts_left place) × LeadsTo place given next
ReadsPart remaining place old new (Ok None) =
    (lines : List (List ℕ)) × Ends place lines × IfSome (untaken remaining old) (λ text. text ≡ joined_lines lines) × IsAtEnd (remaining new.source) × MayEnd place
ReadsPart remaining place old new (Err (Text line)) = Sticks remaining (state_at place) old line
ReadsPart remaining place old new (Err Memory) = ⊤
ReadsPart remaining place old new (Err Device) = ⊤
