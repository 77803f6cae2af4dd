-- What is kept of a certificate that is checked as its parts come, and what its answer says.
use Rattle.std.specs.Prelude.{◌≡◌, ℕ, ◌<◌, ◌≤◌, List, length, Option, Result, Ok, Err, ⊤}
use Rattle.std.specs.Option.{IfSome}
use Rattle.tl_map_county.specs.TheMap.{TheMap}
use Rattle.tl_check_planar.specs.Planar.{IsPlanar}
use Rattle.tl_check_planar.specs.Searching.{meeting_segments, AreBeyond}
use Rattle.tl_check_sides.specs.Sides.{SidesAgree}
use Rattle.tl_check_inside.specs.Placed.{ArePlaced}
use Rattle.tl_check_sides.specs.Cells.Cells.{CellsAgree}
use Rattle.tl_cert.specs.declared.place.NextPart.{NextPart}
use Rattle.tl_cert.specs.declared.place.NextPart.TheVariants as place
use Rattle.tl_cert.specs.declared.place.CertPart.{CertPart}
use Rattle.tl_cert.specs.declared.place.CertPart.TheVariants as part
use Rattle.tl_cert.specs.declared.reader.CertReader.{CertReader}
use Rattle.tl_cert.specs.Certificates.{TheCertificate}
use Rattle.tl_cert.specs.Given.{with_part}
use Rattle.tl_cert.specs.Reading.{source_of, unread}
use Rattle.tl_cert.specs.Keeping.Collecting.{Collects}
use Rattle.tl_check_verdict.specs.declared.verdict.Report.{Report}
use Rattle.tl_check_verdict.specs.declared.verdict.Verdict.TheVariants as verdict
use Rattle.tl_cert_output.specs.declared.stop.Stop.TheVariants.{Record, Memory, Device, Budget}
use Rattle.tl_check.specs.declared.state.State.{State}
use Rattle.tl_check.specs.declared.state.Halt.{Halt}
use Rattle.tl_check_verdict.specs.Sound.{AreClosed}
use Rattle.tl_check_verdict.specs.Valid.{AllowsSearch}
use Rattle.tl_check_verdict.specs.Truth.{IsTrueOfMap, IsTrueOfCert, IsOfDarts}
use Rattle.tl_check_verdict.specs.Texts.{IsTrueOfText, IsValidText, TextAllowsSearch}
use Rattle.tl_cert_output.specs.Stops.{TellsDevice}
use Rattle.tl_check_verdict.specs.Verdicts.{Answer, OnSound, IfCertFault, UnlessMeet, OnSearched, IsReport, AreNumbers}
use Rattle.tl_check.specs.Keeping.Parts.{Holds, TakesRounds, TakesWalks, IsSearched, IsBehindSearch, IsShown, IsLed, IsHalted}

-- at this place the state takes what may come
abbrev pub Suits : NextPart → State → Type 0
Suits place.Start state = ⊥
Suits (place.Counted version) state = ⊥
Suits (place.Treed version) state = TakesRounds state
Suits (place.Rounds left) state = TakesRounds state
Suits (place.Walks left) state = TakesWalks state

-- the part may come where the state is held, and has darts
abbrev pub MayCome : CertPart → State → Type 0
MayCome (part.Counts counts version) state = ⊥
MayCome (part.Tree nodes) state = ⊥
MayCome (part.Round darts) state = (0 < length darts.items) × TakesRounds state
MayCome (part.Walk darts) state = 0 < length darts.items

-- what may come behind a part
abbrev pub TakesBehind : CertPart → State → Type 0
TakesBehind (part.Counts counts version) state = ⊤
TakesBehind (part.Tree nodes) state = ⊤
TakesBehind (part.Round darts) state = TakesRounds state
TakesBehind (part.Walk darts) state = TakesWalks state

-- where a part leads
abbrev pub LeadsBy : TheMap → CertPart → State → Result State Halt → Type 0
LeadsBy m given old (Ok next) = IsLed m (λ c. with_part c given) (TakesBehind given) old next
LeadsBy m given old (Err halt) = IsHalted m old halt

-- the reader stands behind parts of which the state holds
pub record Stands {R : Type 0} (remaining : R → Option (List ℕ)) (m : TheMap) (first now : CertReader R) (state : State) : Type 0 where
  pub place : NextPart
  pub cert : TheCertificate
  pub collects : Collects remaining place first now cert
  pub holds : Holds m cert state
  pub suits : Suits place state

-- the map is sound by a certificate's text, where that is known
pub record IsSoundBy (m : TheMap) (text : Option (List ℕ)) (r : Report) : Type 0 where
  pub planar : IsPlanar m.chains
  pub sides : SidesAgree m.chains
  pub closed : AreClosed m
  pub points : ArePlaced m
  pub cells : CellsAgree m.chains
  pub report : IsReport m r
  pub valid : IfSome text (IsValidText m)

-- what an answer says of a map and the text of a certificate
abbrev pub Decides : TheMap → ℕ → Option (List ℕ) → Answer → Type 0
Decides m budget text (Ok (verdict.Sound report)) = IsSoundBy m text report
Decides m budget text (Ok (verdict.MapFault fault)) = IsTrueOfMap m fault
Decides m budget text (Ok (verdict.CertFault fault)) = IfSome text (λ t. IsTrueOfText m t fault)
Decides m budget text (Err (Record line cause)) = ⊥
Decides m budget text (Err Memory) = ⊤
Decides m budget text (Err Device) = ⊤
Decides m budget text (Err Budget) = AreBeyond m.chains budget

-- what is concluded of a map and a whole certificate
abbrev pub Concludes : TheMap → TheCertificate → Answer → Type 0
Concludes m c (Ok (verdict.Sound report)) = (rings : ℕ) × IsShown m c rings × AreNumbers m rings report
Concludes m c (Ok (verdict.MapFault fault)) = IsTrueOfMap m fault
Concludes m c (Ok (verdict.CertFault fault)) = IsTrueOfCert m c fault
Concludes m c (Err (Record line cause)) = ⊥
Concludes m c (Err Memory) = ⊤
Concludes m c (Err Device) = ⊥
Concludes m c (Err Budget) = ⊥

-- the map is sound by a certificate, and the report has its numbers
pub record IsSoundByCert (m : TheMap) (c : TheCertificate) (budget : ℕ) (r : Report) : Type 0 where
  pub rings : ℕ
  pub shown : IsShown m c rings
  pub numbers : AreNumbers m rings r
  pub within : meeting_segments m.chains ≤ budget

-- what an answer says of a map and a certificate in memory
abbrev pub Shows : TheMap → TheCertificate → ℕ → Answer → Type 0
Shows m c budget (Ok (verdict.Sound report)) = IsSoundByCert m c budget report
Shows m c budget (Ok (verdict.MapFault fault)) = IsTrueOfMap m fault × AllowsSearch m c
Shows m c budget (Ok (verdict.CertFault fault)) = IsTrueOfCert m c fault × (IsOfDarts fault → IsPlanar m.chains)
Shows m c budget (Err (Record line cause)) = ⊥
Shows m c budget (Err Memory) = ⊤
Shows m c budget (Err Device) = ⊥
Shows m c budget (Err Budget) = AreBeyond m.chains budget × AllowsSearch m c

-- The reader stands behind a tree, and the state holds of the parts so far: the search was made if it may be, chains are
-- planar where one may be made by the text, and no read has failed.
pub record IsBehindTree {R : Type 0} (remaining : R → Option (List ℕ)) (failures : R → ℕ) (m : TheMap) (budget : ℕ) (first now : CertReader R) (state : State) : Type 0 where
  pub stands : Stands remaining m first now state
  pub searched : IsSearched m budget state
  pub behind : IsBehindSearch m state
  pub allowed : AllowsSearch m stands.cert → IfSome (unread remaining first) (TextAllowsSearch m)
  pub planar : IfSome (unread remaining first) (λ t. TextAllowsSearch m t → IsPlanar m.chains)
  pub no_failure : failures (source_of now) ≡ failures (source_of first)

-- what an answer by the text of a certificate says, whose first part came next before
pub record IsAnswer {R : Type 0} (remaining : R → Option (List ℕ)) (failures : R → ℕ) (m : TheMap) (budget : ℕ) (first now : CertReader R) (answer : Answer) : Type 0 where
  pub decides : Decides m budget (unread remaining first) answer
  pub within : OnSound answer (meeting_segments m.chains ≤ budget)
  pub behind : IfCertFault answer (λ fault. IsOfDarts fault → IsPlanar m.chains)
  pub meets : UnlessMeet answer (IfSome (unread remaining first) (λ t. TextAllowsSearch m t → IsPlanar m.chains))
  pub searched : OnSearched answer (IfSome (unread remaining first) (TextAllowsSearch m))
  pub tells : TellsDevice (failures (source_of first)) (failures (source_of now)) answer

-- what an answer behind the last part says, where a state was held
pub record IsConcluded (m : TheMap) (old : State) (answer : Answer) : Type 0 where
  pub concludes : (c : TheCertificate) → Holds m c old → Concludes m c answer
  pub within : (n : ℕ) → IsSearched m n old → OnSound answer (meeting_segments m.chains ≤ n)
  pub behind : IsBehindSearch m old → IfCertFault answer (λ fault. IsOfDarts fault → IsPlanar m.chains)
  pub allowed : OnSearched answer ((c : TheCertificate) → Holds m c old → AllowsSearch m c)
