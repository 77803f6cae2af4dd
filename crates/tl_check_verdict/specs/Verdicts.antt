-- What a verdict says, by its kinds.
use Rattle.std.specs.Prelude.{◌≡◌, ℕ, ◌≤◌, List, length, Result, Ok, Err, ⊤}
use Rattle.tl_geom.specs.declared.point.Point.{Point}
use Rattle.tl_map_county.specs.TheMap.{TheMap}
use Rattle.tl_map_county.specs.Nodes.{AreNodes}
use Rattle.tl_check_planar.specs.Searching.{meeting_segments, AreBeyond}
use Rattle.tl_check_sides.specs.Walks.{AreWalks}
use Rattle.tl_check_verdict.specs.declared.fault.MapFault.{MapFault}
use Rattle.tl_check_verdict.specs.declared.fault.MapFault.TheVariants.{Records, NoRecords, Meet, Face}
use Rattle.tl_check_verdict.specs.declared.fault.CertFault.{CertFault}
use Rattle.tl_check_verdict.specs.declared.verdict.Report.{Report}
use Rattle.tl_check_verdict.specs.declared.verdict.Verdict.{Verdict}
use Rattle.tl_check_verdict.specs.declared.verdict.Verdict.TheVariants as verdict
use Rattle.tl_cert_output.specs.declared.stop.Stop.{Stop}
use Rattle.tl_cert_output.specs.declared.stop.Stop.TheVariants.{Record, Memory, Device, Budget}
use Rattle.tl_check_verdict.specs.Valid.{segments_in_map}
use Rattle.tl_check_verdict.specs.Truth.{IsOfDarts}

abbrev pub Answer : Type 0
Answer = Result Verdict Stop

-- if the answer is that the map is sound, the report is so
abbrev pub IfSound : Answer → (Report → Type 0) → Type 0
IfSound (Ok (verdict.Sound report)) P = P report
IfSound other P = ⊤

-- so that is true of the map, if the answer is that it is sound
abbrev pub OnSound : Answer → Type 0 → Type 0
OnSound answer P = IfSound answer (λ report. P)

-- so that is true, if the answer is that the map is sound, but for its faces at most
abbrev pub OnSoundButFaces : Answer → Type 0 → Type 0
OnSoundButFaces (Ok (verdict.Sound report)) P = P
OnSoundButFaces (Ok (verdict.MapFault (Face fault))) P = P
OnSoundButFaces other P = ⊤

-- if the answer is a fault of the map, the fault is so
abbrev pub IfMapFault : Answer → (MapFault → Type 0) → Type 0
IfMapFault (Ok (verdict.MapFault fault)) P = P fault
IfMapFault other P = ⊤

-- if the answer is a fault of the certificate, the fault is so
abbrev pub IfCertFault : Answer → (CertFault → Type 0) → Type 0
IfCertFault (Ok (verdict.CertFault fault)) P = P fault
IfCertFault other P = ⊤

-- so that is true, if the answer is a fault of rounds or of walks
abbrev pub OnDartFault : Answer → Type 0 → Type 0
OnDartFault answer P = IfCertFault answer (λ fault. IsOfDarts fault → P)

-- so that is true, if the answer comes of the search or behind it: a fault of the map itself, or that the budget is spent. Of faces
-- that disagree more is said
abbrev pub OnSearched : Answer → Type 0 → Type 0
OnSearched (Ok (verdict.MapFault (Records fault))) P = ⊤
OnSearched (Ok (verdict.MapFault (NoRecords lacking))) P = ⊤
OnSearched (Ok (verdict.MapFault (Face fault))) P = ⊤
OnSearched (Ok (verdict.MapFault fault)) P = P
OnSearched (Err Budget) P = P
OnSearched other P = ⊤

-- so that is true, unless the answer is that chains meet where they may not, that the records have no map, or a stop
abbrev pub UnlessMeet : Answer → Type 0 → Type 0
UnlessMeet (Ok (verdict.Sound report)) P = P
UnlessMeet (Ok (verdict.MapFault (Records fault))) P = ⊤
UnlessMeet (Ok (verdict.MapFault (NoRecords lacking))) P = ⊤
UnlessMeet (Ok (verdict.MapFault (Meet meet))) P = ⊤
UnlessMeet (Ok (verdict.MapFault fault)) P = P
UnlessMeet (Ok (verdict.CertFault fault)) P = P
UnlessMeet (Err stop) P = ⊤

-- at most as many pairs of the map's segments as the budget have rectangles that meet
abbrev pub IsWithinBudget : ℕ → TheMap → Type 0
IsWithinBudget budget m = meeting_segments m.chains ≤ budget

-- the report has the map's numbers, and its rings are the length of a list of rings in which each dart stands once
pub record IsReport (m : TheMap) (r : Report) : Type 0 where
  pub chains : r.chains ≡ length m.chains
  pub segments : r.segments ≡ segments_in_map m
  pub nodes : (points : List Point) → AreNodes m.chains points → r.nodes ≡ length points
  pub polygons : r.polygons ≡ length m.polygons
  pub landmarks : r.landmarks ≡ length m.landmarks
  pub walks : List (List ℕ)
  pub rings : AreWalks m.chains walks
  pub counted : r.rings ≡ length walks

-- the report has the map's numbers, and this number of rings
pub record AreNumbers (m : TheMap) (rings : ℕ) (r : Report) : Type 0 where
  pub chains : r.chains ≡ length m.chains
  pub segments : r.segments ≡ segments_in_map m
  pub nodes : (points : List Point) → AreNodes m.chains points → r.nodes ≡ length points
  pub polygons : r.polygons ≡ length m.polygons
  pub landmarks : r.landmarks ≡ length m.landmarks
  pub rings_are : r.rings ≡ rings

-- why a map in memory is not decided: memory was refused, or more pairs of its segments than the budget have rectangles
-- that meet, and as many of these as the budget don't conflict
abbrev pub MayStop : TheMap → ℕ → Stop → Type 0
MayStop m budget (Record line cause) = ⊥
MayStop m budget Memory = ⊤
MayStop m budget Device = ⊥
MayStop m budget Budget = AreBeyond m.chains budget
