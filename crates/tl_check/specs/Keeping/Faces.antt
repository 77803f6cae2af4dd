-- How an answer in which faces take part follows from one in which they don't.
use Rattle.std.specs.Prelude.{◌≡◌, Bool, Ok, Err, IsOkAnd, Option, Some, None, ⊤}
use Rattle.tl_map_county.specs.TheMap.{TheMap}
use Rattle.tl_check_verdict.specs.declared.fault.MapFault.{MapFault}
use Rattle.tl_check_verdict.specs.declared.fault.MapFault.TheVariants.{Records, NoRecords, Meet, Side, PolygonPoint, Cell, Face}
use Rattle.tl_check_verdict.specs.declared.verdict.Report.{Report}
use Rattle.tl_check_faces.specs.declared.fault.FaceFault.{FaceFault}
use Rattle.tl_check_verdict.specs.declared.verdict.Verdict.{Verdict}
use Rattle.tl_check_verdict.specs.declared.verdict.Verdict.TheVariants as verdict
use Rattle.tl_check_verdict.specs.Sound.{IsSoundFor}
use Rattle.tl_check_verdict.specs.Truth.{IsTrueOfMapFor}
use Rattle.tl_check_verdict.specs.Verdicts.{Answer}

-- the fault is of faces
abbrev pub IsOfFaces : MapFault → Type 0
IsOfFaces (Records fault) = ⊥
IsOfFaces (NoRecords lacking) = ⊥
IsOfFaces (Meet meet) = ⊥
IsOfFaces (Side node first next) = ⊥
IsOfFaces (PolygonPoint fault) = ⊥
IsOfFaces (Cell odds) = ⊥
IsOfFaces (Face fault) = ⊤

-- what is decided where a map is sound: that it is, also as to faces where they are asked for; or faces that disagree
abbrev pub IsFacing : Bool → TheMap → Report → Verdict → Type 0
IsFacing faces m report (verdict.Sound told) = (told ≡ report) × IsSoundFor faces m
IsFacing faces m report (verdict.MapFault fault) = IsOfFaces fault × IsTrueOfMapFor faces m fault
IsFacing faces m report (verdict.CertFault fault) = ⊥

-- an answer where this was decided without faces: the same, unless it is that the map is sound
abbrev pub IsWithFaces : Bool → TheMap → Answer → Answer → Type 0
IsWithFaces faces m (Ok (verdict.Sound report)) answer = IsOkAnd answer (IsFacing faces m report)
IsWithFaces faces m (Ok (verdict.MapFault fault)) answer = answer ≡ Ok (verdict.MapFault fault)
IsWithFaces faces m (Ok (verdict.CertFault fault)) answer = answer ≡ Ok (verdict.CertFault fault)
IsWithFaces faces m (Err why) answer = answer ≡ Err why

-- what is decided of a sound map by the faces that were found to disagree, if any were
abbrev pub verdict_of : Report → Option FaceFault → Verdict
verdict_of report (Some fault) = verdict.MapFault (Face fault)
verdict_of report None = verdict.Sound report
