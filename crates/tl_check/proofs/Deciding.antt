-- What the clauses of an answer by a certificate's text read off what it decides.
use Rattle.std.proofs.Common.{ℕ, List, Option, Ok, Err}
use Rattle.std.specs.Prelude.{IfErr}
use Rattle.std.specs.Option.{IfSome}
use Rattle.tl_map_county.specs.TheMap.{TheMap}
use Rattle.tl_check_verdict.specs.declared.verdict.Report.{Report}
use Rattle.tl_check_verdict.specs.declared.verdict.Verdict.TheVariants as verdict
use Rattle.tl_cert_output.specs.declared.stop.Stop.TheVariants.{Record, Memory, Device, Budget}
use Rattle.tl_check_verdict.specs.Sound.{IsSound}
use Rattle.tl_check_verdict.specs.Truth.{IsTrueOfMap}
use Rattle.tl_check_verdict.specs.Texts.{IsTrueOfText, IsValidText, MayStopReading}
use Rattle.tl_check_verdict.specs.Verdicts.{Answer, OnSound, IfSound, IfMapFault, IfCertFault, IsReport}
use Rattle.tl_check.specs.Keeping.Streams.{IsSoundBy, Decides}

module _ (m : TheMap) (budget : ℕ) (text : Option (List ℕ)) where
  on_sound : (P : Type 0) → ((r : Report) → IsSoundBy m text r → P) → (answer : Answer) → Decides m budget text answer → OnSound answer P
  on_sound P leads (Ok (verdict.Sound report)) says = leads report says
  on_sound P leads (Ok (verdict.MapFault fault)) says = tt
  on_sound P leads (Ok (verdict.CertFault fault)) says = tt
  on_sound P leads (Err why) says = tt

  pub is_sound : (answer : Answer) → Decides m budget text answer → OnSound answer (IsSound m)
  is_sound = on_sound (IsSound m) (λ r is. record { planar = is.planar; sides = is.sides; closed = is.closed; points = is.points; cells = is.cells })

  pub valid : (answer : Answer) → Decides m budget text answer → OnSound answer (IfSome text (IsValidText m))
  valid = on_sound (IfSome text (IsValidText m)) (λ r is. is.valid)

  pub reported : (answer : Answer) → Decides m budget text answer → IfSound answer (IsReport m)
  reported (Ok (verdict.Sound report)) says = says.report
  reported (Ok (verdict.MapFault fault)) says = tt
  reported (Ok (verdict.CertFault fault)) says = tt
  reported (Err why) says = tt

  pub map_fault : (answer : Answer) → Decides m budget text answer → IfMapFault answer (IsTrueOfMap m)
  map_fault (Ok (verdict.Sound report)) says = tt
  map_fault (Ok (verdict.MapFault fault)) says = says
  map_fault (Ok (verdict.CertFault fault)) says = tt
  map_fault (Err why) says = tt

  pub cert_fault : (answer : Answer) → Decides m budget text answer → IfCertFault answer (λ fault. IfSome text (λ t. IsTrueOfText m t fault))
  cert_fault (Ok (verdict.Sound report)) says = tt
  cert_fault (Ok (verdict.MapFault fault)) says = tt
  cert_fault (Ok (verdict.CertFault fault)) says = says
  cert_fault (Err why) says = tt

  pub stops : (answer : Answer) → Decides m budget text answer → IfErr answer (MayStopReading m budget)
  stops (Ok verdict) says = tt
  stops (Err (Record line cause)) says = says
  stops (Err Memory) says = tt
  stops (Err Device) says = tt
  stops (Err Budget) says = says
