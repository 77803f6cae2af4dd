-- What an answer says of the map of records it says of the records.
use Rattle.std.proofs.Common.{◌≡◌, ℕ, Bool, List, Option, Ok, Err, inl, inr, refl}
use Rattle.std.specs.Prelude.{IfErr}
use Rattle.std.specs.Option.{IfSome}
use Rattle.std.proofs.lemmas.Option.{IfSome_then}
use Rattle.tl_record.specs.Records.{Records as AllRecords}
use Rattle.tl_map_rules.specs.declared.fault.MapStop.{MapStop}
use Rattle.tl_map_rules.specs.declared.fault.MapStop.TheVariants as map
use Rattle.tl_map_county.specs.TheMap.{TheMap}
use Rattle.tl_check_planar.specs.Planar.{IsPlanar}
use Rattle.tl_map_rules.specs.Reading.{IsReadFrom, StopsReading, TellsDevice as TellsReading}
use Rattle.tl_check_verdict.specs.declared.fault.MapFault.TheVariants.{Records, NoRecords, Meet, Side, PolygonPoint, Cell, Face}
use Rattle.tl_check_verdict.specs.declared.verdict.Report.{Report}
use Rattle.tl_check_verdict.specs.declared.verdict.Verdict.TheVariants as verdict
use Rattle.tl_check_verdict.specs.declared.fault.CertFault.{CertFault}
use Rattle.tl_cert_output.specs.declared.stop.Stop.{Stop}
use Rattle.tl_cert_output.specs.declared.stop.Stop.TheVariants as stop
use Rattle.tl_check_verdict.specs.Truth.{IsTrueOfMapFor, IsOfDarts}
use Rattle.tl_check_verdict.specs.Verdicts.{Answer, OnSound, OnSoundButFaces, IfSound, IfMapFault, IfCertFault, UnlessMeet, OnSearched}
use Rattle.tl_check_verdict.specs.Texts.{MayStopReading}
use Rattle.tl_cert_output.specs.Stops.{TellsDevice}
use Rattle.tl_check_verdict.specs.Records.{HaveMap, IsTrueOfRecordsFor, MayStopOn, TellsEither, LeavesUnread}
use Rattle.tl_check_verdict.proofs.Recording.{true_of_records}
use Rattle.tl_check.specs.Keeping.Answers.{refusal_of}
use Rattle.tl_check.proofs.Searched.{searched_so}
use Rattle.tl_check.proofs.Meeting.{meets_leads}

-- what is so of another thing
pub but_faces_so : (answer : Answer) (P Q : Type 0) → OnSoundButFaces answer P → (P → Q) → OnSoundButFaces answer Q
but_faces_so (Ok (verdict.Sound report)) P Q p so = so p
but_faces_so (Ok (verdict.CertFault fault)) P Q p so = tt
but_faces_so (Ok (verdict.MapFault (Records fault))) P Q p so = tt
but_faces_so (Ok (verdict.MapFault (NoRecords lacking))) P Q p so = tt
but_faces_so (Ok (verdict.MapFault (Meet meet))) P Q p so = tt
but_faces_so (Ok (verdict.MapFault (Side node first next))) P Q p so = tt
but_faces_so (Ok (verdict.MapFault (PolygonPoint fault))) P Q p so = tt
but_faces_so (Ok (verdict.MapFault (Cell odds))) P Q p so = tt
but_faces_so (Ok (verdict.MapFault (Face fault))) P Q p so = so p
but_faces_so (Err why) P Q p so = tt

-- an answer to the map of the records
module _ (of : List ℕ → AllRecords) (text : Option (List ℕ)) (m : TheMap) (is : IfSome text (λ t. IsReadFrom (of t) m)) where
  pub on_sound : (P : TheMap → Type 0) (answer : Answer) → OnSound answer (P m) → OnSound answer (IfSome text (λ t. HaveMap (of t) P))
  on_sound P (Ok (verdict.Sound report)) so = IfSome_then text is (λ t read. record { map = m; is_read = read; so = so })
  on_sound P (Ok (verdict.MapFault fault)) so = tt
  on_sound P (Ok (verdict.CertFault fault)) so = tt
  on_sound P (Err why) so = tt

  pub but_faces : (P : TheMap → Type 0) (answer : Answer) → OnSoundButFaces answer (P m) → OnSoundButFaces answer (IfSome text (λ t. HaveMap (of t) P))
  but_faces P answer so = but_faces_so answer (P m) (IfSome text (λ t. HaveMap (of t) P)) so (λ p. IfSome_then text is (λ t read. record { map = m; is_read = read; so = p }))

  pub if_sound : (P : TheMap → Report → Type 0) (answer : Answer) → IfSound answer (P m) → IfSound answer (λ r. IfSome text (λ t. HaveMap (of t) (λ n. P n r)))
  if_sound P (Ok (verdict.Sound report)) so = IfSome_then text is (λ t read. record { map = m; is_read = read; so = so })
  if_sound P (Ok (verdict.MapFault fault)) so = tt
  if_sound P (Ok (verdict.CertFault fault)) so = tt
  if_sound P (Err why) so = tt

  pub map_fault : (faces : Bool) (answer : Answer) → IfMapFault answer (IsTrueOfMapFor faces m) → IfMapFault answer (λ f. IfSome text (λ t. IsTrueOfRecordsFor faces (of t) f))
  map_fault faces (Ok (verdict.MapFault f)) true = IfSome_then text is (λ t read. true_of_records faces (of t) m f read true)
  map_fault faces (Ok (verdict.Sound report)) true = tt
  map_fault faces (Ok (verdict.CertFault f)) true = tt
  map_fault faces (Err why) true = tt

  pub cert_fault : (P : TheMap → CertFault → Type 0) (answer : Answer) → IfCertFault answer (P m) → IfCertFault answer (λ f. IfSome text (λ t. HaveMap (of t) (λ n. P n f)))
  cert_fault P (Ok (verdict.CertFault f)) true = IfSome_then text is (λ t read. record { map = m; is_read = read; so = true })
  cert_fault P (Ok (verdict.Sound report)) true = tt
  cert_fault P (Ok (verdict.MapFault f)) true = tt
  cert_fault P (Err why) true = tt

  pub behind : (answer : Answer) → IfCertFault answer (λ f. IsOfDarts f → IsPlanar m.chains) → IfCertFault answer (λ f. IsOfDarts f → IfSome text (λ t. HaveMap (of t) (λ n. IsPlanar n.chains)))
  behind (Ok (verdict.CertFault f)) so = λ of_darts. IfSome_then text is (λ t read. record { map = m; is_read = read; so = so of_darts })
  behind (Ok (verdict.Sound report)) so = tt
  behind (Ok (verdict.MapFault f)) so = tt
  behind (Err why) so = tt

  pub searched : (P : TheMap → Type 0) (answer : Answer) → OnSearched answer (P m) → OnSearched answer (IfSome text (λ t. HaveMap (of t) P))
  searched P answer so = searched_so answer (P m) (IfSome text (λ t. HaveMap (of t) P)) so (λ p. IfSome_then text is (λ t read. record { map = m; is_read = read; so = p }))

  pub meets : (P : TheMap → Type 0) (answer : Answer) → UnlessMeet answer (P m) → UnlessMeet answer (IfSome text (λ t. HaveMap (of t) P))
  meets P answer so = meets_leads answer (P m) (IfSome text (λ t. HaveMap (of t) P)) so (λ p. IfSome_then text is (λ t read. record { map = m; is_read = read; so = p }))

  stop_on : (budget : ℕ) (why : Stop) → MayStopReading m budget why → IfSome text (λ t. MayStopOn (of t) budget why)
  stop_on budget (stop.Record line cause) may = absurd may
  stop_on budget stop.Memory may = IfSome_then text is (λ t read. tt)
  stop_on budget stop.Device may = IfSome_then text is (λ t read. tt)
  stop_on budget stop.Budget may = IfSome_then text is (λ t read. record { map = m; is_read = read; so = may })

  pub stops : (budget : ℕ) (answer : Answer) → IfErr answer (MayStopReading m budget) → IfErr answer (λ why. IfSome text (λ t. MayStopOn (of t) budget why))
  stops budget (Ok verdict) may = tt
  stops budget (Err why) may = stop_on budget why may

-- an answer to a map leaves nothing unread
pub unread : (faces : Bool) (m : TheMap) (budget : ℕ) (P : Type 0) (answer : Answer) → IfMapFault answer (IsTrueOfMapFor faces m) → IfErr answer (MayStopReading m budget) → LeavesUnread answer P
unread faces m budget P (Ok (verdict.Sound report)) true may = tt
unread faces m budget P (Ok (verdict.CertFault f)) true may = tt
unread faces m budget P (Ok (verdict.MapFault (Records fault))) true may = absurd true
unread faces m budget P (Ok (verdict.MapFault (NoRecords lacking))) true may = absurd true
unread faces m budget P (Ok (verdict.MapFault (Meet meet))) true may = tt
unread faces m budget P (Ok (verdict.MapFault (Side node first next))) true may = tt
unread faces m budget P (Ok (verdict.MapFault (PolygonPoint fault))) true may = tt
unread faces m budget P (Ok (verdict.MapFault (Cell odds))) true may = tt
unread faces m budget P (Ok (verdict.MapFault (Face fault))) true may = tt
unread faces m budget P (Err (stop.Record line cause)) true may = absurd may
unread faces m budget P (Err stop.Memory) true may = tt
unread faces m budget P (Err stop.Device) true may = tt
unread faces m budget P (Err stop.Budget) true may = tt

-- where reading the records counted no failure, one of the certificate's alone is told
pub tells_either : (old new cert_old cert_new : ℕ) (answer : Answer) → new ≡ old → TellsDevice cert_old cert_new answer → TellsEither old new cert_old cert_new answer
tells_either old new cert_old cert_new (Ok verdict) same tells = (same, tells)
tells_either old new cert_old cert_new (Err (stop.Record line cause)) same tells = (same, tells)
tells_either old new cert_old cert_new (Err stop.Memory) same tells = (same, tells)
tells_either old new cert_old cert_new (Err stop.Device) same tells = inr (same, tells)
tells_either old new cert_old cert_new (Err stop.Budget) same tells = (same, tells)

-- where the records have no map
pub refused_sound : (why : MapStop) (P : Report → Type 0) → IfSound (refusal_of why) P
refused_sound (map.Refused line cause) P = tt
refused_sound map.Device P = tt
refused_sound map.Memory P = tt
refused_sound (map.Fault fault) P = tt
refused_sound (map.NoRecords lacking) P = tt

pub refused_but_faces : (why : MapStop) (P : Type 0) → OnSoundButFaces (refusal_of why) P
refused_but_faces (map.Refused line cause) P = tt
refused_but_faces map.Device P = tt
refused_but_faces map.Memory P = tt
refused_but_faces (map.Fault fault) P = tt
refused_but_faces (map.NoRecords lacking) P = tt

pub refused_cert : (why : MapStop) (P : CertFault → Type 0) → IfCertFault (refusal_of why) P
refused_cert (map.Refused line cause) P = tt
refused_cert map.Device P = tt
refused_cert map.Memory P = tt
refused_cert (map.Fault fault) P = tt
refused_cert (map.NoRecords lacking) P = tt

pub refused_searched : (why : MapStop) (P : Type 0) → OnSearched (refusal_of why) P
refused_searched (map.Refused line cause) P = tt
refused_searched map.Device P = tt
refused_searched map.Memory P = tt
refused_searched (map.Fault fault) P = tt
refused_searched (map.NoRecords lacking) P = tt

pub refused_fault : (faces : Bool) (of : List ℕ → AllRecords) (text : Option (List ℕ)) (why : MapStop) → IfSome text (λ t. StopsReading (of t) why) → IfMapFault (refusal_of why) (λ f. IfSome text (λ t. IsTrueOfRecordsFor faces (of t) f))
refused_fault faces of text (map.Refused line cause) stops = tt
refused_fault faces of text map.Device stops = tt
refused_fault faces of text map.Memory stops = tt
refused_fault faces of text (map.Fault fault) stops = stops
refused_fault faces of text (map.NoRecords lacking) stops = stops

pub refused_stops : (of : List ℕ → AllRecords) (text : Option (List ℕ)) (budget : ℕ) (why : MapStop) → IfSome text (λ t. StopsReading (of t) why) → IfErr (refusal_of why) (λ s. IfSome text (λ t. MayStopOn (of t) budget s))
refused_stops of text budget (map.Refused line cause) stops = stops
refused_stops of text budget map.Device stops = stops
refused_stops of text budget map.Memory stops = stops
refused_stops of text budget (map.Fault fault) stops = tt
refused_stops of text budget (map.NoRecords lacking) stops = tt

pub refused_unread : (why : MapStop) (P : Type 0) → P → LeavesUnread (refusal_of why) P
refused_unread (map.Refused line cause) P p = p
refused_unread map.Device P p = tt
refused_unread map.Memory P p = tt
refused_unread (map.Fault fault) P p = p
refused_unread (map.NoRecords lacking) P p = p

pub refused_tells : (T : Type 0) (old new cert : ℕ) (why : MapStop) → TellsReading {T = T} old new (Err why) → TellsEither old new cert cert (refusal_of why)
refused_tells T old new cert (map.Refused line cause) tells = (tells, refl)
refused_tells T old new cert map.Device tells = inl (tells, refl)
refused_tells T old new cert map.Memory tells = (tells, refl)
refused_tells T old new cert (map.Fault fault) tells = (tells, refl)
refused_tells T old new cert (map.NoRecords lacking) tells = (tells, refl)
