-- What comes of making a certificate.
use Rattle.std.proofs.Common.{◌≡◌, inl, inr, ℕ, Bool, List, [], length, Option, Some, None, Result, Ok, Err, refl, sym, ap, subst, append-nil}
use Rattle.std.specs.Bool.{⊤}
use Rattle.std.specs.Result.{IsErrAnd}
use Rattle.tl_record.specs.declared.options.Options.{Options}
use Rattle.tl_record.specs.Layout.{layout_with}
use Rattle.tl_record.specs.Records.{records_of}
use Rattle.tl_cert_output.specs.declared.stop.Stop.{Stop}
use Rattle.tl_cert_output.specs.declared.stop.Stop.TheVariants.{Record, Memory, Device, Budget}
use Rattle.tl_map_county.specs.TheMap.{TheMap}
use Rattle.tl_cert.specs.Certificates.{TheCertificate, IsCertificate}
use Rattle.tl_cert.specs.Text.{certificate_text}
use Rattle.tl_check_verdict.specs.declared.fault.MapFault.{MapFault as TheMapFault}
use Rattle.tl_check_verdict.specs.declared.fault.MapFault.TheVariants.{Records, NoRecords, Meet, Side, PolygonPoint, Cell, Face}
use Rattle.tl_check_verdict.specs.declared.verdict.Report.{Report}
use Rattle.tl_check_verdict.specs.declared.verdict.Verdict.TheVariants.{MapFault}
use Rattle.tl_check_verdict.specs.Sound.{IsSoundFor}
use Rattle.tl_check_verdict.specs.Truth.{IsTrueOfMapFor}
use Rattle.tl_check_verdict.specs.Valid.{IsValid}
use Rattle.tl_check_verdict.specs.Verdicts.{IsReport, AreNumbers}
use Rattle.tl_build.specs.Auditing.{IsMemoryStop}
use Rattle.tl_check.proofs.Recorded.{map_fault}
use Rattle.tigertopo_files.specs.Files.{Under, StandsUnder}
use Rattle.tigertopo_files.specs.Log.{Log}
use Rattle.tigertopo_files.specs.World.{World, Does}
use Rattle.tigertopo_files.proofs.WorldLemmas.{does_then, does_read, unmade_from, none_made, does_make, does_fail}
use Rattle.tigertopo_program.specs.declared.answer.Answer.TheVariants.{Verdict}
use Rattle.tigertopo_program.specs.declared.answer.Answer.{Answer}
use Rattle.tigertopo_program.specs.Answers.{IsSaid, IsReadMap}
use Rattle.tigertopo_program.specs.Records.{IsOfRecords, IsTrueFault, StopsNever, StopsRecords}
use Rattle.tigertopo_program.specs.Building.{BuildAnswers, IsBuilt, IsBuildOf}
use Rattle.tigertopo_program.proofs.BorderLemmas.BorderLemmas.{true_fault}

-- the report of a map, where the certificate has its walks
report_of : (m : TheMap) (c : TheCertificate) (report : Report) → IsValid m c → AreNumbers m (length c.walks) report → IsReport m report
report_of m c report valid numbers = record {
  chains = numbers.chains;
  segments = numbers.segments;
  nodes = numbers.nodes;
  polygons = numbers.polygons;
  landmarks = numbers.landmarks;
  walks = c.walks;
  rings = valid.walks;
  counted = numbers.rings_are;
}

-- a certificate that was made of a map that keeps what is asked of it
pub is_built : (w : World) (name : List ℕ) (faces : Bool) (m : TheMap) (c : TheCertificate) (report : Report) → IsCertificate c → IsSoundFor faces m → IsValid m c → c.version ≡ 2 → AreNumbers m (length c.walks) report
    → StandsUnder w.after name (certificate_text c) → IsBuilt w name faces m report
is_built w name faces m c report certifies sound valid version numbers kept = record {
  certificate = c;
  certifies = certifies;
  decided = record { sound = sound; reported = report_of m c report valid numbers };
  valid = valid;
  version = version;
  kept = kept;
}

-- ---- what is answered of a map, with no file read before

module _ (u : Under) (l : Log) (k : Bool) (name : List ℕ) (faces : Bool) (m : TheMap) where
  -- a fault, and no file is made
  pub build_faulty : (fault : TheMapFault) → IsTrueOfMapFor faces m fault
      → Does (record { before = u; after = u; log = l; logged = l; knows = k }) [] (Some name) (IsBuildOf (record { before = u; after = u; log = l; logged = l; knows = k }) name faces m) StopsNever (Ok (Verdict (MapFault fault)))
  build_faulty fault true = record {
    answered = inr (fault, true, (λ other apart. refl), refl);
    stopped = tt;
    device = λ e. absurd (cc);
    keeps = λ other differs apart. refl;
    unmade = tt;
    logged = λ known. ap (λ xs. record l { opened = xs }) (sym (append-nil l.opened));
  }

  -- memory is refused, and no file is made
  pub build_stopped : (R : Answer → Type 0) (stop : Stop) → IsMemoryStop stop → (r : Result Answer Stop) → IsErrAnd r (λ told. told ≡ stop)
      → Does (record { before = u; after = u; log = l; logged = l; knows = k }) [] (Some name) R StopsNever r
  build_stopped R (Record line cause) memory r is = absurd memory
  build_stopped R Memory memory r is =
      does_fail (record { before = u; after = u; log = l; logged = l; knows = k }) [] (Some name) (λ (done : Unit {0}). StandsUnder u name []) StopsNever Memory
      (does_make {T = Unit {0}} u u l l k name [] StopsNever (Err Memory) ((λ other apart. refl), tt) (λ known. refl)) R r is
  build_stopped R Device memory r is = absurd memory
  build_stopped R Budget memory r is = absurd memory

-- ---- what is answered of records

-- they were read, and no file was made
pub build_of_fault : (w : World) (names : List (List ℕ)) (name : List ℕ) (options : Options) (known : Option (List ℕ)) (fault : TheMapFault)
    → Does w names None (IsReadMap (layout_with options) known) (StopsRecords (layout_with options) known) (Ok (Err fault))
    → Does w names (Some name) (IsSaid (BuildAnswers w options known name)) (StopsRecords (layout_with options) known) (Ok (Verdict (MapFault fault)))
build_of_fault w names name options known fault first =
    does_read w names (IsReadMap (layout_with options) known) (StopsRecords (layout_with options) known) (Some name) (Err fault) first (IsSaid (BuildAnswers w options known name)) (Verdict (MapFault fault))
    (inr (record { fault = fault; holds = true_fault options known fault first.answered; unmade = none_made w (Some name) first.keeps; is = refl; line = refl }))

module _ (u v after : Under) (l m q : Log) (k : Bool) (names : List (List ℕ)) (name : List ℕ) (options : Options) (known : Option (List ℕ)) (map : TheMap)
    (first : Does (record { before = u; after = v; log = l; logged = m; knows = k }) names None (IsReadMap (layout_with options) known) (StopsRecords (layout_with options) known) (Ok (Ok map))) where
  -- what is answered of their map is answered of them
  said_of : (answer : Answer) → IsBuildOf (record { before = v; after = after; log = m; logged = q; knows = k }) name options.faces map answer
      → IsSaid (BuildAnswers (record { before = u; after = after; log = l; logged = q; knows = k }) options known name) answer
  said_of answer (inl (report, built, is)) =
      subst (IsSaid (BuildAnswers (record { before = u; after = after; log = l; logged = q; knows = k }) options known name)) (sym is) (
      inl (record {
        map = map;
        drawn = first.answered;
        report = report;
        built = record { certificate = built.certificate; certifies = built.certifies; decided = built.decided; valid = built.valid; version = built.version; kept = built.kept };
        is = refl;
        line = refl;
      })
      )
  said_of answer (inr (fault, true, unmade, is)) =
      subst (IsSaid (BuildAnswers (record { before = u; after = after; log = l; logged = q; knows = k }) options known name)) (sym is) (
      inr (record {
        fault = fault;
        holds = map_fault (records_of (layout_with options)) known map first.answered options.faces (Ok (MapFault fault)) true;
        unmade = unmade_from u v after m q k (Some name) first.keeps unmade l;
        is = refl;
        line = refl;
      })
      )

  -- they were read, and then a certificate was made of their map, or none
  pub build_of_read : (r : Result Answer Stop)
      → Does (record { before = v; after = after; log = m; logged = q; knows = k }) [] (Some name) (IsBuildOf (record { before = v; after = after; log = m; logged = q; knows = k }) name options.faces map) StopsNever r
      → Does (record { before = u; after = after; log = l; logged = q; knows = k }) names (Some name) (IsSaid (BuildAnswers (record { before = u; after = after; log = l; logged = q; knows = k }) options known name)) (StopsRecords (layout_with options) known) r
  build_of_read r second =
      does_then u v after l m q k names (Some name) (IsReadMap (layout_with options) known) (StopsRecords (layout_with options) known) (Ok map) first
      (IsBuildOf (record { before = v; after = after; log = m; logged = q; knows = k }) name options.faces map)
      (IsSaid (BuildAnswers (record { before = u; after = after; log = l; logged = q; knows = k }) options known name)) StopsNever r second said_of (λ s never. absurd never)
