-- What comes of a border.
use Rattle.std.proofs.Common.{inl, inr, ℕ, Bool, List, [], Option, Some, None, Result, Ok, Err, refl, sym, ap, subst, append-nil}
use Rattle.std.specs.Bool.{⊤}
use Rattle.std.proofs.lemmas.Option.{IfSome_then}
use Rattle.tl_record.specs.declared.options.Options.{Options}
use Rattle.tl_record.specs.Layout.{layout_with}
use Rattle.tl_record.specs.Records.{records_of}
use Rattle.tl_cert_output.specs.declared.stop.Stop.{Stop}
use Rattle.tl_map_county.specs.TheMap.{TheMap}
use Rattle.tl_check_verdict.specs.declared.fault.MapFault.{MapFault as TheMapFault}
use Rattle.tl_check_verdict.specs.declared.fault.MapFault.TheVariants.{Records, NoRecords, Meet, Side, PolygonPoint, Cell, Face}
use Rattle.tl_check_verdict.specs.declared.verdict.Verdict.TheVariants.{MapFault}
use Rattle.tl_check_verdict.specs.Truth.{IsTrueOfMapFor}
use Rattle.tl_check_verdict.proofs.Recording.{true_of_records}
use Rattle.tigertopo_files.specs.Files.{Under}
use Rattle.tigertopo_files.specs.Log.{Log}
use Rattle.tigertopo_files.specs.World.{World, Does}
use Rattle.tigertopo_files.proofs.WorldLemmas.{does_then, does_read, unmade_from, none_made}
use Rattle.tigertopo_program.specs.declared.answer.Answer.TheVariants.{Verdict}
use Rattle.tigertopo_program.specs.declared.answer.Answer.{Answer}
use Rattle.tigertopo_program.specs.Answers.{IsSaid, IsReadMap}
use Rattle.tigertopo_program.specs.Records.{IsOfRecords, IsTrueFault, IsDoneWhereSound, StopsNever, StopsRecords}
use Rattle.tigertopo_program.proofs.DecideLemmas.LawLemmas.{done, undone}
use Rattle.tigertopo_program.specs.Borders.{BorderAnswers, IsBorderAnswerOf, Wanted}

-- ---- what is answered of a map, with no file read before

-- a fault, and no file is made
pub border_faulty : (u : Under) (l : Log) (k : Bool) (wanted : Wanted) (faces : Bool) (m : TheMap) (fault : TheMapFault) → IsTrueOfMapFor faces m fault
    → Does (record { before = u; after = u; log = l; logged = l; knows = k }) [] (Some wanted.name) (IsBorderAnswerOf (record { before = u; after = u; log = l; logged = l; knows = k }) wanted faces m) StopsNever
    (Ok (Verdict (MapFault fault)))
border_faulty u l k wanted faces m fault true = record {
  answered = inr (fault, true, (λ other apart. refl), refl);
  stopped = tt;
  device = λ e. absurd (cc);
  keeps = λ other differs apart. refl;
  unmade = tt;
  logged = λ known. ap (λ xs. record l { opened = xs }) (sym (append-nil l.opened));
}

-- ---- what is answered of records

-- the fault of records that have no map is true of them
pub true_fault : (options : Options) (known : Option (List ℕ)) (fault : TheMapFault) → IsOfRecords (layout_with options) known (λ fault. ⊤) fault → IsTrueFault options known fault
true_fault options known (Records fault) of = of.1
true_fault options known (NoRecords lacking) of = of
true_fault options known (Meet meet) of = absurd of
true_fault options known (Side node first next) of = absurd of
true_fault options known (PolygonPoint fault) of = absurd of
true_fault options known (Cell odds) of = absurd of
true_fault options known (Face fault) of = absurd of

-- they were read, and no file was made
pub border_of_fault : (w : World) (names : List (List ℕ)) (wanted : Wanted) (options : Options) (known : Option (List ℕ)) (fault : TheMapFault)
    → Does w names None (IsReadMap (layout_with options) known) (StopsRecords (layout_with options) known) (Ok (Err fault))
    → Does w names (Some wanted.name) (IsSaid (BorderAnswers w options known wanted)) (StopsRecords (layout_with options) known) (Ok (Verdict (MapFault fault)))
border_of_fault w names wanted options known fault first =
    does_read w names (IsReadMap (layout_with options) known) (StopsRecords (layout_with options) known) (Some wanted.name) (Err fault) first (IsSaid (BorderAnswers w options known wanted)) (Verdict (MapFault fault))
    (inr (record { fault = fault; holds = true_fault options known fault first.answered; unmade = none_made w (Some wanted.name) first.keeps; is = refl; line = refl }))

module _ (u v after : Under) (l m q : Log) (k : Bool) (names : List (List ℕ)) (wanted : Wanted) (options : Options) (known : Option (List ℕ)) (map : TheMap)
    (first : Does (record { before = u; after = v; log = l; logged = m; knows = k }) names None (IsReadMap (layout_with options) known) (StopsRecords (layout_with options) known) (Ok (Ok map))) where
  -- what is answered of their map is answered of them
  said_of : (answer : Answer) → IsBorderAnswerOf (record { before = v; after = after; log = m; logged = q; knows = k }) wanted options.faces map answer
      → IsSaid (BorderAnswers (record { before = u; after = after; log = l; logged = q; knows = k }) options known wanted) answer
  said_of answer (inl (bordered, is)) =
      subst (IsSaid (BorderAnswers (record { before = u; after = after; log = l; logged = q; knows = k }) options known wanted)) (sym is) (
      inl (record {
        map = map;
        drawn = first.answered;
        bordered = record { sound = bordered.sound; kept = bordered.kept };
        is = refl;
        line = refl;
      })
      )
  said_of answer (inr (fault, true, unmade, is)) =
      subst (IsSaid (BorderAnswers (record { before = u; after = after; log = l; logged = q; knows = k }) options known wanted)) (sym is) (
      inr (record {
        fault = fault;
        holds = IfSome_then known first.answered (λ text read. true_of_records options.faces (records_of (layout_with options) text) map fault read true);
        unmade = unmade_from u v after m q k (Some wanted.name) first.keeps unmade l;
        is = refl;
        line = refl;
      })
      )

  -- they were read, and then a border was made of their map, or none
  pub border_of_read : (r : Result Answer Stop)
      → Does (record { before = v; after = after; log = m; logged = q; knows = k }) [] (Some wanted.name) (IsBorderAnswerOf (record { before = v; after = after; log = m; logged = q; knows = k }) wanted options.faces map) StopsNever r
      → Does (record { before = u; after = after; log = l; logged = q; knows = k }) names (Some wanted.name) (IsSaid (BorderAnswers (record { before = u; after = after; log = l; logged = q; knows = k }) options known wanted)) (StopsRecords (layout_with options) known) r
  border_of_read r second =
      does_then u v after l m q k names (Some wanted.name) (IsReadMap (layout_with options) known) (StopsRecords (layout_with options) known) (Ok map) first
      (IsBorderAnswerOf (record { before = v; after = after; log = m; logged = q; knows = k }) wanted options.faces map)
      (IsSaid (BorderAnswers (record { before = u; after = after; log = l; logged = q; knows = k }) options known wanted)) StopsNever r second said_of (λ s never. absurd never)

-- ---- the status

pub border_is_exact : (w : World) (options : Options) (known : Option (List ℕ)) (wanted : Wanted) (status : ℕ) (said : List ℕ) → BorderAnswers w options known wanted status said
    → IsDoneWhereSound options known status
border_is_exact w options known wanted status said (inl a) =
    done options known status a.is (IfSome_then known a.drawn (λ text read. record { map = a.map; is_read = read; so = a.bordered.sound }))
border_is_exact w options known wanted status said (inr a) = undone options known status a.is a.fault a.holds
