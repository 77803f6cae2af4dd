-- What the clauses of an answer read off what it says.
use Rattle.std.proofs.Common.{◌≡◌, ℕ, ◌≤◌, List, Result, Ok, Err, sym, subst}
use Rattle.std.specs.Prelude.{IfErr}
use Rattle.tl_map_county.specs.TheMap.{TheMap}
use Rattle.tl_check_planar.specs.Planar.{IsPlanar}
use Rattle.tl_check_planar.specs.Searching.{meeting_segments}
use Rattle.tl_tree_index.specs.declared.node.TreeNode.{TreeNode}
use Rattle.tl_cert.specs.Certificates.{TheCertificate}
use Rattle.tl_cert.specs.declared.certificate.Counts.{Counts}
use Rattle.tl_check.specs.declared.state.State.{State}
use Rattle.tl_check.specs.declared.state.Halt.{Halt}
use Rattle.tl_check.specs.declared.state.Halt.TheVariants as halt
use Rattle.tl_check_verdict.specs.declared.fault.MapFault.{MapFault}
use Rattle.tl_check_verdict.specs.declared.fault.MapFault.TheVariants.{Records, NoRecords, Meet, Side, PolygonPoint, Cell, Face}
use Rattle.tl_check_verdict.specs.declared.verdict.Report.{Report}
use Rattle.tl_check_verdict.specs.declared.verdict.Verdict.TheVariants as verdict
use Rattle.tl_cert_output.specs.declared.stop.Stop.TheVariants.{Record, Memory, Device, Budget}
use Rattle.tl_check_verdict.specs.Sound.{IsSound}
use Rattle.tl_check_verdict.specs.Valid.{AreCounts, IsTree, AllowsSearch, IsValid}
use Rattle.tl_check_verdict.specs.Truth.{IsTrueOfMap, IsTrueOfCert, IsOfDarts}
use Rattle.tl_check_verdict.specs.Verdicts.{Answer, OnSound, IfSound, IfMapFault, IfCertFault, OnSearched, IsReport, MayStop}
use Rattle.tl_check.specs.Keeping.Answers.{answer_of}
use Rattle.tl_check.specs.Keeping.Parts.{Holds, IsSearched, IsBehindSearch, LeadsBehindTree, MayHalt, MayEnd, UnlessMemory}
use Rattle.tl_check.specs.Keeping.Streams.{IsSoundByCert, Shows, IsConcluded}
use Rattle.tl_check.proofs.Prefixes.{first_rounds, first_walks}
use Rattle.tl_check.proofs.Searched.{fault_searched}
use Rattle.tl_check.proofs.Shown.{are_closed, is_report}

pub halted : (m : TheMap) (c : TheCertificate) (budget : ℕ) (why : Halt) → MayHalt m budget why → UnlessMemory why (AreCounts m c.counts × IsTree m c.tree) → Shows m c budget (answer_of why)
halted m c budget (halt.Fault fault) may known = (may, record { counts = known.0; tree = known.1 })
halted m c budget halt.Memory may known = tt
halted m c budget halt.Budget may known = (may, record { counts = known.0; tree = known.1 })

pub ended : (m : TheMap) (c : TheCertificate) (budget : ℕ) (why : Halt) → MayEnd m why → AllowsSearch m c → Shows m c budget (answer_of why)
ended m c budget (halt.Fault fault) may allows = (may, allows)
ended m c budget halt.Memory may allows = tt
ended m c budget halt.Budget may allows = absurd may

-- what is concluded of a certificate in memory
searched_true : (m : TheMap) (fault : MapFault) (P : Type 0) → IsTrueOfMap m fault → OnSearched (Ok (verdict.MapFault fault)) P → P
searched_true m (Records fault) P true so = absurd true
searched_true m (NoRecords lacking) P true so = absurd true
searched_true m (Meet meet) P true so = so
searched_true m (Side node first next) P true so = so
searched_true m (PolygonPoint fault) P true so = so
searched_true m (Cell odds) P true so = so
searched_true m (Face fault) P true so = absurd true

pub concluded_shows : (m : TheMap) (c : TheCertificate) (budget : ℕ) (s : State) (answer : Answer) → Holds m c s → IsSearched m budget s → IsBehindSearch m s → IsConcluded m s answer → Shows m c budget answer
concluded_shows m c budget s (Ok (verdict.Sound report)) held searched behind so =
    let shown = so.concludes c held in
    record { rings = shown.0; shown = shown.1; numbers = shown.2; within = so.within budget searched }
concluded_shows m c budget s (Ok (verdict.MapFault fault)) held searched behind so =
    let true = so.concludes c held in
    (true, searched_true m fault _ true so.allowed c held)
concluded_shows m c budget s (Ok (verdict.CertFault fault)) held searched behind so = (so.concludes c held, so.behind behind)
concluded_shows m c budget s (Err (Record line cause)) held searched behind so = so.concludes c held
concluded_shows m c budget s (Err Memory) held searched behind so = tt
concluded_shows m c budget s (Err Device) held searched behind so = so.concludes c held
concluded_shows m c budget s (Err Budget) held searched behind so = absurd (so.concludes c held)

-- what ends behind the search may halt there
pub may_halt : (m : TheMap) (budget : ℕ) (why : Halt) → MayEnd m why → MayHalt m budget why
may_halt m budget (halt.Fault fault) may = may
may_halt m budget halt.Memory may = tt
may_halt m budget halt.Budget may = absurd may

-- what is so anyway
pub so_unless_memory : (why : Halt) (P : Type 0) → P → UnlessMemory why P
so_unless_memory (halt.Fault fault) P p = p
so_unless_memory halt.Memory P p = tt
so_unless_memory halt.Budget P p = p

with_counts : (why : Halt) (P Q : Type 0) → P → UnlessMemory why Q → UnlessMemory why (P × Q)
with_counts (halt.Fault fault) P Q p q = (p, q)
with_counts halt.Memory P Q p q = tt
with_counts halt.Budget P Q p q = (p, q)

-- behind a tree whose counts are the map's
pub counted_so : (m : TheMap) (budget : ℕ) (counts : Counts) (nodes : List TreeNode) (r : Result State Halt) → AreCounts m counts
    → LeadsBehindTree m budget (IsTree m nodes) (λ c. AreCounts m c.counts) nodes r → LeadsBehindTree m budget (AreCounts m counts × IsTree m nodes) (λ c. c.counts ≡ counts) nodes r
counted_so m budget counts nodes (Ok state) are begun = record {
  holds = λ c is. begun.holds c (subst (AreCounts m) (sym is) are);
  rounds = begun.rounds;
  searched = begun.searched;
  behind = begun.behind;
}
counted_so m budget counts nodes (Err why) are ends = record {
  halts = ends.halts;
  tree = with_counts why (AreCounts m counts) (IsTree m nodes) are ends.tree;
  meets = ends.meets;
}

-- a certificate of the first rounds, or of the first walks, allows what the whole one does
pub allowed_rounds : (m : TheMap) (c : TheCertificate) (n : ℕ) → AllowsSearch m (first_rounds c n) → AllowsSearch m c
allowed_rounds m c n h = record { counts = h.counts; tree = h.tree }

pub allowed_walks : (m : TheMap) (c : TheCertificate) (n : ℕ) → AllowsSearch m (first_walks c n) → AllowsSearch m c
allowed_walks m c n h = record { counts = h.counts; tree = h.tree }

module _ (m : TheMap) (c : TheCertificate) (budget : ℕ) where
  on_sound : (P : Type 0) → ((r : Report) → IsSoundByCert m c budget r → P) → (answer : Answer) → Shows m c budget answer → OnSound answer P
  on_sound P leads (Ok (verdict.Sound report)) shows = leads report shows
  on_sound P leads (Ok (verdict.MapFault fault)) shows = tt
  on_sound P leads (Ok (verdict.CertFault fault)) shows = tt
  on_sound P leads (Err why) shows = tt

  pub is_sound : (answer : Answer) → Shows m c budget answer → OnSound answer (IsSound m)
  is_sound = on_sound (IsSound m) (λ r is. record {
    planar = is.shown.planar;
    sides = is.shown.sides;
    closed = are_closed m c is.rings is.shown;
    points = is.shown.points;
    cells = is.shown.cells;
  })

  pub valid : (answer : Answer) → Shows m c budget answer → OnSound answer (IsValid m c)
  valid = on_sound (IsValid m c) (λ r is. is.shown.valid)

  pub within : (answer : Answer) → Shows m c budget answer → OnSound answer (meeting_segments m.chains ≤ budget)
  within = on_sound (meeting_segments m.chains ≤ budget) (λ r is. is.within)

  pub reported : (answer : Answer) → Shows m c budget answer → IfSound answer (IsReport m)
  reported (Ok (verdict.Sound report)) shows = is_report m c shows.rings shows.shown report shows.numbers
  reported (Ok (verdict.MapFault fault)) shows = tt
  reported (Ok (verdict.CertFault fault)) shows = tt
  reported (Err why) shows = tt

  pub map_fault : (answer : Answer) → Shows m c budget answer → IfMapFault answer (IsTrueOfMap m)
  map_fault (Ok (verdict.Sound report)) shows = tt
  map_fault (Ok (verdict.MapFault fault)) shows = shows.0
  map_fault (Ok (verdict.CertFault fault)) shows = tt
  map_fault (Err why) shows = tt

  pub cert_fault : (answer : Answer) → Shows m c budget answer → IfCertFault answer (IsTrueOfCert m c)
  cert_fault (Ok (verdict.Sound report)) shows = tt
  cert_fault (Ok (verdict.MapFault fault)) shows = tt
  cert_fault (Ok (verdict.CertFault fault)) shows = shows.0
  cert_fault (Err why) shows = tt

  pub behind : (answer : Answer) → Shows m c budget answer → IfCertFault answer (λ fault. IsOfDarts fault → IsPlanar m.chains)
  behind (Ok (verdict.Sound report)) shows = tt
  behind (Ok (verdict.MapFault fault)) shows = tt
  behind (Ok (verdict.CertFault fault)) shows = shows.1
  behind (Err why) shows = tt

  pub stops : (answer : Answer) → Shows m c budget answer → IfErr answer (MayStop m budget)
  stops (Ok verdict) shows = tt
  stops (Err (Record line cause)) shows = absurd shows
  stops (Err Memory) shows = tt
  stops (Err Device) shows = absurd shows
  stops (Err Budget) shows = shows.0

  pub searched : (answer : Answer) → Shows m c budget answer → OnSearched answer (AllowsSearch m c)
  searched (Ok (verdict.Sound report)) shows = tt
  searched (Ok (verdict.MapFault fault)) shows = fault_searched fault (AllowsSearch m c) shows.1
  searched (Ok (verdict.CertFault fault)) shows = tt
  searched (Err (Record line cause)) shows = tt
  searched (Err Memory) shows = tt
  searched (Err Device) shows = tt
  searched (Err Budget) shows = shows.1
