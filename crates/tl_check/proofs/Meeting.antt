-- Answers that come only where no two segments meet where they may not, if the text allows a search.
use Rattle.std.proofs.Common.{◌≡◌, ℕ, List, [], ◌∷◌, ◌++◌, Option, None, Some, Ok, Err, sym, ap, subst, ◌∙◌, append_assoc}
use Rattle.std.specs.Option.{IfSome}
use Rattle.std.proofs.lemmas.Option.{IfSome_then}
use Rattle.tl_record.specs.Lines.{joined_lines}
use Rattle.tl_map_county.specs.TheMap.{TheMap}
use Rattle.tl_check_planar.specs.Planar.{IsPlanar}
use Rattle.tl_map_rules.specs.declared.fault.MapStop.{MapStop}
use Rattle.tl_map_rules.specs.declared.fault.MapStop.TheVariants as map
use Rattle.tl_cert.specs.declared.place.NextPart.TheVariants.{Start, Counted, Treed}
use Rattle.tl_cert.specs.declared.reader.CertReader.{CertReader}
use Rattle.tl_cert.specs.declared.stop.CertStop.{CertStop}
use Rattle.tl_cert.specs.declared.stop.CertStop.TheVariants as cert
use Rattle.tl_cert.specs.Certificates.{TheCertificate, IsCertificate}
use Rattle.tl_cert.specs.Text.{head_line, counts_line, tree_lines}
use Rattle.tl_cert.specs.Reading.{Gives, BreaksOff, unread, standing_of}
use Rattle.tl_cert.specs.Keeping.Collecting.{Collects, Follows}
use Rattle.tl_cert.proofs.Completing.{joined-append}
use Rattle.tl_cert.proofs.CollectLemmas.{gives_here, breaks_all}
use Rattle.tl_cert.proofs.Leading.{one_beginning}
use Rattle.tl_check_verdict.specs.declared.fault.MapFault.{MapFault}
use Rattle.tl_check_verdict.specs.declared.fault.MapFault.TheVariants.{Records, NoRecords, Meet, Side, PolygonPoint, Cell, Face}
use Rattle.tl_check_verdict.specs.declared.verdict.Verdict.TheVariants as verdict
use Rattle.tl_check.specs.declared.state.Halt.{Halt}
use Rattle.tl_check.specs.declared.state.Halt.TheVariants as halt
use Rattle.tl_check.specs.declared.state.State.{State}
use Rattle.tl_check.specs.declared.state.State.TheVariants as state
use Rattle.tl_check_verdict.specs.Valid.{AreCounts, IsTree, AllowsSearch}
use Rattle.tl_check_verdict.specs.Texts.{TextAllowsSearch}
use Rattle.tl_check_verdict.specs.Verdicts.{Answer, UnlessMeet}
use Rattle.tl_check.specs.Keeping.Answers.{answer_of, stop_of, refusal_of}
use Rattle.tl_check.specs.Keeping.Parts.{Holds, IsBehindSearch, UnlessMet}
use Rattle.tl_check_verdict.proofs.Denials.{of_darts_alone}
use Rattle.tl_check.proofs.Prefixes.{first_rounds, first_walks}
use Rattle.tl_check.proofs.Whole.{goes_on_with_nothing}

-- what is so anyway
fault_meets : (fault : MapFault) (P : Type 0) → P → UnlessMeet (Ok (verdict.MapFault fault)) P
fault_meets (Records fault) P p = tt
fault_meets (NoRecords lacking) P p = tt
fault_meets (Meet meet) P p = tt
fault_meets (Side node first next) P p = p
fault_meets (PolygonPoint fault) P p = p
fault_meets (Cell odds) P p = p
fault_meets (Face fault) P p = p

pub meets_so : (answer : Answer) (P : Type 0) → P → UnlessMeet answer P
meets_so (Ok (verdict.Sound report)) P p = p
meets_so (Ok (verdict.CertFault fault)) P p = p
meets_so (Ok (verdict.MapFault fault)) P p = fault_meets fault P p
meets_so (Err why) P p = tt

-- what is so of another thing
fault_leads : (fault : MapFault) (P Q : Type 0) → UnlessMeet (Ok (verdict.MapFault fault)) P → (P → Q) → UnlessMeet (Ok (verdict.MapFault fault)) Q
fault_leads (Records fault) P Q p so = tt
fault_leads (NoRecords lacking) P Q p so = tt
fault_leads (Meet meet) P Q p so = tt
fault_leads (Side node first next) P Q p so = so p
fault_leads (PolygonPoint fault) P Q p so = so p
fault_leads (Cell odds) P Q p so = so p
fault_leads (Face fault) P Q p so = so p

pub meets_leads : (answer : Answer) (P Q : Type 0) → UnlessMeet answer P → (P → Q) → UnlessMeet answer Q
meets_leads (Ok (verdict.Sound report)) P Q p so = so p
meets_leads (Ok (verdict.CertFault fault)) P Q p so = so p
meets_leads (Ok (verdict.MapFault fault)) P Q p so = fault_leads fault P Q p so
meets_leads (Err why) P Q p so = tt

-- where no further part is looked at
met_fault : (fault : MapFault) (P : Type 0) → P → UnlessMet (halt.Fault fault) P
met_fault (Records fault) P p = p
met_fault (NoRecords lacking) P p = p
met_fault (Meet meet) P p = tt
met_fault (Side node first next) P p = p
met_fault (PolygonPoint fault) P p = p
met_fault (Cell odds) P p = p
met_fault (Face fault) P p = p

pub met_so : (why : Halt) (P : Type 0) → P → UnlessMet why P
met_so (halt.Fault fault) P p = met_fault fault P p
met_so halt.Memory P p = tt
met_so halt.Budget P p = tt

halted_fault : (fault : MapFault) (P Q : Type 0) → UnlessMet (halt.Fault fault) P → (P → Q) → UnlessMeet (Ok (verdict.MapFault fault)) Q
halted_fault (Records fault) P Q p so = tt
halted_fault (NoRecords lacking) P Q p so = tt
halted_fault (Meet meet) P Q p so = tt
halted_fault (Side node first next) P Q p so = so p
halted_fault (PolygonPoint fault) P Q p so = so p
halted_fault (Cell odds) P Q p so = so p
halted_fault (Face fault) P Q p so = so p

pub halted_meets : (why : Halt) (P Q : Type 0) → UnlessMet why P → (P → Q) → UnlessMeet (answer_of why) Q
halted_meets (halt.Fault fault) P Q p so = halted_fault fault P Q p so
halted_meets halt.Memory P Q p so = tt
halted_meets halt.Budget P Q p so = tt

-- where the records have no map
pub refused_meets : (why : MapStop) (P : Type 0) → UnlessMeet (refusal_of why) P
refused_meets (map.Refused line cause) P = tt
refused_meets map.Device P = tt
refused_meets map.Memory P = tt
refused_meets (map.Fault fault) P = tt
refused_meets (map.NoRecords lacking) P = tt

-- chains are planar behind parts that were taken, where their certificate allows a search
allowed_planar : (m : TheMap) (c : TheCertificate) (s : State) → Holds m c s → IsBehindSearch m s → AllowsSearch m c → IsPlanar m.chains
allowed_planar m c (state.Rounding rounds left) held behind allows = behind
allowed_planar m c (state.Walking walks left) held behind allows = behind
allowed_planar m c (state.Unrounded fault) held behind allows = behind
allowed_planar m c (state.Wrong fault) held behind allows = behind (of_darts_alone m c fault (held c (goes_on_with_nothing c)) allows)

-- the same of a certificate in memory, behind some of its rounds and behind some of its walks
pub rounds_planar : (m : TheMap) (c : TheCertificate) (n : ℕ) (s : State) → Holds m (first_rounds c n) s → IsBehindSearch m s → AllowsSearch m c → IsPlanar m.chains
rounds_planar m c n s held behind allows = allowed_planar m (first_rounds c n) s held behind (record { counts = allows.counts; tree = allows.tree })

pub walks_planar : (m : TheMap) (c : TheCertificate) (n : ℕ) (s : State) → Holds m (first_walks c n) s → IsBehindSearch m s → AllowsSearch m c → IsPlanar m.chains
walks_planar m c n s held behind allows = allowed_planar m (first_walks c n) s held behind (record { counts = allows.counts; tree = allows.tree })

-- chains are planar, where a search may be made by the text
abbrev pub PlanarBy : TheMap → Option (List ℕ) → Type 0
PlanarBy m text = IfSome text (λ t. TextAllowsSearch m t → IsPlanar m.chains)

pub planar_by : (m : TheMap) (text : Option (List ℕ)) → IsPlanar m.chains → PlanarBy m text
planar_by m None planar = tt
planar_by m (Some text) planar = λ allows. planar

-- a text that allows a search begins with counts, and with counts and a tree
joined_behind : (xs ys : List (List ℕ)) (rest : List ℕ) → joined_lines (xs ++ ys) ++ rest ≡ joined_lines xs ++ (joined_lines ys ++ rest)
joined_behind xs ys rest = ap (λ (b : List ℕ). b ++ rest) (joined-append xs ys) ∙ append_assoc (joined_lines xs) (joined_lines ys) rest

no_counts : (m : TheMap) (text : List ℕ) → BreaksOff Start text → TextAllowsSearch m text → ⊥
no_counts m text breaks allows =
    let c = allows.certificate in
    breaks c (joined_lines (tree_lines c.version c.tree) ++ allows.rest) allows.is_one
    (allows.begins ∙ joined_behind (head_line c.version ∷ counts_line c.counts ∷ []) (tree_lines c.version c.tree) allows.rest)

no_tree : (m : TheMap) (version : ℕ) (text : List ℕ) → BreaksOff (Counted version) text → TextAllowsSearch m text → ⊥
no_tree m version text breaks allows = breaks allows.certificate allows.rest allows.is_one allows.begins

module _ {R : Type 0} (remaining : R → Option (List ℕ)) (m : TheMap) (first : CertReader R) where
  -- where the counts can't be read, and where the tree can't
  pub start_meets : (now : CertReader R) (c : TheCertificate) (why : CertStop) → Collects remaining Start first first c → Gives remaining first now (Err why) (standing_of first)
      → UnlessMeet (stop_of why) (PlanarBy m (unread remaining first))
  start_meets now c (cert.Text line) so gives =
      IfSome_then (unread remaining first) (breaks_all remaining Start first first now c line so (gives_here remaining first now (Err (cert.Text line)) Start so.standing gives))
      (λ text breaks allows. absurd (no_counts m text breaks allows))
  start_meets now c cert.Memory so gives = tt
  start_meets now c cert.Device so gives = tt

  pub counted_meets : (version : ℕ) (old now : CertReader R) (c : TheCertificate) (why : CertStop) → Collects remaining (Counted version) first old c
      → Gives remaining old now (Err why) (standing_of old) → UnlessMeet (stop_of why) (PlanarBy m (unread remaining first))
  counted_meets version old now c (cert.Text line) so gives =
      IfSome_then (unread remaining first) (breaks_all remaining (Counted version) first old now c line so (gives_here remaining old now (Err (cert.Text line)) (Counted version) so.standing gives))
      (λ text breaks allows. absurd (no_tree m version text breaks allows))
  counted_meets version old now c cert.Memory so gives = tt
  counted_meets version old now c cert.Device so gives = tt

  -- the certificate whose counts and tree were read allows a search where the text does
  allows_alone : (c : TheCertificate) (text rest : List ℕ) → IsCertificate c → text ≡ joined_lines (head_line c.version ∷ counts_line c.counts ∷ tree_lines c.version c.tree) ++ rest
      → TextAllowsSearch m text → AllowsSearch m c
  allows_alone c text rest is begins allows =
      let same = one_beginning allows.certificate c allows.rest rest allows.is_one is (sym allows.begins ∙ begins) in
      record { counts = subst (AreCounts m) same.0 allows.allows.counts; tree = subst (IsTree m) same.1 allows.allows.tree }

  text_planar : (version : ℕ) (c : TheCertificate) (s : State) (text left : Option (List ℕ)) → IsCertificate c → Follows text left (Treed version) c → Holds m c s → IsBehindSearch m s
      → PlanarBy m text
  text_planar version c s None left is follows held behind = tt
  text_planar version c s (Some text) None is follows held behind = absurd follows
  text_planar version c s (Some text) (Some rest) is follows held behind = λ allows. allowed_planar m c s held behind (allows_alone c text rest is follows allows)

  -- behind the tree
  pub taken_planar : (version : ℕ) (now : CertReader R) (c : TheCertificate) (s : State) → Collects remaining (Treed version) first now c → Holds m c s → IsBehindSearch m s
      → PlanarBy m (unread remaining first)
  taken_planar version now c s so held behind = text_planar version c s (unread remaining first) (unread remaining now) so.behind.given.0 so.text held behind
