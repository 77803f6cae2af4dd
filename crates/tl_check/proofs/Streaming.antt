-- Certificates that are checked as their parts come.
use Rattle.std.proofs.Common.{◌≡◌, ℕ, ◌^◌, ◌<◌, List, [], Vec, Global, length, Option, None, Some, Ok, Err, refl, sym, ap, subst, ◌∙◌, arith}
use Rattle.std.specs.Option.{IfSome}
use Rattle.std.proofs.lemmas.Option.{IfSome_then}
use Rattle.tl_map_county.specs.TheMap.{TheMap}
use Rattle.tl_tree_index.specs.declared.node.TreeNode.{TreeNode}
use Rattle.tl_tree_index.specs.Preorder.{IsPreorder}
use Rattle.tl_cert.specs.declared.certificate.Counts.{Counts}
use Rattle.tl_cert.specs.declared.place.NextPart.{NextPart}
use Rattle.tl_cert.specs.declared.place.NextPart.TheVariants.{Start, Counted, Treed, Rounds, Walks}
use Rattle.tl_cert.specs.declared.place.CertPart.{CertPart}
use Rattle.tl_cert.specs.declared.place.CertPart.TheVariants as part
use Rattle.tl_cert.specs.declared.reader.CertReader.{CertReader}
use Rattle.tl_cert.specs.declared.reader.Standing.TheVariants.{Reading}
use Rattle.tl_cert.specs.declared.stop.CertStop.{CertStop}
use Rattle.tl_cert.specs.declared.stop.CertStop.TheVariants as stop
use Rattle.tl_cert.specs.Certificates.{TheCertificate}
use Rattle.tl_cert.specs.Beginnings.{IsTextOf}
use Rattle.tl_cert.specs.Given.{with_part, parts_left}
use Rattle.tl_cert.specs.Reading.{Gives, GivesAt, unread, lines_of, standing_of}
use Rattle.tl_cert.specs.Keeping.Collecting.{Collects, left_of}
use Rattle.tl_cert.proofs.CollectLemmas.{gives_here, collects_more, collects_all, collects_none, stops_all}
use Rattle.tl_check_sides.proofs.ListLemmas.{length-and, list-last}
use Rattle.tl_check_verdict.specs.declared.fault.CertFault.{CertFault}
use Rattle.tl_check_verdict.specs.declared.fault.CertFault.TheVariants as fault
use Rattle.tl_check_verdict.specs.declared.verdict.Verdict.TheVariants as verdict
use Rattle.tl_cert_output.specs.declared.stop.Stop.TheVariants.{Record, Memory, Device, Budget}
use Rattle.tl_check.specs.declared.state.State.{State}
use Rattle.tl_check.specs.declared.state.State.TheVariants as state
use Rattle.tl_check_verdict.specs.Valid.{AreCounts}
use Rattle.tl_check_verdict.specs.Truth.{IsTrueOfCert}
use Rattle.tl_check_verdict.specs.Texts.{IsTrueOfText}
use Rattle.tl_cert_output.specs.Stops.{TellsDevice}
use Rattle.tl_check_verdict.specs.Verdicts.{Answer}
use Rattle.tl_check.specs.Keeping.Answers.{stop_of}
use Rattle.tl_check.specs.Keeping.Parts.{Holds, TakesRounds, with_round, with_walk}
use Rattle.tl_check.specs.Keeping.Streams.{Stands, Suits, MayCome, TakesBehind, Decides, Concludes}
use Rattle.tl_check.proofs.Prefixes.{has_some}
use Rattle.tl_check.proofs.Shown.{are_closed, is_report}

module _ {R : Type 0} (remaining : R → Option (List ℕ)) (m : TheMap) (budget : ℕ) (first : CertReader R) where
  -- a stop
  pub stop_decides : (place : NextPart) (old new : CertReader R) (c : TheCertificate) (s : CertStop) → Collects remaining place first old c → Gives remaining old new (Err s) (standing_of old) → Decides m budget (unread remaining first) (stop_of s)
  stop_decides place old new c (stop.Text line) so gives = stops_all remaining place first old new c (stop.Text line) so (gives_here remaining old new (Err (stop.Text line)) place so.standing gives)
  stop_decides place old new c stop.Memory so gives = tt
  stop_decides place old new c stop.Device so gives = tt

  -- before any part
  pub nothing : TheCertificate
  nothing = record { version = 0; counts = record { chains = 0; segments = 0; nodes = 0; polygons = 0 }; tree = []; rounds = []; walks = [] }

  pub begun : standing_of first ≡ Reading Start → lines_of first ≡ 0 → Collects remaining Start first first nothing
  unfolding nothing
  begun is none = collects_none remaining first nothing is none (refl, refl, refl)

  -- the counts
  pub record AreRead (now : CertReader R) (counts : Counts) : Type 0 where
    pub version : ℕ
    pub cert : TheCertificate
    pub collects : Collects remaining (Counted version) first now cert
    pub counts_are : cert.counts ≡ counts

  pub counts_read : (now : CertReader R) (counts : Counts) (v : ℕ) → standing_of first ≡ Reading Start → lines_of first ≡ 0 → Gives remaining first now (Ok (Some (part.Counts counts v))) (standing_of first) → AreRead now counts
  counts_read now counts v is none gives =
      let so = begun is none in
      let at = gives_here remaining first now (Ok (Some (part.Counts counts v))) Start is gives in
      let more = collects_more remaining Start first first now nothing (with_part nothing (part.Counts counts v)) (part.Counts counts v) so at refl in
      record {
        version = v;
        cert = with_part nothing (part.Counts counts v);
        collects = subst (λ p. Collects remaining p first now (with_part nothing (part.Counts counts v))) at.4 more;
        counts_are = refl;
      }

  -- the tree
  pub record IsTreeRead (now : CertReader R) (counts : Counts) (nodes : List TreeNode) : Type 0 where
    pub version : ℕ
    pub cert : TheCertificate
    pub collects : Collects remaining (Treed version) first now cert
    pub counts_are : cert.counts ≡ counts
    pub tree_is : cert.tree ≡ nodes
    pub no_rounds : cert.rounds ≡ []
    pub no_walks : cert.walks ≡ []
    pub preorder : IsPreorder nodes
    pub few : length nodes < 2 ^ 32

  pub tree_read : (old now : CertReader R) (counts : Counts) (nodes : Vec TreeNode Global) → AreRead old counts → Gives remaining old now (Ok (Some (part.Tree nodes))) (standing_of old) → IsTreeRead now counts nodes.items
  tree_read old now counts nodes r gives =
      let at = gives_here remaining old now (Ok (Some (part.Tree nodes))) (Counted r.version) r.collects.standing gives in
      let c = with_part r.cert (part.Tree nodes) in
      let more = collects_more remaining (Counted r.version) first old now r.cert c (part.Tree nodes) r.collects at refl in
      let here : Collects remaining (Treed r.version) first now c = subst (λ p. Collects remaining p first now c) at.4 more in
      let given = here.behind.given in
      record {
        version = r.version;
        cert = c;
        collects = here;
        counts_are = r.counts_are;
        tree_is = refl;
        no_rounds = given.2;
        no_walks = given.3;
        preorder = given.0.0.preorder;
        few = given.0.0.counted;
      }

  -- a round, and a walk
  pub record IsRoundRead (now : CertReader R) (c : TheCertificate) (darts : List ℕ) : Type 0 where
    pub left : ℕ
    pub collects : Collects remaining (Rounds left) first now (with_round c darts)
    pub some : 0 < length darts

  pub round_read : (old now : CertReader R) (s : State) (darts : Vec ℕ Global) (st : Stands remaining m first old s) → Gives remaining old now (Ok (Some (part.Round darts))) (standing_of old) → IsRoundRead now st.cert darts.items × TakesRounds s
  round_read old now s darts st gives = go st.place st.collects st.suits (gives_here remaining old now (Ok (Some (part.Round darts))) st.place st.collects.standing gives)
    where
      c : TheCertificate
      c = with_round st.cert darts.items

      made : (next : NextPart) (left : ℕ) → next ≡ Rounds left → Collects remaining next first now c → IsRoundRead now st.cert darts.items
      made next left e so =
          let here : Collects remaining (Rounds left) first now c = subst (λ p. Collects remaining p first now c) e so in
          record {
            left = left;
            collects = here;
            some = has_some c.rounds (length st.cert.rounds) darts.items here.behind.given.0.0.rounds (list-last st.cert.rounds darts.items (length st.cert.rounds) refl) (let l = length-and st.cert.rounds darts.items in omega (arith, l));
          }

      go : (place : NextPart) → Collects remaining place first old st.cert → Suits place s → GivesAt remaining place old now (Ok (Some (part.Round darts))) → IsRoundRead now st.cert darts.items × TakesRounds s
      go Start so suits at = absurd suits
      go (Counted version) so suits at = absurd suits
      go (Treed version) so suits at = (made at.0 at.4.0 at.4.1 (collects_more remaining (Treed version) first old now st.cert c (part.Round darts) so at refl), suits)
      go (Rounds left) so suits at = (made at.0 at.4.0 at.4.1 (collects_more remaining (Rounds left) first old now st.cert c (part.Round darts) so at refl), suits)
      go (Walks left) so suits at = absurd at.4

  pub record IsWalkRead (now : CertReader R) (c : TheCertificate) (darts : List ℕ) : Type 0 where
    pub left : ℕ
    pub collects : Collects remaining (Walks left) first now (with_walk c darts)
    pub some : 0 < length darts

  pub walk_read : (old now : CertReader R) (s : State) (darts : Vec ℕ Global) (st : Stands remaining m first old s) → Gives remaining old now (Ok (Some (part.Walk darts))) (standing_of old) → IsWalkRead now st.cert darts.items
  walk_read old now s darts st gives = go st.place st.collects st.suits (gives_here remaining old now (Ok (Some (part.Walk darts))) st.place st.collects.standing gives)
    where
      c : TheCertificate
      c = with_walk st.cert darts.items

      made : (next : NextPart) (left : ℕ) → next ≡ Walks left → Collects remaining next first now c → IsWalkRead now st.cert darts.items
      made next left e so =
          let here : Collects remaining (Walks left) first now c = subst (λ p. Collects remaining p first now c) e so in
          record {
            left = left;
            collects = here;
            some = has_some c.walks (length st.cert.walks) darts.items here.behind.given.0.0.walks (list-last st.cert.walks darts.items (length st.cert.walks) refl) (let l = length-and st.cert.walks darts.items in omega (arith, l));
          }

      go : (place : NextPart) → Collects remaining place first old st.cert → Suits place s → GivesAt remaining place old now (Ok (Some (part.Walk darts))) → IsWalkRead now st.cert darts.items
      go Start so suits at = absurd suits
      go (Counted version) so suits at = absurd suits
      go (Treed version) so suits at = made at.0 at.4.0 at.4.1 (collects_more remaining (Treed version) first old now st.cert c (part.Walk darts) so at refl)
      go (Rounds left) so suits at = made at.0 at.4.0 at.4.1 (collects_more remaining (Rounds left) first old now st.cert c (part.Walk darts) so at refl)
      go (Walks left) so suits at = made at.0 at.4.0 at.4.1 (collects_more remaining (Walks left) first old now st.cert c (part.Walk darts) so at refl)

  -- one of them
  pub record IsPartRead (now : CertReader R) (c : TheCertificate) (given : CertPart) : Type 0 where
    pub place : NextPart
    pub collects : Collects remaining place first now (with_part c given)
    pub suits : (s : State) → TakesBehind given s → Suits place s
    pub counts : (with_part c given).counts ≡ c.counts
    pub tree : (with_part c given).tree ≡ c.tree

  pub part_read : (old now : CertReader R) (s : State) (given : CertPart) (st : Stands remaining m first old s) → Gives remaining old now (Ok (Some given)) (standing_of old) → IsPartRead now st.cert given × MayCome given s
  part_read old now s (part.Counts counts v) st gives = go st.place st.suits (gives_here remaining old now (Ok (Some (part.Counts counts v))) st.place st.collects.standing gives)
    where
      go : {P : Type 0} (place : NextPart) → Suits place s → GivesAt remaining place old now (Ok (Some (part.Counts counts v))) → P
      go Start suits at = absurd suits
      go (Counted version) suits at = absurd suits
      go (Treed version) suits at = absurd at.4
      go (Rounds left) suits at = absurd at.4
      go (Walks left) suits at = absurd at.4
  part_read old now s (part.Tree nodes) st gives = go st.place st.suits (gives_here remaining old now (Ok (Some (part.Tree nodes))) st.place st.collects.standing gives)
    where
      go : {P : Type 0} (place : NextPart) → Suits place s → GivesAt remaining place old now (Ok (Some (part.Tree nodes))) → P
      go Start suits at = absurd suits
      go (Counted version) suits at = absurd suits
      go (Treed version) suits at = absurd at.4
      go (Rounds left) suits at = absurd at.4
      go (Walks left) suits at = absurd at.4
  part_read old now s (part.Round darts) st gives =
      let r = round_read old now s darts st gives in
      (record { place = Rounds r.0.left; collects = r.0.collects; suits = λ next takes. takes; counts = refl; tree = refl }, (r.0.some, r.1))
  part_read old now s (part.Walk darts) st gives =
      let r = walk_read old now s darts st gives in
      (record { place = Walks r.left; collects = r.collects; suits = λ next takes. takes; counts = refl; tree = refl }, r.some)

  -- the end
  true_of_text : (c : TheCertificate) (text : List ℕ) (f : CertFault) → IsTextOf c text → IsTrueOfCert m c f → IsTrueOfText m text f
  true_of_text c text (fault.Text line) is true = absurd true
  true_of_text c text fault.Counts is true = (c, is, true)
  true_of_text c text (fault.Tree t) is true = (c, is, true)
  true_of_text c text fault.TooDeep is true = (c, is, true)
  true_of_text c text (fault.Round r) is true = (c, is, true)
  true_of_text c text (fault.Walk w) is true = (c, is, true)

  concluded : (c : TheCertificate) (answer : Answer) → IfSome (unread remaining first) (λ text. IsTextOf c text) → Concludes m c answer → Decides m budget (unread remaining first) answer
  concluded c (Ok (verdict.Sound report)) is (rings, shown, numbers) = record {
    planar = shown.planar;
    points = shown.points;
    cells = shown.cells;
    sides = shown.sides;
    closed = are_closed m c rings shown;
    report = is_report m c rings shown report numbers;
    valid = IfSome_then (unread remaining first) is (λ text is_text. (c, is_text, shown.valid));
  }
  concluded c (Ok (verdict.MapFault f)) is so = so
  concluded c (Ok (verdict.CertFault f)) is so = IfSome_then (unread remaining first) is (λ text is_text. true_of_text c text f is_text so)
  concluded c (Err (Record line cause)) is so = so
  concluded c (Err Memory) is so = tt
  concluded c (Err Device) is so = tt
  concluded c (Err Budget) is so = absurd so

  pub end_decides : (old now : CertReader R) (s : State) (answer : Answer) (st : Stands remaining m first old s) → Gives remaining old now (Ok None) (standing_of old) → Concludes m st.cert answer → Decides m budget (unread remaining first) answer
  end_decides old now s answer st gives so =
      concluded st.cert answer (collects_all remaining st.place first old now st.cert st.collects (gives_here remaining old now (Ok None) st.place st.collects.standing gives)).1 so

-- what is concluded is no failed read
pub no_device : (m : TheMap) (c : TheCertificate) (answer : Answer) (old new : ℕ) → Concludes m c answer → new ≡ old → TellsDevice old new answer
no_device m c (Ok v) old new so e = e
no_device m c (Err (Record line cause)) old new so e = absurd so
no_device m c (Err Memory) old new so e = e
no_device m c (Err Device) old new so e = absurd so
no_device m c (Err Budget) old new so e = absurd so

-- counts that aren't the map's are so in each certificate that goes on
pub wrong_counts : (m : TheMap) (c : TheCertificate) (counts : Counts) → c.counts ≡ counts → ¬ AreCounts m counts → Holds m c (state.Wrong fault.Counts)
wrong_counts m c counts e not = λ d on are. not (subst (AreCounts m) (on.counts ∙ e) are)

-- an answer told part by part
pub gives_as : {R : Type 0} (remaining : R → Option (List ℕ)) (old new : CertReader R) (found : Option CertPart) (some given : CertPart) → found ≡ Some some → some ≡ given → Gives remaining old new (Ok found) (standing_of old) → Gives remaining old new (Ok (Some given)) (standing_of old)
gives_as remaining old new found some given e f gives = subst (λ a. Gives remaining old new (Ok a) (standing_of old)) (e ∙ ap Some f) gives

-- behind a part fewer are left
pub fewer_left : {R : Type 0} (remaining : R → Option (List ℕ)) (place : NextPart) (old new : CertReader R) (given : CertPart) → standing_of old ≡ Reading place → Gives remaining old new (Ok (Some given)) (standing_of old) → left_of (standing_of new) < left_of (standing_of old)
fewer_left remaining place old new given is gives =
    let at = gives_here remaining old new (Ok (Some given)) place is gives in
    subst (λ s. left_of (standing_of new) < left_of s) (sym is) (subst (λ s. left_of s < parts_left place) (sym at.1) at.2)
