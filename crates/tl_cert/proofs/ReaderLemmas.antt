-- What a part, an end or a stop says of the whole text, whatever parts were given before.
use Rattle.std.proofs.Common.{◌≡◌, ℕ, ◌+◌, List, [], ◌∷◌, ◌++◌, length, length-append, Option, None, Some, Result, Ok, Err, sym, ap, subst, ◌∙◌, arith, append_assoc, codes}
use Rattle.std.specs.Option.{IfSome}
use Rattle.std.specs.Io.KnownBytes.{Consumes, IsAtEnd}
use Rattle.tl_record.specs.Lines.{joined_lines}
use Rattle.tl_cert.specs.declared.place.NextPart.{NextPart}
use Rattle.tl_cert.specs.declared.place.NextPart.TheVariants.{Start, Counted, Treed, Rounds, Walks}
use Rattle.tl_cert.specs.declared.place.CertPart.{CertPart}
use Rattle.tl_cert.specs.declared.reader.CertReader.{CertReader}
use Rattle.tl_cert.specs.declared.reader.Standing.{Standing}
use Rattle.tl_cert.specs.declared.reader.Standing.TheVariants.{Reading}
use Rattle.tl_cert.specs.declared.stop.CertStop.{CertStop}
use Rattle.tl_cert.specs.declared.stop.CertStop.TheVariants.{Text, Memory, Device}
use Rattle.tl_cert.specs.Certificates.{TheCertificate, IsCertificate}
use Rattle.tl_cert.specs.Text.{head_line, counts_line, tree_lines, rounds_lines, walks_lines, all_darts_lines, numbered_line, certificate_lines}
use Rattle.tl_cert.specs.Beginnings.{IsTextOf, IsRefused}
use Rattle.tl_cert.specs.Given.{AreGiven, given_lines, with_part, MayEnd}
use Rattle.tl_cert.specs.Reading.{IsBehind, GoesOn, GivesAt, Gives, BreaksOff, whole}
use Rattle.tl_cert.specs.Keeping.Lines.{LineState, taken, untaken}
use Rattle.tl_cert.specs.Keeping.Collecting.{state_of}
use Rattle.tl_cert.specs.Keeping.Parts.{IsStuckAfter}
use Rattle.tl_cert.specs.Keeping.Places.{ReadsPart, state_at}
use Rattle.tl_cert.specs.Keeping.Steps.{State, start, headed, counted, tree, rounds, walks, at_head, at_counts, at_rounds, at_walks, Runs, no_line, first_line, IsStuck, stage}
use Rattle.tl_cert.proofs.RunLemmas.{runs-append, tree_runs, rounds_run, walks_run, all_rounds_run}
use Rattle.tl_cert.proofs.Completing.{joined-append}
use Rattle.tl_cert.proofs.Stuck.{stuck_is_refused}
use Rattle.tl_cert.proofs.Lacking.{stuck_before}

-- head, counts and tree
abbrev front : TheCertificate → List (List ℕ)
front c = head_line c.version ∷ counts_line c.counts ∷ tree_lines c.version c.tree

pub front_runs : (c : TheCertificate) → IsCertificate c → Runs start (front c) (tree c.version 0 0 0)
front_runs c is =
    first_line start (headed c.version) (tree c.version 0 0 0) (head_line c.version) (counts_line c.counts ∷ tree_lines c.version c.tree) (at_head c.version is.0.version)
    (first_line (headed c.version) (counted c.version) (tree c.version 0 0 0) (counts_line c.counts) (tree_lines c.version c.tree) (at_counts c.version c.counts is.1.counts)
    (tree_runs c.version c.tree is.0.preorder is.0.counted is.0.nodes is.1.tree is.0.version))

counts_run : (c : TheCertificate) → IsCertificate c → Runs start (given_lines (Counted c.version) c) (counted c.version)
counts_run c is =
    first_line start (headed c.version) (counted c.version) (head_line c.version) (counts_line c.counts ∷ []) (at_head c.version is.0.version)
    (first_line (headed c.version) (counted c.version) (counted c.version) (counts_line c.counts) [] (at_counts c.version c.counts is.1.counts) (no_line (counted c.version)))

-- the lines of the parts that were given lead to their place
pub given_runs : (place : NextPart) (c : TheCertificate) → AreGiven place c → Runs start (given_lines place c) (state_at place)
given_runs Start c given = no_line start
given_runs (Counted version) c given =
    subst (λ v. Runs start (given_lines (Counted version) c) (counted v)) given.1 (counts_run c given.0)
given_runs (Treed version) c given = subst (λ v. Runs start (front c) (tree v 0 0 0)) given.1 (front_runs c given.0)
given_runs (Rounds left) c given =
    let n = length c.rounds + left in
    runs-append start (tree c.version 0 0 0) (rounds left 0) (front c) (rounds_lines n c.rounds) (front_runs c given.0)
    (first_line (tree c.version 0 0 0) (rounds n 0) (rounds left 0) (numbered_line (codes "N") n) (all_darts_lines (codes "R") c.rounds) (at_rounds c.version n given.1)
    (rounds_run left c.rounds given.0.0.rounds.each given.0.1.rounds))
given_runs (Walks left) c given =
    let n = length c.walks + left in
    let all = rounds_lines (length c.rounds) c.rounds in
    runs-append start (rounds 0 0) (walks left 0) (front c ++ all) (walks_lines n c.walks)
    (runs-append start (tree c.version 0 0 0) (rounds 0 0) (front c) all (front_runs c given.0) (all_rounds_run c.version c.rounds given.0.0.rounds given.0.1.rounds))
    (first_line (rounds 0 0) (walks n 0) (walks left 0) (numbered_line (codes "W") n) (all_darts_lines (codes "K") c.walks) (at_walks n given.1)
    (walks_run left c.walks given.0.0.walks.each given.0.1.walks))

goes_on : (left after : Option (List ℕ)) (place next : NextPart) (c d : TheCertificate) (lines : List (List ℕ)) → Consumes left after (joined_lines lines)
    → given_lines next d ≡ given_lines place c ++ lines → GoesOn left after place next c d
goes_on None after place next c d lines bytes adds = tt
goes_on (Some text) None place next c d lines bytes adds = bytes
goes_on (Some text) (Some rest) place next c d lines bytes adds =
    let front = joined_lines (given_lines place c) in
    ap (λ (b : List ℕ). front ++ b) bytes ∙ sym (append_assoc front (joined_lines lines) rest)
    ∙ ap (λ (b : List ℕ). b ++ rest) (sym (joined-append (given_lines place c) lines) ∙ ap joined_lines (sym adds))

pub given_part : {R : Type 0} (remaining : R → Option (List ℕ)) (place next : NextPart) (given : CertPart) (old new : LineState R) → ReadsPart remaining place old new (Ok (Some (given, next)))
    → (c : TheCertificate) → IsBehind (taken old) place c → IsBehind (taken new) next (with_part c given) × GoesOn (untaken remaining old) (untaken remaining new) place next c (with_part c given)
given_part remaining place next given old new reads c behind =
    let adds = reads.2 c behind.given in (
      record { given = adds.0; counted = let sizes = ap length adds.1 ∙ length-append (given_lines place c) reads.0 in omega (arith, sizes, reads.1.counted, behind.counted) },
      goes_on (untaken remaining old) (untaken remaining new) place next c (with_part c given) reads.0 reads.1.bytes adds.1,
    )

ends_at : (left : Option (List ℕ)) (place : NextPart) (c : TheCertificate) (lines : List (List ℕ)) → IfSome left (λ text. text ≡ joined_lines lines)
    → IsCertificate c → certificate_lines c ≡ given_lines place c ++ lines → IfSome left (λ text. IsTextOf c (whole place c text))
ends_at None place c lines is made all = tt
ends_at (Some text) place c lines is made all = record {
  certificate = made;
  spelt = ap (λ (b : List ℕ). joined_lines (given_lines place c) ++ b) is ∙ sym (joined-append (given_lines place c) lines) ∙ ap joined_lines (sym all);
}

pub given_end : {R : Type 0} (remaining : R → Option (List ℕ)) (place : NextPart) (old new : LineState R) → ReadsPart remaining place old new (Ok None)
    → IsAtEnd (remaining new.source) × ((c : TheCertificate) → IsBehind (taken old) place c → IsCertificate c × IfSome (untaken remaining old) (λ text. IsTextOf c (whole place c text))) × MayEnd place
given_end remaining place old new reads = (
  reads.3,
  λ c behind. let ends = reads.1 c behind.given in (ends.0, ends_at (untaken remaining old) place c reads.0 reads.2 ends.0 ends.1),
  reads.4,
)

-- lines that stand where the text is refused within a part
breaks_off : (place : NextPart) (lines : List (List ℕ)) (t : State) (rest text : List ℕ) → Runs start lines t → stage t ≡ stage (state_at place) → IsStuck t rest
    → joined_lines lines ++ rest ≡ text → BreaksOff place text
breaks_off Start lines t rest text run within stuck same = λ c other is begins.
    stuck_before start t (counted c.version) lines (given_lines (Counted c.version) c) rest other run stuck (counts_run c is) (omega (arith, within)) (same ∙ begins)
breaks_off (Counted version) lines t rest text run within stuck same = λ c other is begins.
    stuck_before start t (tree c.version 0 0 0) lines (front c) rest other run stuck (front_runs c is) (omega (arith, within)) (same ∙ begins)
breaks_off (Treed version) lines t rest text run within stuck same = tt
breaks_off (Rounds left) lines t rest text run within stuck same = tt
breaks_off (Walks left) lines t rest text run within stuck same = tt

refused_at : (left : Option (List ℕ)) (place : NextPart) (c : TheCertificate) (before line : ℕ) → AreGiven place c → before ≡ length (given_lines place c)
    → IfSome left (λ text. IsStuckAfter (state_at place) before text line) → IfSome left (λ text. IsRefused (whole place c text) line × BreaksOff place (whole place c text))
refused_at None place c before line given counts stuck = tt
refused_at (Some text) place c before line given counts stuck =
    let all = given_lines place c ++ stuck.lines in
    let runs = runs-append start (state_at place) stuck.state (given_lines place c) stuck.lines (given_runs place c given) stuck.runs in
    let refused = stuck_is_refused all stuck.state stuck.rest runs stuck.stuck in
    let same : joined_lines all ++ stuck.rest ≡ whole place c text =
    ap (λ (b : List ℕ). b ++ stuck.rest) (joined-append (given_lines place c) stuck.lines) ∙ append_assoc (joined_lines (given_lines place c)) (joined_lines stuck.lines) stuck.rest
    ∙ ap (λ (b : List ℕ). joined_lines (given_lines place c) ++ b) (sym stuck.whole) in
    let number : 1 + length all ≡ line = omega (arith, stuck.told, counts, length-append (given_lines place c) stuck.lines) in (
      subst (λ n. IsRefused (whole place c text) n) number (subst (λ (b : List ℕ). IsRefused b (1 + length all)) same refused),
      breaks_off place all stuck.state stuck.rest (whole place c text) runs stuck.within stuck.stuck same,
    )

pub given_stop : {R : Type 0} (remaining : R → Option (List ℕ)) (place : NextPart) (old new : CertReader R) (mid : LineState R) (stop : CertStop) → ReadsPart remaining place (state_of old) mid (Err stop)
    → GivesAt remaining place old new (Err stop)
given_stop remaining place old new mid (Text line) reads = λ c behind. refused_at (untaken remaining (state_of old)) place c (taken (state_of old)) line behind.given behind.counted reads
given_stop remaining place old new mid Memory reads = tt
given_stop remaining place old new mid Device reads = tt

-- where the reader still reads
pub at_place : {R : Type 0} (remaining : R → Option (List ℕ)) (old new : CertReader R) (answer : Result (Option CertPart) CertStop) (standing : Standing) (place : NextPart)
    → standing ≡ Reading place → GivesAt remaining place old new answer → Gives remaining old new answer standing
at_place remaining old new answer standing place is gives = subst (Gives remaining old new answer) (sym is) gives

pub stop_at_place : {R : Type 0} (remaining : R → Option (List ℕ)) (old new : CertReader R) (mid : LineState R) (stop : CertStop) (standing : Standing) (place : NextPart)
    → standing ≡ Reading place → ReadsPart remaining place (state_of old) mid (Err stop) → Gives remaining old new (Err stop) standing
stop_at_place remaining old new mid stop standing place is reads = at_place remaining old new (Err stop) standing place is (given_stop remaining place old new mid stop reads)
