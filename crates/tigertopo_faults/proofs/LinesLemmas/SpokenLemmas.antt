-- The records that a fault speaks of, one after the other.
use Rattle.std.proofs.Common.{◌≡◌, ℕ, ◌+◌, ◌<◌, ◌≤◌, List, [], ◌++◌, Option, drop, get_or, length, refl, sym, ap, ◌∙◌}
use Rattle.std.proofs.lemmas.List.{drop_more, drop_all}
use Rattle.tl_geom.specs.declared.rational.Rational.{Rational}
use Rattle.tl_check_verdict.specs.declared.fault.MapFault.{MapFault}
use Rattle.tl_check_verdict.specs.declared.rows.About.{About}
use Rattle.tl_check_verdict.specs.declared.rows.About.TheVariants.{Records, Meet, Darts, PolygonAlone, PolygonTlid, PolygonOther, Cells, Faces}
use Rattle.tl_check_planar.specs.declared.meet.Meet.{Meet as TheMeet}
use Rattle.tl_map_county.specs.TheMap.{MapChain}
use Rattle.tigertopo_faults.specs.declared.records.subject.Subject.{Subject}
use Rattle.tigertopo_faults.specs.declared.records.line.RecordLine.{RecordLine}
use Rattle.tigertopo_faults.specs.Records.SpokenOf.{Subjects, subjects_about}
use Rattle.tigertopo_faults.specs.Lines.Places.{place_at}
use Rattle.tigertopo_faults.specs.Lines.Texts.{lines_for, placed_fault_text, placed_faults_text, record_line_text, record_lines_text, spoken_of}

-- of what is about no segments, the records about its subjects
pub spoken_other : (chains : List MapChain) (about : Subject → List RecordLine) (it : About) → ((meet : TheMeet) → it ≡ Meet meet → ⊥)
    → spoken_of chains about it ≡ (lines_for about (subjects_about chains it).0, lines_for about (subjects_about chains it).1)
spoken_other chains about (Records it) other = refl
spoken_other chains about (Meet meet) other = absurd (other meet refl)
spoken_other chains about (Darts node first next) other = refl
spoken_other chains about (PolygonAlone key) other = refl
spoken_other chains about (PolygonTlid key tlid) other = refl
spoken_other chains about (PolygonOther key second) other = refl
spoken_other chains about (Cells odds) other = refl
spoken_other chains about (Faces fault) other = refl

-- so they are these, where these are about its subjects
pub spoken_parts : (chains : List MapChain) (about : Subject → List RecordLine) (it : About) (subjects : Subjects) (first second : List RecordLine) → ((meet : TheMeet) → it ≡ Meet meet → ⊥)
    → subjects ≡ subjects_about chains it → first ≡ lines_for about subjects.0 → second ≡ lines_for about subjects.1 → (first, second) ≡ spoken_of chains about it
spoken_parts chains about it subjects first second other is one two =
    (λ i. (one i, two i)) ∙ ap (λ (s : Subjects). (lines_for about s.0, lines_for about s.1)) is ∙ sym (spoken_other chains about it other)

-- the line of a record before those behind it
pub line_next : (names : List (List ℕ)) (counts : List ℕ) (at : Option Rational) (lines : List RecordLine) (i : ℕ) (d : RecordLine) → i < length lines
    → record_lines_text names counts at (drop i lines) ≡ record_line_text names counts at (get_or lines i d) ++ record_lines_text names counts at (drop (i + 1) lines)
line_next names counts at lines i d within = ap (record_lines_text names counts at) (drop_more lines i d within)

pub lines_end : (names : List (List ℕ)) (counts : List ℕ) (at : Option Rational) (lines : List RecordLine) (i : ℕ) → length lines ≤ i → record_lines_text names counts at (drop i lines) ≡ []
lines_end names counts at lines i past = ap (record_lines_text names counts at) (drop_all i lines past)

-- a fault before those behind it
module _ (names : List (List ℕ)) (counts : List ℕ) (chains : List MapChain) (about : Subject → List RecordLine) (places : List (Option Rational)) (faults : List MapFault) (i : ℕ) where
  pub fault_next : (fault : MapFault) → i < length faults → fault ≡ get_or faults i fault
      → placed_faults_text names counts chains about places i (drop i faults)
      ≡ placed_fault_text names counts chains about (place_at places i) fault ++ placed_faults_text names counts chains about places (i + 1) (drop (i + 1) faults)
  fault_next fault within is =
      rw is (ap (placed_faults_text names counts chains about places i) (drop_more faults i fault within))

  pub faults_end : length faults ≤ i → placed_faults_text names counts chains about places i (drop i faults) ≡ []
  faults_end past = ap (placed_faults_text names counts chains about places i) (drop_all i faults past)
