-- Which records a fault speaks of.
use Rattle.std.specs.Prelude.{◌≡◌, ◌⊎◌, ℕ, ◌==◌, ◌&&◌, Bool, false, List, [], ◌∷◌, ◌++◌, Option, None, Some, option_map, if◌then◌else◌}
use Rattle.tl_record.specs.declared.record.Record.{Record}
use Rattle.tl_record.specs.declared.record.Record.TheVariants.{Chain, Shape, Sides, PolyPoint, AreaLink}
use Rattle.tl_map_county.specs.TheMap.{TheMap, MapChain}
use Rattle.tl_map_county.specs.Darts.{chain_of}
use Rattle.tl_map_rules.specs.MapOf.{same_key}
use Rattle.tl_check_faces.specs.declared.fault.FaceFault.{FaceFault}
use Rattle.tl_check_faces.specs.declared.fault.FaceFault.TheVariants.{Facing, Outward}
use Rattle.tl_check_verdict.specs.declared.fault.MapFault.{MapFault}
use Rattle.tl_check_verdict.specs.declared.rows.About.{About}
use Rattle.tl_check_verdict.specs.declared.rows.About.TheVariants as about
use Rattle.tl_map_rules.specs.declared.rows.AboutRecords.{AboutRecords}
use Rattle.tl_map_rules.specs.declared.rows.AboutRecords.TheVariants as which
use Rattle.tl_map_rules.specs.declared.rows.Which.{Which}
use Rattle.tl_map_rules.specs.declared.rows.Which.TheVariants as records
use Rattle.tl_check_verdict.specs.Rows.{row}
use Rattle.tigertopo_faults.specs.declared.records.subject.Subject.{Subject}
use Rattle.tigertopo_faults.specs.declared.records.subject.Subject.TheVariants as subject
use Rattle.tigertopo_faults.specs.declared.records.line.RecordLine.{RecordLine}

-- does a subject name the record
abbrev pub is_about : Subject → Record → Bool
is_about (subject.Chain t) (Chain tlid from to) = tlid == t
is_about (subject.Shape t) (Shape tlid rtsq pairs) = tlid == t
is_about (subject.Drawn t) (Chain tlid from to) = tlid == t
is_about (subject.Drawn t) (Shape tlid rtsq pairs) = tlid == t
is_about (subject.Sides t) (Sides tlid start_cell end_cell left right) = tlid == t
is_about (subject.Polygon k) (PolyPoint key point) = same_key key k
is_about (subject.Land n) (AreaLink key land) = land == n
is_about (subject.Link k n) (AreaLink key land) = same_key key k && (land == n)
is_about s r = false

-- a record with the number of its line
abbrev pub line_of : ℕ × Record → RecordLine
line_of entry = record { line = entry.0; holds = entry.1; ends = None }

-- the records that a subject names, with their lines, in the order of the text
abbrev pub lines_about : List (ℕ × Record) → Subject → List RecordLine
lines_about [] s = []
lines_about (entry ∷ rest) s = if is_about s entry.1 then line_of entry ∷ lines_about rest s else lines_about rest s

-- one subject or two, or none
abbrev pub Subjects : Type 0
Subjects = Option Subject × Option Subject

-- the TLID of a dart's chain
abbrev pub tlid_of : List MapChain → ℕ → Option ℕ
tlid_of chains dart = option_map (λ (chain : MapChain). chain.tlid) (chain_of chains dart)

-- the second of two TLIDs, unless it is the first
abbrev pub other_tlid : Option ℕ → Option ℕ → Option ℕ
other_tlid (Some tlid) (Some other) = if tlid == other then None else Some other
other_tlid tlid other = other

-- what lies on both sides of the chains of two darts
abbrev pub sides_of_darts : Option ℕ → Option ℕ → Subjects
sides_of_darts tlid other = (option_map subject.Sides tlid, option_map subject.Sides (other_tlid tlid other))

-- these records of a TLID
abbrev pub subject_in : Which → ℕ → Subject
subject_in records.Chain t = subject.Chain t
subject_in records.Shape t = subject.Shape t
subject_in records.Drawn t = subject.Drawn t
subject_in records.Sides t = subject.Sides t

-- what lies on both sides of the chains of faces that disagree
abbrev pub subjects_of_faces : FaceFault → Subjects
subjects_of_faces (Facing first last) = sides_of_darts (Some first.tlid) (Some last.tlid)
subjects_of_faces (Outward face way) = (Some (subject.Sides face.tlid), None)

-- what a fault of records speaks of
abbrev pub subject_about : AboutRecords → Option Subject
subject_about (which.Tlid t records) = Some (subject_in records t)
subject_about (which.Polygon k) = Some (subject.Polygon k)
subject_about (which.TlidPolygon t k) = Some (subject.Sides t)
subject_about (which.Land n) = Some (subject.Land n)
subject_about (which.PolygonLand k n) = Some (subject.Link k n)
subject_about (which.Limit what) = None
subject_about (which.Types lacking) = None

-- what a fault speaks of, by what it is about, where these are the map's chains
abbrev pub subjects_about : List MapChain → About → Subjects
subjects_about chains (about.Records it) = (subject_about it, None)
subjects_about chains (about.Meet meet) = (Some (subject.Drawn meet.tlid), option_map subject.Drawn (other_tlid (Some meet.tlid) (Some meet.other)))
subjects_about chains (about.Darts node first next) = sides_of_darts (tlid_of chains first) (tlid_of chains next)
subjects_about chains (about.PolygonAlone k) = (Some (subject.Polygon k), None)
subjects_about chains (about.PolygonTlid k t) = (Some (subject.Polygon k), Some (subject.Drawn t))
subjects_about chains (about.PolygonOther k other) = (Some (subject.Polygon k), Some (subject.Polygon other))
subjects_about chains (about.Cells odds) = sides_of_darts (tlid_of chains odds.first) (tlid_of chains odds.second)
subjects_about chains (about.Faces fault) = subjects_of_faces fault

-- what a fault speaks of
abbrev pub subjects_of : List MapChain → MapFault → Subjects
subjects_of chains fault = subjects_about chains (row fault).2

-- the lines about a subject, where there is one
abbrev pub lines_about_some : List (ℕ × Record) → Option Subject → List RecordLine
lines_about_some entries None = []
lines_about_some entries (Some s) = lines_about entries s

-- the lines of the records that a fault speaks of: those about its first subject, then those about its second
abbrev pub lines_of : List MapChain → List (ℕ × Record) → MapFault → List RecordLine
lines_of chains entries fault =
    lines_about_some entries (subjects_of chains fault).0 ++ lines_about_some entries (subjects_of chains fault).1

-- the chains of a map, where there is one
abbrev pub chains_of : Option TheMap → List MapChain
chains_of None = []
chains_of (Some m) = m.chains

-- one of the faults speaks of the subject
abbrev pub AreSpokenOf : List MapChain → List MapFault → Subject → Type 0
AreSpokenOf chains [] s = ⊥
AreSpokenOf chains (fault ∷ rest) s =
    ((subjects_of chains fault).0 ≡ Some s) ⊎ (((subjects_of chains fault).1 ≡ Some s) ⊎ AreSpokenOf chains rest s)
