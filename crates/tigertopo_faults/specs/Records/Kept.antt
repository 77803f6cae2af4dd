-- How lines are kept.
use Rattle.std.specs.Prelude.{◌≡◌, ℕ, Bool, true, List, [], ◌∷◌, ◌++◌, Option, None, is_some, map, slice_get, if◌then◌else◌, Vec}
use Rattle.std.specs.Global.{Global}
use Rattle.std.specs.Option.{option_map_or}
use Rattle.indexmap.specs.IndexSet.{index_of}
use Rattle.tl_record.specs.declared.record.Record.{Record}
use Rattle.tigertopo_faults.specs.declared.records.subject.Subject.{Subject}
use Rattle.tigertopo_faults.specs.declared.records.subject.Subject.TheVariants.{Drawn}
use Rattle.tigertopo_faults.specs.declared.records.line.RecordLine.{RecordLine}
use Rattle.tigertopo_faults.specs.declared.records.kept.KeptLines.{KeptLines}
use Rattle.tigertopo_faults.specs.declared.records.walk.HeldSegment.{HeldSegment}
use Rattle.tigertopo_faults.specs.Records.SpokenOf.{is_about, line_of, lines_about}
use Rattle.tigertopo_faults.specs.Records.Naming.{same_subject, is_subject}
use Rattle.tigertopo_faults.specs.Records.Ends.{segments_held}

-- the lines that are kept of a subject
abbrev pub kept_of : KeptLines → Subject → List RecordLine
kept_of kept s = option_map_or (λ number. option_map_or (λ lines. lines.items) (slice_get kept.lines.items number) []) (index_of same_subject kept.subjects s) []

-- is a subject wanted
abbrev pub is_wanted : KeptLines → Subject → Bool
is_wanted kept s = is_some (index_of same_subject kept.subjects s)

-- a line more is kept of a subject, where that is wanted, and nothing else changes
pub record Grows (old new : KeptLines) (to : Option Subject) (line : RecordLine) : Type 0 where
  pub wanted : (s : Subject) → is_wanted new s ≡ is_wanted old s
  pub lines : (s : Subject) → is_wanted old s ≡ true → kept_of new s ≡ kept_of old s ++ (if is_subject to s then line ∷ [] else [])

-- a record is kept of each wanted subject that names it
pub record Notes (old new : KeptLines) (entry : ℕ × Record) : Type 0 where
  pub wanted : (s : Subject) → is_wanted new s ≡ is_wanted old s
  pub lines : (s : Subject) → is_wanted old s ≡ true → kept_of new s ≡ kept_of old s ++ (if is_about s entry.1 then line_of entry ∷ [] else [])

-- so are several records, one after the other
pub record NotesAll (old new : KeptLines) (entries : List (ℕ × Record)) : Type 0 where
  pub wanted : (s : Subject) → is_wanted new s ≡ is_wanted old s
  pub lines : (s : Subject) → is_wanted old s ≡ true → kept_of new s ≡ kept_of old s ++ lines_about entries s

-- the segments of the chain that a subject draws, in a telling, if it is one that does
abbrev pub walked : ℕ → Subject → List RecordLine → List HeldSegment
walked telling (Drawn tlid) lines = segments_held telling lines
walked telling other lines = []

-- those of all subjects, each with its lines
abbrev pub all_walked : ℕ → List Subject → List (Vec RecordLine Global) → List (List HeldSegment)
all_walked telling [] lines = []
all_walked telling (s ∷ more) [] = []
all_walked telling (s ∷ more) (lines ∷ rest) = walked telling s lines.items ∷ all_walked telling more rest

-- the segments, each list alone
abbrev pub in_lists : List (Vec HeldSegment Global) → List (List HeldSegment)
in_lists segments = map (λ its. its.items) segments

-- the segment with this number, of the subject with this number, where there is one
abbrev pub segment_of : List (List HeldSegment) → ℕ → ℕ → Option HeldSegment
segment_of all number k = option_map_or (λ (its : List HeldSegment). slice_get its k) (slice_get all number) None
