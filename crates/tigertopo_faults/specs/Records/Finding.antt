-- The lines of the records that faults speak of, as they are found in a text.
use Rattle.std.specs.Prelude.{◌≡◌, ℕ, ⊤, List, Option, None, Some, slice_get}
use Rattle.tl_record.specs.declared.record.Record.{Record}
use Rattle.tl_map_county.specs.TheMap.{MapChain}
use Rattle.tl_check_verdict.specs.declared.fault.MapFault.{MapFault}
use Rattle.tigertopo_faults.specs.declared.records.subject.Subject.{Subject}
use Rattle.tigertopo_faults.specs.declared.records.lines.RecordLines.{RecordLines}
use Rattle.tigertopo_faults.specs.Records.SpokenOf.{lines_about, subjects_of}
use Rattle.tigertopo_faults.specs.Records.Keeping.{held}

-- the lines of a subject are held, where there is one
abbrev pub HoldsLines : List (ℕ × Record) → RecordLines → Option Subject → Type 0
HoldsLines entries kept None = ⊤
HoldsLines entries kept (Some s) = held kept s ≡ lines_about entries s

-- all lines of the records that the faults speak of are held: of each subject those of the entries that it names, in their
-- order
abbrev pub HoldsAll : List MapChain → List MapFault → List (ℕ × Record) → RecordLines → Type 0
HoldsAll chains faults entries kept = (k : ℕ) (fault : MapFault) → slice_get faults k ≡ Some fault
    → HoldsLines entries kept (subjects_of chains fault).0 × HoldsLines entries kept (subjects_of chains fault).1
