-- The subjects that faults speak of, in a list.
use Rattle.std.specs.Prelude.{◌≡◌, ◌⊎◌, ℕ, ◌<◌, Contains, List, Some, slice_get}
use Rattle.tl_map_county.specs.TheMap.{MapChain}
use Rattle.tl_check_verdict.specs.declared.fault.MapFault.{MapFault}
use Rattle.tigertopo_faults.specs.declared.records.subject.Subject.{Subject}
use Rattle.tigertopo_faults.specs.Records.SpokenOf.{Subjects, subjects_of}

-- a list has each of the subjects
abbrev pub HasSubjects : List Subject → Subjects → Type 0
HasSubjects keys subjects = (s : Subject) → (subjects.0 ≡ Some s) ⊎ (subjects.1 ≡ Some s) → Contains keys s

-- a list has all subjects that the faults before a place speak of
abbrev pub HasFirst : List MapChain → List MapFault → List Subject → ℕ → Type 0
HasFirst chains faults keys count = (k : ℕ) (fault : MapFault) → k < count → slice_get faults k ≡ Some fault → HasSubjects keys (subjects_of chains fault)

-- a list has all subjects that the faults speak of
abbrev pub HasAll : List MapChain → List MapFault → List Subject → Type 0
HasAll chains faults keys = (k : ℕ) (fault : MapFault) → slice_get faults k ≡ Some fault → HasSubjects keys (subjects_of chains fault)
