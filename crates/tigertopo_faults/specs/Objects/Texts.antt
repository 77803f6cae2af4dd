-- Faults as objects of JSON, each on a line of its own.
use Rattle.std.specs.Prelude.{ℕ, zero, suc, List, [], ◌++◌, Option, codes, length, slice_get}
use Rattle.std.specs.Option.{option_map_or}
use Rattle.tl_geom.specs.declared.rational.Rational.{Rational}
use Rattle.tl_map_county.specs.TheMap.{MapChain}
use Rattle.tl_check_verdict.specs.declared.fault.MapFault.{MapFault}
use Rattle.tl_check_verdict.specs.declared.rows.About.{About}
use Rattle.tl_check_verdict.specs.Rows.{row}
use Rattle.tigertopo_words.specs.declared.budget.Told.{Told}
use Rattle.tigertopo_faults.specs.declared.records.line.RecordLine.{RecordLine}
use Rattle.tigertopo_faults.specs.declared.records.subject.Subject.{Subject}
use Rattle.tigertopo_faults.specs.Lines.Places.{place_at}
use Rattle.tigertopo_faults.specs.Lines.Texts.{chosen}
use Rattle.tigertopo_faults.specs.Geojson.Records.{spoken_lines, records_text}
use Rattle.tigertopo_faults.specs.Geojson.Texts.{words_text, names_text}
use Rattle.tigertopo_faults.specs.Objects.About.{details_text}
use Rattle.tigertopo_faults.specs.Objects.Places.{place_text}
use Rattle.tigertopo_faults.specs.Objects.Ends.{faults_end}

-- what a fault is about
unfoldable pub about_text : List MapChain → About → List ℕ
about_text chains about = codes ",\"about\":{" ++ names_text chains about ++ details_text about ++ codes "}"

-- a fault: its words, what it is about, where it lies and the records that it speaks of
unfoldable pub object_text : List (List ℕ) → List ℕ → List MapChain → (Subject → List RecordLine) → Option Rational → MapFault → List ℕ
object_text names counts chains about at fault =
    codes "{\"is\":\"fault\"," ++ words_text (row fault) ++ about_text chains (row fault).2 ++ codes ",\"place\":" ++ place_text at
    ++ records_text names counts (spoken_lines chains about (row fault).2) ++ codes "}\n"

-- the fault with this number, at the place with it
abbrev pub fault_object : List (List ℕ) → List ℕ → List MapChain → (Subject → List RecordLine) → List (Option Rational) → List MapFault → ℕ → List ℕ
fault_object names counts chains about places faults n = option_map_or (object_text names counts chains about (place_at places n)) (slice_get faults n) []

-- the objects that `object` gives below n
abbrev pub objects_below : (ℕ → List ℕ) → ℕ → List ℕ
objects_below object zero = []
objects_below object (suc n) = objects_below object n ++ object n

-- the first fault, or all, or so many from the front, each with its place and its records; and how many there are
unfoldable pub objects_text : List (List ℕ) → List ℕ → List MapChain → (Subject → List RecordLine) → List (Option Rational) → Told → List MapFault → ℕ → List ℕ
objects_text names counts chains about places told faults touched =
    objects_below (fault_object names counts chains about places (chosen told faults)) (length (chosen told faults))
    ++ faults_end (length faults) (length (chosen told faults)) touched
