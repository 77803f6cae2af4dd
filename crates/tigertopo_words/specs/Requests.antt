-- A command with what is given for its arguments, and what it wants of that. How a simple command's words are read is clap's own
-- definition: `subcommand_of`, which is the command that the words name, with its arguments.
use Rattle.std.specs.Prelude.{◌≡◌, ℕ, Bool, true, false, List, [], Option, Some, None, ⊤, codes, if◌then◌else◌}
use Rattle.clap.specs.Simple.{subcommand_of}
use Rattle.clap.specs.Walk.{Row, Text, all_of, first_of}
use Rattle.tl_geom.specs.declared.point.Point.{Point}
use Rattle.tl_record.specs.declared.options.Options.{Options}
use Rattle.tigertopo_words.specs.declared.asked.View.{View}
use Rattle.tigertopo_words.specs.declared.layer.Layer.{Layer}
use Rattle.tigertopo_words.specs.declared.table.Named.{Named}
use Rattle.tigertopo_words.specs.declared.table.Named.TheVariants.{Show, Landmarks, Locate, Audit, Build, Check, Convert, Export, Draw, Border}
use Rattle.tigertopo_words.specs.Commands.{command_line, name_of, has_argument}
use Rattle.tigertopo_words.specs.Arguments.{IsGiven, AreSome, IsSwitch, IsBudget, AskForFaults, IsLayer, IsPlace, IsView, FacesNeedFaults, IsCenid}

-- a command that words name, with what they give for its arguments
abbrev pub Request : Type 0
Request = Text × List Row

-- the command that the words name, with what they give for its arguments
abbrev pub named_command : List Text → Option Request
named_command words = subcommand_of command_line words

-- a command of the program, with its arguments
abbrev pub given_by : Named → List Row → Request
given_by named rows = (name_of named, rows)

-- what was given for the argument of this name, if anything was: of a switch the word true, where the switch is given
abbrev pub word_for : Request → Text → Option Text
word_for given name = first_of name given.1

-- the same of a switch that not each command has
abbrev pub switch_for : Named → Request → Text → Option Text
switch_for named given name = if has_argument named name then word_for given name else None

-- what a command's files are: those that are given, word for word and in their order, of which there is one at least; or none, of a
-- command that has no files
abbrev pub AreNamed : (has_files : Bool) → Option (List Text) → List Text → Type 0
AreNamed true given files = AreSome given files
AreNamed false given files = files ≡ []

abbrev pub AreFiles : Named → Request → List Text → Type 0
AreFiles named given files = AreNamed (has_argument named (codes "files")) (all_of (codes "files") given.1) files

-- what says whether faces are asked for: of a border they always are
abbrev pub faces_for : Named → Request → Option Text
faces_for Border given = Some (codes "true")
faces_for named given = switch_for named given (codes "faces")

-- what its options are: what the switches say that it has, and else nothing
pub record AreOptions (named : Named) (given : Request) (options : Options) : Type 0 where
  pub columns : IsSwitch (switch_for named given (codes "released")) options.released
  pub cells : IsSwitch (switch_for named given (codes "zero-cells")) options.zero_cells
  pub faced : IsSwitch (faces_for named given) options.faces
  pub joined : IsSwitch (switch_for named given (codes "join")) options.join
  pub whole : IsSwitch (switch_for named given (codes "complete")) options.complete

-- whether it is shown how far reading is: where the command has a switch for that and it is given
abbrev pub IsWatched : Named → Request → Bool → Type 0
IsWatched named given watched = IsSwitch (switch_for named given (codes "progress")) watched

-- a command is given what it needs beside files: the names of a certificate or of what is made, a budget that is a number, a point, a
-- number of faults and --skip-refused only where all are asked for, a layer or none, a view or none, faces only where faults are asked for, and a
-- CENID
abbrev pub HasNeeds : Named → Request → Type 0
HasNeeds Show given = ⊤
HasNeeds Landmarks given = ⊤
HasNeeds Locate given = (point : Point) × IsPlace (word_for given (codes "point")) point
HasNeeds Audit given = AskForFaults (word_for given (codes "all")) (word_for given (codes "most")) (word_for given (codes "skip-refused"))
HasNeeds Build given = IsGiven (word_for given (codes "out"))
HasNeeds Check given = IsGiven (word_for given (codes "cert")) × ((budget : ℕ) × IsBudget (word_for given (codes "tests")) budget)
HasNeeds Convert given = IsGiven (word_for given (codes "cert")) × IsGiven (word_for given (codes "out"))
HasNeeds Export given = IsGiven (word_for given (codes "geojson")) × ((layer : Option Layer) × IsLayer (word_for given (codes "layer")) layer)
HasNeeds Border given = IsGiven (word_for given (codes "out")) × ((name : List ℕ) × IsCenid (word_for given (codes "name")) name)
HasNeeds Draw given =
    IsGiven (word_for given (codes "out")) × ((view : Option View) × IsView (word_for given (codes "at")) (word_for given (codes "width")) view)
    × FacesNeedFaults (word_for given (codes "faces")) (word_for given (codes "faults"))

-- the request names a command of the program, and what it wants: its files and what it needs beside them
pub record IsWhole (request : Option Request) : Type 0 where
  pub given : Request
  pub named : Named
  pub files : List Text
  pub same : request ≡ Some given
  pub names : given.0 ≡ name_of named
  pub are : AreFiles named given files
  pub needs : HasNeeds named given
