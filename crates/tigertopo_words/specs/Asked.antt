-- What is asked by a request.
use Rattle.std.specs.Prelude.{◌≡◌, ℕ, Bool, List, Option, Some, None, map, option_map, ⊤, string_bytes, codes}
use Rattle.clap.specs.Walk.{Row, Text}
use Rattle.tigertopo_words.specs.declared.asked.Command.{Command}
use Rattle.tigertopo_words.specs.declared.asked.Asked.{Asked}
use Rattle.tigertopo_words.specs.declared.asked.Asked.TheVariants.{Show, Landmarks, Locate, Audit, Build, Check, Convert, Export, Draw, Border}
use Rattle.tigertopo_words.specs.declared.asked.View.{View}
use Rattle.tigertopo_words.specs.declared.form.Form.{Form}
use Rattle.tigertopo_words.specs.declared.layer.Layer.{Layer}
use Rattle.tigertopo_words.specs.declared.budget.Told.{Told}
use Rattle.tigertopo_words.specs.declared.table.Named.{Named}
use Rattle.tigertopo_words.specs.declared.table.Named.TheVariants as name
use Rattle.tigertopo_words.specs.Commands.{name_of}
use Rattle.tigertopo_words.specs.Arguments.{IsSwitch, IsForm, IsBudget, AskForTold, IsLayer, IsPlace, IsView, FacesNeedFaults, IsCenid}
use Rattle.tigertopo_words.specs.Requests.{Request, given_by, word_for, AreFiles, AreOptions, IsWatched, HasNeeds, IsWhole}

-- the command that asks for it
abbrev pub named_of : Asked → Named
named_of Show = name.Show
named_of Landmarks = name.Landmarks
named_of (Locate point) = name.Locate
named_of (Audit told form made) = name.Audit
named_of (Build made) = name.Build
named_of (Check cert budget) = name.Check
named_of (Convert cert made) = name.Convert
named_of (Export made layer) = name.Export
named_of (Draw made view faults) = name.Draw
named_of (Border cenid made) = name.Border

-- the name of the certificate that is read, if one is
abbrev pub cert_of : Asked → Option Text
cert_of (Check cert budget) = Some (string_bytes cert)
cert_of (Convert cert made) = Some (string_bytes cert)
cert_of other = None

-- the name of the file that is made, if one is
abbrev pub made_of : Asked → Option Text
made_of (Audit told form made) = option_map string_bytes made
made_of (Build made) = Some (string_bytes made)
made_of (Convert cert made) = Some (string_bytes made)
made_of (Export made layer) = Some (string_bytes made)
made_of (Draw made view faults) = Some (string_bytes made)
made_of (Border cenid made) = Some (string_bytes made)
made_of other = None

-- the request asks for so many faults, in this form, and for this file of GeoJSON, word for word, or for none
pub record AsksToAudit (given : Request) (told : Told) (form : Form) (made : Option Text) : Type 0 where
  pub asked : AskForTold (word_for given (codes "all")) (word_for given (codes "most")) (word_for given (codes "skip-refused")) told
  pub formed : IsForm (word_for given (codes "where")) (word_for given (codes "json")) form
  pub to : word_for given (codes "geojson") ≡ made

-- the request asks for a check by this certificate, word for word, with this budget
pub record AsksToCheck (given : Request) (cert : Text) (budget : ℕ) : Type 0 where
  pub by : word_for given (codes "cert") ≡ Some cert
  pub tests : IsBudget (word_for given (codes "tests")) budget

-- the request asks for a conversion of this certificate to that one, word for word
pub record AsksToConvert (given : Request) (cert made : Text) : Type 0 where
  pub from : word_for given (codes "cert") ≡ Some cert
  pub to : word_for given (codes "out") ≡ Some made

-- the request asks for this file, word for word, of this layer or of all
pub record AsksToExport (given : Request) (made : Text) (layer : Option Layer) : Type 0 where
  pub to : word_for given (codes "geojson") ≡ Some made
  pub of : IsLayer (word_for given (codes "layer")) layer

-- the request asks for this picture, word for word, with this view and with faults or without, and for faces only with faults
pub record AsksToDraw (given : Request) (made : Text) (view : Option View) (faults : Bool) : Type 0 where
  pub to : word_for given (codes "out") ≡ Some made
  pub seen : IsView (word_for given (codes "at")) (word_for given (codes "width")) view
  pub shown : IsSwitch (word_for given (codes "faults")) faults
  pub needed : FacesNeedFaults (word_for given (codes "faces")) (word_for given (codes "faults"))

-- the request asks for this file, word for word, of a border whose polygon has this CENID
pub record AsksForBorder (given : Request) (cenid : List ℕ) (made : Text) : Type 0 where
  pub to : word_for given (codes "out") ≡ Some made
  pub of : IsCenid (word_for given (codes "name")) cenid

-- what a request gives for the arguments of its command is what is asked
abbrev pub IsAsked : Request → Asked → Type 0
IsAsked given Show = ⊤
IsAsked given Landmarks = ⊤
IsAsked given (Locate point) = IsPlace (word_for given (codes "point")) point
IsAsked given (Audit told form made) = AsksToAudit given told form (option_map string_bytes made)
IsAsked given (Build made) = word_for given (codes "out") ≡ Some (string_bytes made)
IsAsked given (Check cert budget) = AsksToCheck given (string_bytes cert) budget
IsAsked given (Convert cert made) = AsksToConvert given (string_bytes cert) (string_bytes made)
IsAsked given (Export made layer) = AsksToExport given (string_bytes made) layer
IsAsked given (Draw made view faults) = AsksToDraw given (string_bytes made) view faults
IsAsked given (Border cenid made) = AsksForBorder given cenid (string_bytes made)

-- the request is one for the command: it names it, asks for what is asked, and gives its options, its files, word for word and in
-- their order, and its switch for progress
pub record IsFor (request : Option Request) (command : Command) : Type 0 where
  pub given : Request
  pub same : request ≡ Some given
  pub named : given.0 ≡ name_of (named_of command.asked)
  pub asked : IsAsked given command.asked
  pub chosen : AreOptions (named_of command.asked) given command.options
  pub are : AreFiles (named_of command.asked) given (map string_bytes command.files.items)
  pub watched : IsWatched (named_of command.asked) given command.progress

-- the command that a request is for, if it is for one
abbrev pub IsCommandOf : Option Request → Option Command → Type 0
IsCommandOf request (Some command) = IsFor request command
IsCommandOf request None = ¬ IsWhole request

-- what is asked by a command with these arguments, if they are all that it needs beside files
abbrev pub IsAskedBy : Named → List Row → Option Asked → Type 0
IsAskedBy named rows (Some asked) = (named_of asked ≡ named) × IsAsked (given_by named rows) asked
IsAskedBy named rows None = ¬ HasNeeds named (given_by named rows)
