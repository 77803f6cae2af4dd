-- What is given for the arguments of commands, and what it means.
use Rattle.std.specs.Prelude.{◌≡◌, ◌≢◌, ◌<◌, ◌≤◌, ◌↔◌, ℕ, Bool, IsTrue, List, Option, Some, None, length, ⊤, codes, decimal, true, [], ◌∷◌, slice_index_or}
use Rattle.std.specs.List.{list_all}
use Rattle.clap.specs.Walk.{Text}
use Rattle.tl_geom.specs.declared.point.Point.{Point}
use Rattle.tl_record.specs.Fields.{is_cenid_byte}
use Rattle.tigertopo_words.specs.declared.asked.View.{View}
use Rattle.tigertopo_words.specs.declared.budget.Told.{Told}
use Rattle.tigertopo_words.specs.declared.budget.Told.TheVariants.{One, All}
use Rattle.tigertopo_words.specs.declared.form.Form.{Form}
use Rattle.tigertopo_words.specs.declared.form.Form.TheVariants.{Lines, Records, Objects}
use Rattle.tigertopo_words.specs.declared.layer.Layer.{Layer}
use Rattle.tigertopo_words.specs.declared.layer.Layer.TheVariants.{Chains, Points, Polygons, Landmarks}
use Rattle.tigertopo_words.specs.Points.{Spells}

-- a text was given
abbrev pub IsGiven : Option Text → Type 0
IsGiven given = (text : Text) × (given ≡ Some text)

-- what was given for FILES is these texts, of which there is one at least
abbrev pub AreSome : Option (List Text) → List Text → Type 0
AreSome given files = (given ≡ Some files) × (0 < length files)

-- a switch is on exactly where its value is the word true
abbrev pub IsSwitch : Option Text → Bool → Type 0
IsSwitch given on = IsTrue on ↔ (given ≡ Some (codes "true"))

-- the greatest number that can be given, which is the budget where none is
abbrev pub greatest_budget : ℕ
greatest_budget = 18446744073709551615

-- the text is this number, with no sign and no leading zero
abbrev pub IsSpelt : Text → ℕ → Type 0
IsSpelt text number = (text ≡ decimal number) × (number ≤ greatest_budget)

-- what was given for --tests, if anything was, is this number
abbrev pub IsBudget : Option Text → ℕ → Type 0
IsBudget None budget = budget ≡ greatest_budget
IsBudget (Some text) budget = IsSpelt text budget

-- what was given for --most is this number, where anything was
abbrev pub IsMost : Option Text → Option ℕ → Type 0
IsMost None None = ⊤
IsMost None (Some number) = ⊥
IsMost (Some text) None = ⊥
IsMost (Some text) (Some number) = IsSpelt text number

-- what was given for --all, for --most and for --skip-refused asks for one fault
pub record AskForOne (all most skipped : Option Text) : Type 0 where
  pub one : all ≢ Some (codes "true")
  pub no_most : most ≡ None
  pub no_skip : skipped ≢ Some (codes "true")

-- or for all faults, of which so many are to be told, or each, and whether refused lines are passed over
pub record AskForAll (all most skipped : Option Text) (number : Option ℕ) (skips : Bool) : Type 0 where
  pub each : all ≡ Some (codes "true")
  pub told : IsMost most number
  pub passed : IsSwitch skipped skips

-- so many faults are asked for
abbrev pub AskForTold : (all most skipped : Option Text) → Told → Type 0
AskForTold all most skipped One = AskForOne all most skipped
AskForTold all most skipped (All number skips) = AskForAll all most skipped number skips

-- some are
abbrev pub AskForFaults : (all most skipped : Option Text) → Type 0
AskForFaults all most skipped = (told : Told) × AskForTold all most skipped told

-- what was given for --where and for --json asks for this form: --json for objects, whatever --where says
abbrev pub IsForm : (places objects : Option Text) → Form → Type 0
IsForm places objects Lines = (objects ≢ Some (codes "true")) × (places ≢ Some (codes "true"))
IsForm places objects Records = (objects ≢ Some (codes "true")) × (places ≡ Some (codes "true"))
IsForm places objects Objects = objects ≡ Some (codes "true")

-- the word for a layer
abbrev pub layer_word : Layer → Text
layer_word Chains = codes "chains"
layer_word Points = codes "points"
layer_word Polygons = codes "polygons"
layer_word Landmarks = codes "landmarks"

-- what was given for --layer is the word for this one, or nothing was given
abbrev pub IsLayer : Option Text → Option Layer → Type 0
IsLayer None None = ⊤
IsLayer None (Some layer) = ⊥
IsLayer (Some word) None = ⊥
IsLayer (Some word) (Some layer) = word ≡ layer_word layer

-- what was given for @X,Y spells this point
abbrev pub IsPlace : Option Text → Point → Type 0
IsPlace None point = ⊥
IsPlace (Some word) point = Spells word point

-- the greatest width of a view: the whole way round
abbrev pub greatest_width : ℕ
greatest_width = 360000000

-- the word is this number, from 1 to the greatest width
pub record SpellsWidth (word : Text) (width : ℕ) : Type 0 where
  pub is : IsSpelt word width
  pub some : 1 ≤ width
  pub most : width ≤ greatest_width

-- the two words are this view
pub record SpellsView (center width : Text) (view : View) : Type 0 where
  pub at : Spells center view.center
  pub wide : SpellsWidth width view.width

-- what was given for --at and for --width is this view, or nothing was given for either
abbrev pub IsView : (center width : Option Text) → Option View → Type 0
IsView None None None = ⊤
IsView (Some center) (Some width) (Some view) = SpellsView center width view
IsView center width view = ⊥

-- faces are asked for only where faults are
abbrev pub FacesNeedFaults : (faces faults : Option Text) → Type 0
FacesNeedFaults faces faults = faces ≡ Some (codes "true") → faults ≡ Some (codes "true")

-- the word filled up with blanks to the five bytes of a CENID
abbrev pub filled_up : Text → List ℕ
filled_up word =
    slice_index_or word 0 32 ∷ slice_index_or word 1 32 ∷ slice_index_or word 2 32 ∷ slice_index_or word 3 32 ∷ slice_index_or word 4 32 ∷ []

-- the word has one to five bytes, which a CENID may have, and filled up it is this one
pub record SpellsCenid (word : Text) (cenid : List ℕ) : Type 0 where
  pub some : 1 ≤ length word
  pub most : length word ≤ 5
  pub bytes : list_all is_cenid_byte word ≡ true
  pub is : cenid ≡ filled_up word

-- what was given for --name spells this CENID
abbrev pub IsCenid : Option Text → List ℕ → Type 0
IsCenid None cenid = ⊥
IsCenid (Some word) cenid = SpellsCenid word cenid
